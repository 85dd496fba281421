mod PreviewLaws
