mod ImportLaws
