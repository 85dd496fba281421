mod SpaceLaws
