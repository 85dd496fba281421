mod IdentLaws
