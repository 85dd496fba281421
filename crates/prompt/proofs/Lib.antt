mod EnteredLaws
