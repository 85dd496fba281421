pub mod ToldLaws
pub mod SpaceLaws
pub mod OutcomeLaws
