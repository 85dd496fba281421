-- The starts of listed names, and what reading the names answers.
pub mod NameLaws
