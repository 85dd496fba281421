pub mod TableLaws
mod Matching
