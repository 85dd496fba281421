pub mod Decl
pub mod Kind
pub mod Question
pub mod Code
pub mod Refused
