-- Name lists and their tables of starts; comparing names; question 2 and names by number.
pub mod Laws
pub mod Compare
pub mod Question
pub mod Longer
