-- Rows of entries and class numbers as the program asks about them.
pub mod Rows
