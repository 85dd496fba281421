pub mod Columns
pub mod Ways
pub mod Samples
