pub mod Inherited
pub mod Rows
