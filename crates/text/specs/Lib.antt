-- What the routines promise. Reading and Writing are for callers; Lines is for the inner routines.
pub mod Reading
pub mod Writing
pub mod Lines
