-- The outcome of a sheet, question by question; the list as it is written.
pub mod AskedLaws
