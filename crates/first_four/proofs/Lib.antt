mod EntryLaws
mod StateLaws
mod Noting
mod Filling
mod Clauses
mod Declaring
mod Unlike
mod Question3
pub mod Asking
