-- What a climb answers and marks, and its answers on examples.
pub mod Process
pub mod Examples
