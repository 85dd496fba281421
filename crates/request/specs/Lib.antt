-- What `read_request` promises, and its numbers on examples.
pub mod Verbs
pub mod Header
pub mod Examples
