-- What the routines from text to text promise, and replies computed.
pub mod Report
pub mod Examples
