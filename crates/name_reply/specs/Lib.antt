-- What the routine from a number to text promises, and replies computed.
pub mod Reply
pub mod Examples
