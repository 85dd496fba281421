-- What the routine from text to text promises, and replies computed.
pub mod Reply
pub mod Examples
