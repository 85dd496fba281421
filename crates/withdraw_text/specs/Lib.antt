-- What a withdrawal as text promises, and replies computed.
pub mod Reply
pub mod Examples
