-- The name index, and values and searches computed.
pub mod Index
pub mod Samples
