-- The walk of an entry, and what it declared when its body ends.
pub mod Laid
