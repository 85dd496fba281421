pub mod Pass
pub mod Reading
