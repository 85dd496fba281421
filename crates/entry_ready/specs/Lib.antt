pub mod Asked
pub mod Over
