pub mod Report
pub mod Asked
