pub mod Sink
pub mod Written
