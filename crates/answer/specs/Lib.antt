pub mod Tells
pub mod Fitted
