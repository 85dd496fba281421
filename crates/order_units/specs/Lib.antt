pub mod Ordered
pub mod Settled
