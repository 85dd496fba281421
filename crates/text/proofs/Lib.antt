-- The laws for callers are in Laws, RoundTrip and Longer; the rest are steps of the proofs.
pub mod Laws
pub mod Lists
pub mod Reading
pub mod Writing
pub mod RoundTrip
pub mod Longer
