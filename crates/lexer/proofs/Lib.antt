-- Callers' proofs cite the laws.
pub mod Laws
