-- Steps of the proofs.
mod Laws
