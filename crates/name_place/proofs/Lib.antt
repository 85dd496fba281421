-- Steps of the proofs.
mod PlaceLaws
