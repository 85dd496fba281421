-- Steps of the proofs.
pub mod EntryLaws
