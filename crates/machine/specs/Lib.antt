-- The program's state machine over the events of the walk, what is read off its state after the walk, and a sample of both.
pub mod Machine
pub mod Reads
pub mod Space
pub mod Sample
