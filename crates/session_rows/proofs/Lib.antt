-- Runs of numbers; counts and class numbers in order.
pub mod RunLaws
pub mod OrderLaws
