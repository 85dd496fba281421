-- What callers cite is in Laws and Longer; the rest are steps of the proofs.
pub mod Laws
pub mod Longer
mod ReportLaws
