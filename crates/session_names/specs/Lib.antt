-- What reading the names of a session promises.
pub mod Listing
