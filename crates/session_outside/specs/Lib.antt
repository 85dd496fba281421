-- What a session is to an entry: the words that tell it, and of which session words they are made.
pub mod Written
pub mod Told
pub mod Readable
pub mod Samples
