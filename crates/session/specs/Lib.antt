-- Sessions, requests F-1 and F-7 of document 02: their value, an entry's sheet, what comes of entering it, a session as words and bytes, a withdrawal, and runs
-- of both.
pub mod Session
pub mod Entry
pub mod Enter
pub mod Words
pub mod Withdraw
pub mod Runs
pub mod Samples
pub mod Edges
pub mod RunSamples
