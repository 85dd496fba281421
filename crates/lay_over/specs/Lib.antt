pub mod LaidWords
