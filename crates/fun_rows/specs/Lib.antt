pub mod Literals
pub mod Escaping
