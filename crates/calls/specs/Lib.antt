pub mod Callee
