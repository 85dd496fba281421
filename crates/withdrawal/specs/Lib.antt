pub mod Withdrawn
