-- Request F-10 of document 02: which unit starts first. Imports, chains of them and the order over any list of units; then those of a sheet.
pub mod Imports
pub mod Order
pub mod Claims
pub mod Samples
