pub mod EnteredOver
