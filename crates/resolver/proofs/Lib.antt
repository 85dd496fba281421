mod OutcomeLaws
pub mod LentLaws
