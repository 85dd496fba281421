pub mod ReadyLaws
pub mod NoteLaws
pub mod StartedLaws
