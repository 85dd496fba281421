pub mod WalkLaws
pub mod StartLaws
