pub mod StepLaws
pub mod VisitLaws
pub mod RunLaws
mod DeclareLaws
