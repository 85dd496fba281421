-- Classes yet to mark; steps; lines of parents that end, and the climb without marks; circles.
mod CountLaws
pub mod StepLaws
pub mod LineLaws
pub mod CircleLaws
