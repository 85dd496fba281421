-- Values; words from a place on; the walk over words; what a table of names holds; question 2 through it; what finding promises.
pub mod ValueLaws
pub mod TurnLaws
pub mod WalkLaws
pub mod StepLaws
pub mod IndexLaws
pub mod UnlikeLaws
pub mod FixedLaws
pub mod QuestionLaws
pub mod FindLaws
