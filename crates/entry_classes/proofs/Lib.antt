-- What answer rows tell of classes, in row order; the words and counts of these; how many parameters a method has; one row; a loop over rows. And the
-- buffer of an accepted entry.
mod AnswerLaws
mod ToldLaws
mod ParamLaws
mod RowLaws
mod RunLaws
pub mod HeldLaws
