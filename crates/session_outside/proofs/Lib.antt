-- Runs of words stored; an outside read back from its words; names laid each once; records and members, one class after another; the visible names;
-- all words together; and what question 23 says of a session's words.
pub mod StoreLaws
pub mod ReadLaws
pub mod NameLaws
pub mod RecordLaws
pub mod VisibleLaws
pub mod WholeLaws
pub mod ReadableLaws
