-- Marks by name; the clauses of an entry; the whole.
pub mod MarkLaws
pub mod ClauseLaws
pub mod WholeLaws
