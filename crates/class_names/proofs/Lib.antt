pub mod NameLaws
mod MarkLaws
