pub mod BackLaws
mod ListLaws
mod StoreLaws
pub mod TableLaws
pub mod CodeLaws
