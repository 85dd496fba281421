pub mod ScratchLaws
mod ReadyLaws
mod RowLaws
