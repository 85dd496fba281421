pub mod NumberLaws
pub mod OwnerLaws
pub mod RowLaws
pub mod BasedLaws
