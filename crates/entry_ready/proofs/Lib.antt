pub mod AskedLaws
pub mod PastLaws
pub mod OverLaws
