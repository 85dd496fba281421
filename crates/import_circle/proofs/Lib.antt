-- What a search has found; that it finds all that chains lead to; ranks, and the lowest unit on a circle.
pub mod FoundLaws
pub mod SearchLaws
pub mod RankLaws
