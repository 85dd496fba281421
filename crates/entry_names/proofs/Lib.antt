-- Places of names in joined lists; an entry's names numbered and counted; its sheet word by word; new names appended; the way back.
pub mod PlaceLaws
pub mod NumberLaws
pub mod SheetLaws
pub mod AppendLaws
pub mod BackLaws
