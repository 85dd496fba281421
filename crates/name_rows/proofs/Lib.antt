pub mod KeptLaws
pub mod PutLaws
mod CopyLaws
