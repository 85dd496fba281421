mod ColumnLaws
mod StableLaws
pub mod PlaceLaws
mod AboveLaws
mod LineLaws
mod ClassLaws
