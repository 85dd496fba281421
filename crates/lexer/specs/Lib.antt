pub mod SrcPos
