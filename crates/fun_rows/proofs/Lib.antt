mod ListLaws
mod ChainLaws
mod EscapeLaws
