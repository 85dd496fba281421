pub mod EnvLaws
pub mod DeclLaws
