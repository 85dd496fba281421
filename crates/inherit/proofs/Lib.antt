-- Classes, their parents and names; the run of parents; methods after inheritance; constructor calls.
mod ClassLaws
mod ParentLaws
pub mod MethodLaws
mod CallLaws
