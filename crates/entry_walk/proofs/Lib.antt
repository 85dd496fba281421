-- The walk of an entry: its events, the stack when its body ends, and what is declared there.
pub mod LaidLaws
pub mod StartLaws
