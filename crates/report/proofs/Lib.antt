-- What callers cite is in Laws; FitLaws has the loop of `write_fitted`, PrintLaws what `print_answer` writes.
pub mod Laws
mod FitLaws
mod PrintLaws
