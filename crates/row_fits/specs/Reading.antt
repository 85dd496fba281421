-- What the program reads of a row.
use Rattle.std.specs.Prelude.{◌≡◌, ℕ, Option, Some, None, MatchOption}
use Rattle.ast.specs.declared.kind.Kind.{Kind}
use Rattle.ast.specs.Kind.{kind_number}
use Rattle.definition.specs.Sheet.{Sheet, kind, next, child, file, a, b}
use Rattle.row_fits.specs.declared.row.Row.{Row}
use Rattle.row_fits.specs.Pass.{Words}

-- the number of a kind, and 1, which is no kind's, for a number that is no kind's
abbrev pub number_or_one : Option Kind → ℕ
number_or_one (Some k) = kind_number k
number_or_one None = 1

-- the words that a row has as far as it was read
abbrev pub words_of : Row → Words
words_of w = record { kind = number_or_one w.kind; next = w.next; child = w.child; file = w.file; a = w.a; b = w.b }

-- what is read of row r
pub record ReadsRow (s : Sheet) (r : ℕ) (w : Row) : Type 0 where
  pub kind_read : MatchOption w.kind ((x : Kind) → kind s r ≡ kind_number x → ⊥) (λ x. kind s r ≡ kind_number x)
  pub next_read : w.next ≡ next s r
  pub child_read : w.child ≡ child s r
  pub file_read : w.file ≡ file s r
  pub a_read : w.a ≡ a s r
  pub b_read : w.b ≡ b s r
