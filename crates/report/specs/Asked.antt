-- The reply to a sheet's text, whatever is asked of its rows.
use denote.Ref.{Bor, MutBor}
use Rattle.std.specs.Prelude.{◌≡◌, List, ◌++◌, ℕ, ◌*◌, ◌≤◌, length, take}
use Rattle.definition.specs.Text.{text_of}
use Rattle.answer.specs.declared.Answer.{Answer}
use Rattle.text.specs.Reading.{SheetRead}
use Rattle.text.specs.Writing.{rows_in}
use Rattle.report.specs.Report.{told_by, Begins}

-- the line of an answer x and its rows, with which the words `out` begin, as text
abbrev pub report_text : Answer → List ℕ → List ℕ
report_text x out = text_of (rows_in (told_by x ++ take (8 * x.rows) out))

-- Of k rows that are read of a sheet's text into `words`, with `lent` answer rows lent, the answer x is given, and a lent text then begins with its report.
pub record RepliedBy (asked : Bor (List ℕ) → MutBor (List ℕ) → Answer → MutBor (List ℕ) → Type 0) (sheet : List ℕ) (lent : ℕ) (before : List ℕ) (n : ℕ) (after : List ℕ) : Type 0 where
  pub k : ℕ
  pub words : List ℕ
  pub read : SheetRead sheet 16384 k words
  pub rows : Bor (List ℕ)
  pub rows_are : rows.now ≡ take (8 * k) words
  pub out : MutBor (List ℕ)
  pub room : length out.now ≡ 8 * lent
  pub x : Answer
  pub out' : MutBor (List ℕ)
  pub kept : length out'.now ≡ 8 * lent
  pub answer : asked rows out x out'
  pub fits : n ≤ 165969
  pub text : Begins (report_text x out'.now) before n after
