-- What `read_sheet` promises.
use Rattle.std.specs.Prelude.{◌≡◌, Bool, ◌&&◌, List, ◌++◌, ℕ, ◌*◌, ◌-◌, ◌≤◌, take, replicate, leb}
use Rattle.definition.specs.Basics.{when◌then◌else◌}
use Rattle.definition.specs.Text.{is_sheet_text, lines, sheet_of, text_of}
use Rattle.text.specs.Writing.{rows_in}

-- is it a sheet's text of at most 2,048 lines, for which the lent words are enough?
unfoldable pub is_readable : List ℕ → ℕ → Bool
is_readable t lent = is_sheet_text t && leb (lines t) 2048 && leb (8 * lines t) lent

-- how many lines are read: all, or none
unfoldable pub lines_read : List ℕ → ℕ → ℕ
lines_read t lent = when is_readable t lent then lines t else 0

-- what the lent words then hold: the sheet and zeros to their end, or zeros alone
unfoldable pub words_read : List ℕ → ℕ → List ℕ
words_read t lent = when is_readable t lent then sheet_of t ++ replicate (lent - 8 * lines t) 0 else replicate lent 0

-- the result and the words after reading; where lines are read, printing their rows gives the text back
pub record SheetRead (t : List ℕ) (lent : ℕ) (result : ℕ) (after : List ℕ) : Type 0 where
  pub count : result ≡ lines_read t lent
  pub words : after ≡ words_read t lent
  pub printed : 1 ≤ result → text_of (rows_in (take (8 * result) after)) ≡ t
