-- The reply to an entry (document 02, F-1): its report, and one row more that tells the session after it.
use Rattle.std.specs.Prelude.{◌≡◌, Bool, ◌&&◌, List, [], ◌∷◌, ◌++◌, ℕ, ◌*◌, length, take, leb}
use Rattle.definition.specs.Basics.{when◌then◌else◌}
use Rattle.definition.specs.Text.{sheet_of, text_of}
use Rattle.definition.specs.Outcome.{Outcome, report, buffer}
use Rattle.session.specs.Words.{whole, enter_outcome, enter_words, enter_bytes}
use Rattle.answer.specs.declared.Answer.{Answer}
use Rattle.answer.specs.Tells.{Tells}
use Rattle.report.specs.Report.{fitted, Begins}

-- the row that tells a session of words w: its eight counts
abbrev pub session_row : List ℕ → List ℕ
session_row w = text_of (fitted 8 w ∷ [])

-- Entering the text of a sheet and its names into a session of words w and bytes b, with `lent` answer rows lent.
module _ (lent : ℕ) (w b sheet names : List ℕ) where
  -- what comes of it, and the session's words and bytes after it
  abbrev pub outcome_of : Outcome
  outcome_of = enter_outcome whole w b (sheet_of sheet) names (8 * lent)

  abbrev pub words_of : List ℕ
  words_of = enter_words whole w b (sheet_of sheet) names (8 * lent)

  abbrev pub bytes_of : List ℕ
  bytes_of = enter_bytes whole w b (sheet_of sheet) names (8 * lent)

  -- the report and the session's row, as text
  abbrev pub printed_entry : List ℕ
  printed_entry = text_of (report outcome_of) ++ session_row words_of

-- is it entered: are at most 2,048 rows lent, and does the longest reply fit `room` bytes?
unfoldable pub is_lent : ℕ → ℕ → Bool
is_lent lent room = leb lent 2048 && leb 166050 room

-- Of that entry, and a lent text of which n bytes are written and which then is `after`:
pub record RepliedEntry (lent : ℕ) (w b sheet names before : List ℕ) (n : ℕ) (w' b' after : List ℕ) : Type 0 where
  -- it begins with the reply,
  pub text : Begins (when is_lent lent (length before) then printed_entry lent w b sheet names else []) before n after
  -- and the session has the words and bytes after the entry; where there is no reply, nothing is entered.
  pub session : w' ≡ (when is_lent lent (length before) then words_of lent w b sheet names else w)
  pub bytes : b' ≡ (when is_lent lent (length before) then bytes_of lent w b sheet names else b)

-- The same of two texts of which `sheet` and `names` were read: all of them, or one byte more than the longest that is accepted.
pub record RepliedOfEntry (lent : ℕ) (w b sheet names before : List ℕ) (n : ℕ) (w' b' after : List ℕ) : Type 0 where
  pub of_read : RepliedEntry lent w b sheet names before n w' b' after
  pub of_texts : (s ns : List ℕ) → sheet ≡ take 165889 s → names ≡ take 32769 ns → RepliedEntry lent w b s ns before n w' b' after

-- Of a sheet's text entered with `lent` words lent, which then are `out`: the answer, these words, and the session after it.
pub record EnteredText (w b sheet names : List ℕ) (lent : ℕ) (x : Answer) (out w' b' : List ℕ) : Type 0 where
  pub tells : Tells (enter_outcome whole w b (sheet_of sheet) names lent) x
  pub words : out ≡ buffer lent (enter_outcome whole w b (sheet_of sheet) names lent)
  pub session : w' ≡ enter_words whole w b (sheet_of sheet) names lent
  pub bytes : b' ≡ enter_bytes whole w b (sheet_of sheet) names lent
