-- The reply to a preview (document 02, F-5): the report of entering, and the row of the session, which stays as it is.
use Rattle.std.specs.Prelude.{◌≡◌, List, [], ◌++◌, ℕ, length, take}
use Rattle.definition.specs.Basics.{when◌then◌else◌}
use Rattle.definition.specs.Text.{sheet_of, text_of}
use Rattle.definition.specs.Outcome.{report, buffer}
use Rattle.session.specs.Words.{whole, enter_outcome}
use Rattle.answer.specs.declared.Answer.{Answer}
use Rattle.answer.specs.Tells.{Tells}
use Rattle.report.specs.Report.{Begins}
use Rattle.enter_text.specs.Reply.{session_row, outcome_of, is_lent}

-- the reply to a sheet's text and its names previewed in a session of words w and bytes b, with `lent` answer rows lent: the report, the session's row
abbrev pub printed_preview : ℕ → List ℕ → List ℕ → List ℕ → List ℕ → List ℕ
printed_preview lent w b sheet names = text_of (report (outcome_of lent w b sheet names)) ++ session_row w

-- Of that preview, and a lent text of which n bytes are written and which then is `after`: it begins with the reply, if there is one; of the bytes that were
-- read, and of two texts of which these are all, or one byte more than the longest that is accepted.
pub record RepliedOfPreview (lent : ℕ) (w b sheet names before : List ℕ) (n : ℕ) (after : List ℕ) : Type 0 where
  pub of_read : Begins (when is_lent lent (length before) then printed_preview lent w b sheet names else []) before n after
  pub of_texts : (s ns : List ℕ) → sheet ≡ take 165889 s → names ≡ take 32769 ns
      → Begins (when is_lent lent (length before) then printed_preview lent w b s ns else []) before n after

-- Of a sheet's text previewed with `lent` words lent, which then are `out`: the answer, and these words.
pub record PreviewedText (w b sheet names : List ℕ) (lent : ℕ) (x : Answer) (out : List ℕ) : Type 0 where
  pub tells : Tells (enter_outcome whole w b (sheet_of sheet) names lent) x
  pub words : out ≡ buffer lent (enter_outcome whole w b (sheet_of sheet) names lent)
