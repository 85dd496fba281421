-- The reply to a withdrawal (document 02, F-7): its report, and one row more that tells the session after it.
use Rattle.std.specs.Prelude.{◌≡◌, List, [], ◌∷◌, ◌++◌, ℕ, length, leb}
use Rattle.definition.specs.Basics.{when◌then◌else◌}
use Rattle.definition.specs.Text.{text_of}
use Rattle.definition.specs.Outcome.{report}
use Rattle.session.specs.Words.{whole}
use Rattle.session.specs.Withdraw.{withdraw_outcome, withdraw_words}
use Rattle.report.specs.Report.{fitted, Begins}

-- the line of the report, which has no rows, and the eight counts of the session after it, as text
abbrev pub printed_withdrawal : List ℕ → List ℕ → List ℕ
printed_withdrawal w b = text_of (report (withdraw_outcome whole w b) ++ fitted 8 (withdraw_words whole w b) ∷ [])

-- Of a withdrawal from a session of words w and bytes b, and a lent text of which n bytes are written and which then is `after`:
pub record RepliedOfWithdrawal (w b before : List ℕ) (n : ℕ) (w' after : List ℕ) : Type 0 where
  -- it begins with the reply, 162 bytes, if there is room for it,
  pub text : Begins (when leb 162 (length before) then printed_withdrawal w b else []) before n after
  -- and the session has the words after it; where there is no reply, nothing is withdrawn.
  pub session : w' ≡ (when leb 162 (length before) then withdraw_words whole w b else w)
