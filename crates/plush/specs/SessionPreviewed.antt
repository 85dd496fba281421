-- What the exported routine for previews promises, for every session, sheet, name list, answer words and report words.
use Rattle.std.specs.Prelude.{◌≡◌, true, List, ℕ, length, get_or}
use Rattle.definition.specs.Sheet.{Sheet}
use Rattle.definition.specs.Outcome.{buffer, rows_of_words}
use Rattle.definition.specs.Claims.{Demand3}
use Rattle.report.specs.Report.{fitted, report_line}
use Rattle.session.specs.Session.{names_shown, outside_of}
use Rattle.session.specs.Entry.{entry_sheet}
use Rattle.session.specs.Words.{whole, session_in, session_fits, enter_outcome}

-- Of session words w and bytes n, which stay as they are, sheet s, the bytes ns of its names, `lent` answer words, which then are `out`, and `room` report
-- words, which then are r:
pub record SessionPreviewed (w n : List ℕ) (s : Sheet) (ns : List ℕ) (lent room k : ℕ) (out r : List ℕ) : Type 0 where
  -- the number returned is that of the outcome of entering the sheet,
  pub number : k ≡ (enter_outcome whole w n s ns lent).number
  -- the answer words hold its answer rows, and zeros to their end,
  pub words : out ≡ buffer lent (enter_outcome whole w n s ns lent)
  -- the report words its first line as far as they go, and zeros to their end,
  pub report : r ≡ fitted room (report_line (enter_outcome whole w n s ns lent))
  -- the session, if it passes question 23, shows as many names as a full recount finds,
  pub shown : session_fits whole w n ≡ true → get_or w 2 0 ≡ names_shown (session_in whole w n)
  -- and where no question got a no, the closure claim holds of the entry by itself, as it would when it is entered.
  pub closures : k ≡ 0
      → Demand3 (outside_of (session_in whole w n)) (entry_sheet (session_in whole w n) ns s) (rows_of_words (length (enter_outcome whole w n s ns lent).rows) out)
