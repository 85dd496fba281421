-- What the exported routine promises, for every sheet, name list, answer words and report words.
use Rattle.std.specs.Prelude.{◌≡◌, List, ℕ, length}
use Rattle.definition.specs.Sheet.{Sheet}
use Rattle.definition.specs.Outcome.{outcome, buffer, rows_of_words}
use Rattle.definition.specs.Claims.{Demand3}
use Rattle.definition.specs.Outside.{core}
use Rattle.report.specs.Report.{fitted, report_line}

-- Of sheet s, the bytes ns of its names, `lent` answer words, which then are w, and `room` report words, which then are r:
pub record Resolved (s : Sheet) (ns : List ℕ) (lent room n : ℕ) (w r : List ℕ) : Type 0 where
  -- the number returned is that of document 01's outcome,
  pub number : n ≡ (outcome s ns lent).number
  -- the answer words hold its answer rows, and zeros to their end,
  pub words : w ≡ buffer lent (outcome s ns lent)
  -- the report words its first line as far as they go, and zeros to their end,
  pub report : r ≡ fitted room (report_line (outcome s ns lent))
  -- and where no question got a no, the closure claim holds of the rows in the answer words.
  pub closures : n ≡ 0 → Demand3 core s (rows_of_words (length (outcome s ns lent).rows) w)
