-- What the exported routine for the order of units promises, for every sheet, name list, lent list and report words.
use Rattle.std.specs.Prelude.{◌≡◌, List, ℕ}
use Rattle.definition.specs.Sheet.{Sheet}
use Rattle.report.specs.Report.{fitted, report_line}
use Rattle.unit_order.specs.Order.{order_outcome, list_after}
use Rattle.unit_order.specs.Claims.{OrderClaims}

-- Of sheet s, the bytes ns of its names, a list of `lent` words, which then are w, and `room` report words, which then are r:
pub record UnitsOrdered (s : Sheet) (ns : List ℕ) (lent room n : ℕ) (w r : List ℕ) : Type 0 where
  -- the number returned is that of document 02's outcome,
  pub number : n ≡ (order_outcome s ns lent).number
  -- the list holds a word for each unit of the order, and zeros to its end,
  pub words : w ≡ list_after lent (order_outcome s ns lent)
  -- the report words its first line as far as they go, and zeros to their end,
  pub report : r ≡ fitted room (report_line (order_outcome s ns lent))
  -- and the outcome says what it should in words of chains of imports.
  pub claims : OrderClaims s (order_outcome s ns lent)
