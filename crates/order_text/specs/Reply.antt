-- The reply to a sheet's text and its names of which the order of the units is asked (document 02, F-10).
use Rattle.std.specs.Prelude.{◌≡◌, List, ℕ, length, take}
use Rattle.definition.specs.Text.{sheet_of, text_of}
use Rattle.definition.specs.Outcome.{report}
use Rattle.report.specs.Report.{Begins, reply}
use Rattle.unit_order.specs.Order.{order_outcome}

-- the report of a sheet's text and its names as text, with a list of `lent` words
abbrev pub printed_order : ℕ → List ℕ → List ℕ → List ℕ
printed_order lent sheet names = text_of (report (order_outcome (sheet_of sheet) names lent))

-- A lent text, which then is `after`, begins with the reply to two texts of which `sheet` and `names` were read: all of them, or one byte more
-- than the longest that is accepted.
pub record RepliedOfOrder (lent : ℕ) (sheet names before : List ℕ) (n : ℕ) (after : List ℕ) : Type 0 where
  pub of_read : Begins (reply lent (length before) (printed_order lent sheet names)) before n after
  pub of_texts : (s ns : List ℕ) → sheet ≡ take 165889 s → names ≡ take 32769 ns
      → Begins (reply lent (length before) (printed_order lent s ns)) before n after
