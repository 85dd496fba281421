-- What the public routine promises, for every sheet, name list and lent list.
use Rattle.std.specs.Prelude.{◌≡◌, List, ℕ}
use Rattle.definition.specs.Sheet.{Sheet}
use Rattle.answer.specs.declared.Answer.{Answer}
use Rattle.answer.specs.Tells.{Tells}
use Rattle.unit_order.specs.Order.{order_outcome, list_after}
use Rattle.unit_order.specs.Claims.{OrderClaims}

-- Of sheet s, the bytes ns of its names and a list of `lent` words, which then holds the words w:
pub record Ordered (s : Sheet) (ns : List ℕ) (lent : ℕ) (x : Answer) (w : List ℕ) : Type 0 where
  -- the answer is document 02's outcome,
  pub tells : Tells (order_outcome s ns lent) x
  -- the list holds a word for each unit of the order, and zeros to its end,
  pub words : w ≡ list_after lent (order_outcome s ns lent)
  -- and the outcome says what it should in words of chains of imports.
  pub claims : OrderClaims s (order_outcome s ns lent)
