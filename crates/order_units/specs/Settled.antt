-- The program's own: what is known of a sheet past questions 1 to 4, and what the routines below the public one promise.
use Rattle.std.specs.Prelude.{◌≡◌, Bool, true, false, not, List, ℕ, ◌<◌, ◌≤◌, T, length, replicate}
use Rattle.definition.specs.Basics.{◌∈?◌}
use Rattle.definition.specs.Sheet.{Sheet, rows}
use Rattle.definition.specs.Format.{sheet_fits}
use Rattle.definition.specs.Outcome.{refused}
use Rattle.answer.specs.declared.Answer.{Answer}
use Rattle.answer.specs.Tells.{Tells}
use Rattle.unit_order.specs.Order.{units, order_asked, list_after}
use Rattle.start_units.specs.Starting.{marked}

-- the sheet is past questions 1 and 3, with names up to `last`
pub record Fitting (s : Sheet) : Type 0 where
  pub few : rows s ≤ 2048
  pub some : 0 < rows s
  pub last : ℕ
  pub fits : sheet_fits last s ≡ true

-- some unit has no mark, or all have one
pub record Left (s m : List ℕ) (x : Bool) : Type 0 where
  pub one : x ≡ true → (u : ℕ) × T (u ∈? units s) × T (not (marked m u))
  pub none : x ≡ false → (u : ℕ) → T (u ∈? units s) → T (marked m u)

-- Of n units in the words w: the answer x, and the words y then.
pub record Listed (n : ℕ) (w : List ℕ) (x : Answer) (y : List ℕ) : Type 0 where
  -- more units than words are refused by question 22;
  pub full : length w < n → Tells (refused 22) x × (y ≡ replicate (length w) 0)
  -- others are counted, and the words stay.
  pub told : n ≤ length w → x ≡ record { number = 0; pos = record { 0 = 0 }; name = 0; rows = n; globals = 0 }
  pub words : n ≤ length w → y ≡ w

-- questions 29 and 22 are answered, with a list of `lent` words
pub record Settled (s : Sheet) (lent : ℕ) (x : Answer) (w : List ℕ) : Type 0 where
  pub tells : Tells (order_asked lent s) x
  pub words : w ≡ list_after lent (order_asked lent s)
