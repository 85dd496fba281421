-- The answer of rows that no question up to 21 refuses.
use Rattle.std.specs.Prelude.{◌≡◌, List, ◌++◌, ℕ, ◌-◌, ◌*◌, ◌/◌, ◌<◌, ◌≤◌, length, take, replicate}
use Rattle.definition.specs.Outcome.{refused}
use Rattle.answer.specs.declared.Answer.{Answer}
use Rattle.answer.specs.Tells.{Tells}

-- Of n rows in the words w, and g globals: the answer x, and the words y then.
pub record Fitted (n g : ℕ) (w : List ℕ) (x : Answer) (y : List ℕ) : Type 0 where
  -- more rows than fit are refused by question 22;
  pub full : length w / 8 < n → (Tells (refused 22) x) × (y ≡ replicate (length w) 0)
  -- others are counted, and zeros follow them.
  pub told : n ≤ length w / 8 → x ≡ record { number = 0; pos = record { 0 = 0 }; name = 0; rows = n; globals = g }
  pub words : n ≤ length w / 8 → y ≡ take (8 * n) w ++ replicate (length w - 8 * n) 0
