-- What the answers to a request for an order say in words of chains; proofs/Theorems.antt shows it of every sheet.
use Rattle.std.specs.Prelude.{◌≡◌, ◌⊎◌, [], map, ℕ, ◌≤◌, T}
use Rattle.definition.specs.Basics.{head, ◌∈?◌}
use Rattle.definition.specs.Sheet.{Sheet}
use Rattle.definition.specs.Outcome.{Outcome, refused_at}
use Rattle.unit_order.specs.Imports.{Chain, OrderFrom}
use Rattle.unit_order.specs.Order.{units, imports_of}

-- u is the lowest unit on a circle
pub record LowestCircling (s : Sheet) (u : ℕ) : Type 0 where
  pub unit : T (u ∈? units s)
  pub circling : Chain (imports_of s) u u
  pub lowest : (v : ℕ) → T (v ∈? units s) → Chain (imports_of s) v v → u ≤ v

-- Of the outcome x of a sheet s:
pub record OrderClaims (s : Sheet) (x : Outcome) : Type 0 where
  -- if it is not refused, its rows are the order;
  pub order : x.number ≡ 0 → OrderFrom (imports_of s) (units s) [] (map head x.rows)
  -- if it is refused by 29, it is so at the lowest unit on a circle;
  pub circle : x.number ≡ 29 → (u : ℕ) × LowestCircling s u × (x ≡ refused_at 29 s u 0)
  -- if it is not refused, or for want of room, no chain of imports comes back.
  pub free : (x.number ≡ 0) ⊎ (x.number ≡ 22) → (u : ℕ) → T (u ∈? units s) → Chain (imports_of s) u u → ⊥
