-- The program's own: the units that a search has found, and what ranks must be to spare one.
use Rattle.std.specs.Prelude.{◌≡◌, List, [], ◌∷◌, ◌++◌, ℕ, ◌<◌, ◌≤◌, T, length, get_or}
use Rattle.definition.specs.Basics.{when◌then◌else◌, ◌∈?◌}
use Rattle.definition.specs.Sheet.{Sheet}
use Rattle.definition.proofs.Lists.Members.{Nodup}
use Rattle.unit_order.specs.Order.{units, imports_of}
use Rattle.start_units.specs.Starting.{marked}

-- the units found, and after them those of a list that are not among them
unfoldable pub added : List ℕ → List ℕ → List ℕ
added found [] = found
added found (v ∷ vs) = added (when v ∈? found then found else found ++ v ∷ []) vs

-- n units are found: they have marks, and stand first in the queue
pub record Holds (m q : List ℕ) (n : ℕ) (found : List ℕ) : Type 0 where
  pub count : n ≡ length found
  pub room : length m ≤ length q
  pub below : (v : ℕ) → T (v ∈? found) → v < length m
  pub once : Nodup found
  pub marks : (v : ℕ) → marked m v ≡ (v ∈? found)
  pub queue : (i : ℕ) → i < n → get_or q i 0 ≡ get_or found i 0

-- no unit imports one of a higher rank
pub record Falling (s : Sheet) (ranks : List ℕ) : Type 0 where
  pub falls : (u v : ℕ) → T (u ∈? units s) → T (v ∈? imports_of s u) → get_or ranks v 0 ≤ get_or ranks u 0
