-- What the pass that counts links establishes.
use Rattle.std.specs.Prelude.{◌≡◌, List, ℕ, ◌<◌, eqb, get_or}
use Rattle.definition.specs.Basics.{count}
use Rattle.definition.specs.Sheet.{Sheet}
use Rattle.definition.specs.Format.{links}

-- seen tells of each of the first n rows how many links go to it
pub record Counts (s : Sheet) (n : ℕ) (seen : List ℕ) : Type 0 where
  pub links_to : (k : ℕ) → k < n → get_or seen k 0 ≡ count (eqb k) (links s)
