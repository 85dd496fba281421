-- A sheet stored by column, and the way back, as document 02 has them (F-12).
use Rattle.std.specs.Prelude.{Bool, not, ◌||◌, ◌≡◌, List, ◌++◌, map, ℕ, ◌+◌, ◌-◌, ◌*◌, ◌%◌, ◌^◌, length, get_or, take, replicate, eqb, ltb}
use Rattle.definition.specs.Basics.{when◌then◌else◌, concat_map, from}
use Rattle.definition.specs.Sheet.{word, rows}
use Rattle.definition.specs.Outcome.{rows_fit}

-- are the words of column c links, `next` or `child`?
unfoldable pub is_link : ℕ → Bool
is_link c = eqb c 1 || eqb c 2

-- what is stored of a word w in column c of row r: of a link its difference from r, modulo 2^32
unfoldable pub stored : ℕ → ℕ → ℕ → ℕ
stored c r w = when is_link c then (w + 2 ^ 32 - r) % 2 ^ 32 else w

-- the word of which w is stored
unfoldable pub restored : ℕ → ℕ → ℕ → ℕ
restored c r w = when is_link c then (w + r) % 2 ^ 32 else w

-- the list of m × n numbers with f i j at place i × n + j
unfoldable pub table : ℕ → ℕ → (ℕ → ℕ → ℕ) → List ℕ
table m n f = concat_map (λ i. map (f i) (from 0 n)) (from 0 m)

-- a sheet by column: word c of row r goes to place c × rows + r
unfoldable pub to_columns : List ℕ → List ℕ
to_columns s = table 8 (rows s) (λ c r. stored c r (word s r c))

-- the way back: what stands at place c × rows + r is word c of row r
unfoldable pub from_columns : List ℕ → List ℕ
from_columns s = table (rows s) 8 (λ r c. restored c r (get_or s (c * rows s + r) 0))

-- the first question that gets a no for a source s and a target of `lent` words, or 0
unfoldable pub first_no : List ℕ → ℕ → ℕ
first_no s lent = when not (rows_fit s) then 1 else when ltb lent (length s) then 22 else 0

-- what the target then holds: the source rearranged by f and zeros after it; after a no, zeros alone
unfoldable pub target_after : (List ℕ → List ℕ) → List ℕ → ℕ → List ℕ
target_after f s lent = when eqb (first_no s lent) 0 then f s ++ replicate (lent - length s) 0 else replicate lent 0

-- Of a source s and a target of `lent` words, rearranged by f, for which g is the way back:
pub record Rearranged (f g : List ℕ → List ℕ) (s : List ℕ) (lent n : ℕ) (t : List ℕ) : Type 0 where
  -- the answer n is the first question that gets a no, or 0,
  pub answer : n ≡ first_no s lent
  -- the target t is the source rearranged, and zeros; after a no, zeros alone,
  pub target : t ≡ target_after f s lent
  -- and where n is 0 the way back, handed t at the source's length, is not refused and gives the source again.
  pub back : n ≡ 0 → (first_no (take (length s) t) (length s) ≡ 0) × (target_after g (take (length s) t) (length s) ≡ s)
