-- The literals that stand in each function, chained, and the slots that they capture.
use Rattle.std.specs.Prelude.{◌≡◌, Bool, false, ◌&&◌, ◌||◌, List, [], ◌∷◌, ℕ, zero, suc, ◌<◌, get_or, eqb}
use Rattle.definition.specs.Basics.{when◌then◌else◌, filter, from}
use Rattle.definition.specs.Sheet.{Sheet, rows, is, child}
use Rattle.machine.specs.Machine.{cell, chain_to}
use Rattle.machine.specs.Reads.{hands_on}

-- is row l a literal that the walk reached?
abbrev pub is_reached : Sheet → List ℕ → ℕ → Bool
is_reached s t l = is s 52 l && eqb (cell t l 0) 1

-- is row l a literal that stands in function f, as the table says?
abbrev pub stands_in : Sheet → List ℕ → ℕ → ℕ → Bool
stands_in s t f l = is s 52 l && (eqb (cell t l 0) 1 && eqb (cell t l 1) f)

-- the rows chained by a table from row l on; n bounds their number
unfoldable pub literal_chain : ℕ → List ℕ → ℕ → List ℕ
literal_chain zero ns l = []
literal_chain (suc n) ns l = when eqb l 0 then [] else l ∷ literal_chain n ns (get_or ns l 0)

-- The literals that the table says stand in function f are chained from entry f of hs by ns, in rising row.
pub record LiteralChains (s : Sheet) (t hs ns : List ℕ) : Type 0 where
  pub chained : (f : ℕ) → f < rows s → literal_chain (rows s) ns (get_or hs f 0) ≡ filter (stands_in s t f) (from 0 (rows s))

-- does the function of one of the literals ls capture the mutable local of function f in slot j?
unfoldable pub captured_by : Sheet → List ℕ → List ℕ → ℕ → ℕ → List ℕ → Bool
captured_by s t q f j [] = false
captured_by s t q f j (l ∷ ls) = hands_on s f j (chain_to q (cell t (child s l) 6)) || captured_by s t q f j ls

-- does slot j of function f escape into a literal that stands in f?
unfoldable pub escapes : Sheet → List ℕ → List ℕ → ℕ → ℕ → Bool
escapes s t q f j = captured_by s t q f j (filter (stands_in s t f) (from 0 (rows s)))

-- how many slots of function f may escape: none where no literal stands in it
abbrev pub slots_asked : List ℕ → List ℕ → ℕ → ℕ
slots_asked t hs f = when eqb (get_or hs f 0) 0 then 0 else cell t f 5
