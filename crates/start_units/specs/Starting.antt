-- The program's own: what its tables tell while units are started. A reader need not believe these; the contract of the entry cites the definition alone.
use Rattle.std.specs.Prelude.{◌≡◌, Bool, not, ◌&&◌, List, [], ◌∷◌, ◌++◌, map, ℕ, ◌+◌, ◌<◌, ◌≤◌, T, eqb, ltb, length, get_or, set, Option, Some, None, MatchOption}
use Rattle.std.proofs.lemmas.List.Edits.{sets}
use Rattle.definition.specs.Basics.{when◌then◌else◌, filter, all, ◌∈?◌}
use Rattle.definition.specs.Kind.{UNIT, IMPORT}
use Rattle.definition.specs.Sheet.{Sheet, next, child, a, rows, chain, is}
use Rattle.definition.proofs.Format.Links.{Rises}
use Rattle.unit_order.specs.Order.{units, imports_of, order}

-- what is asked of a sheet: question 3 gives it
pub record Importing (s : Sheet) : Type 0 where
  pub few : rows s ≤ 2048
  pub some : 0 < rows s
  pub header : T (not (is s UNIT 0))
  pub nexts : (r : ℕ) → r < rows s → Rises s r (next s r)
  pub children : (r : ℕ) → r < rows s → Rises s r (child s r)
  pub in_line : (u v : ℕ) → T (u ∈? units s) → T (v ∈? units s) → u < v → (next s u ≡ 0 → ⊥) × (next s u ≤ v)
  pub closed : (u v : ℕ) → T (u ∈? units s) → T (v ∈? imports_of s u) → T (v ∈? units s)

-- has unit v a mark? Those that have started do
abbrev pub marked : List ℕ → ℕ → Bool
marked m v = not (eqb (get_or m v 0) 0)

-- is row u a unit that is ready, by the marks m?
unfoldable pub startable : Sheet → List ℕ → ℕ → Bool
startable s m u = is s UNIT u && not (marked m u) && all (marked m) (imports_of s u)

-- the units that the import rows from row k of a child list on import
unfoldable pub imports_from : Sheet → ℕ → List ℕ
imports_from s k = map (a s) (filter (is s IMPORT) (chain (rows s) s k))

-- is row k an import whose unit has no mark?
unfoldable pub waits_for : Sheet → List ℕ → ℕ → Bool
waits_for s m k = is s IMPORT k && eqb (get_or m (a s k) 0) 0

-- From row k of a child list on, x is the first import row whose unit has no mark, or 0: all before it have one.
pub record WaitsAt (s : Sheet) (m : List ℕ) (k x : ℕ) : Type 0 where
  pub none : x ≡ 0 → T (all (marked m) (imports_from s k))
  pub row : (x ≡ 0 → ⊥) → (x < rows s) × T (waits_for s m x)
  pub rest : (x ≡ 0 → ⊥) → (passed : List ℕ) × (imports_from s k ≡ passed ++ imports_from s x) × T (all (marked m) passed)

-- the same of what is found: a row, or none
abbrev pub WaitsFound : Sheet → List ℕ → ℕ → Option ℕ → Type 0
WaitsFound s m k o = MatchOption o (WaitsAt s m k 0) (λ x. (x ≡ 0 → ⊥) × WaitsAt s m k x)

-- The table w tells of a unit 0, or a row of its child list: all that it imports before that row has a mark.
pub record Waits (s : Sheet) (m w : List ℕ) : Type 0 where
  pub room : rows s ≤ length w
  pub row : (u : ℕ) → u < rows s → get_or w u 0 < rows s
  pub rest : (u : ℕ) → T (u ∈? units s) → (get_or w u 0 ≡ 0 → ⊥)
      → (passed : List ℕ) × (imports_of s u ≡ passed ++ imports_from s (get_or w u 0)) × T (all (marked m) passed)

-- the row from which the imports of unit u are looked at
unfoldable pub waiting_from : Sheet → List ℕ → ℕ → ℕ
waiting_from s w u = when eqb (get_or w u 0) 0 then child s u else get_or w u 0

-- the row to look at after row u for a unit: after a unit the next one, or none; else the row after it
unfoldable pub following : Sheet → ℕ → ℕ
following s u = when is s UNIT u then (when eqb (next s u) 0 then 4294967295 else next s u) else u + 1

-- x is the lowest unit from row `start` on that is ready, or 0
pub record LowestFrom (s : Sheet) (m : List ℕ) (start x : ℕ) : Type 0 where
  pub none : x ≡ 0 → (v : ℕ) → start ≤ v → v < rows s → T (startable s m v) → ⊥
  pub some : (x ≡ 0 → ⊥) → (start ≤ x) × (x < rows s) × T (startable s m x)
  pub least : (x ≡ 0 → ⊥) → (v : ℕ) → start ≤ v → v < x → T (startable s m v) → ⊥

-- the same of what is found: a unit, or none
abbrev pub LowestFound : Sheet → List ℕ → ℕ → Option ℕ → Type 0
LowestFound s m start o = MatchOption o (LowestFrom s m start 0) (λ x. (x ≡ 0 → ⊥) × LowestFrom s m start x)

-- a row to look at, or the number past all rows that stands for none
abbrev pub or_past : Option ℕ → ℕ
or_past (Some u) = u
or_past None = 4294967295

-- the table tells nothing yet
pub record Unnoted (s : Sheet) (w : List ℕ) : Type 0 where
  pub room : rows s ≤ length w
  pub free : (u : ℕ) → get_or w u 0 ≡ 0

-- unit u noted at each of the units vs where none is noted yet
unfoldable pub noted : ℕ → List ℕ → List ℕ → List ℕ
noted u [] low = low
noted u (v ∷ vs) low = noted u vs (when eqb (get_or low v 0) 0 then set low v u else low)

-- the same for row u: if it is a unit, at all that it imports
unfoldable pub noted_unit : Sheet → ℕ → List ℕ → List ℕ
noted_unit s u low = when is s UNIT u then noted u (imports_of s u) low else low

-- the table `low` tells of each unit that is imported the lowest that imports it, or one below that
pub record Importers (s : Sheet) (low : List ℕ) : Type 0 where
  pub lowest : (u v : ℕ) → T (u ∈? units s) → T (v ∈? imports_of s u) → (0 < get_or low v 0) × (get_or low v 0 ≤ u)

-- the row from which the next ready unit is looked for, after unit u has started: none below it has become ready
unfoldable pub after_start : Sheet → List ℕ → ℕ → ℕ
after_start s low u = when eqb (get_or low u 0) 0 then following s u else when ltb (get_or low u 0) u then get_or low u 0 else following s u

-- the marks are those of the units that have started
pub record Marks (s : Sheet) (m started : List ℕ) : Type 0 where
  pub room : rows s ≤ length m
  pub same : (v : ℕ) → marked m v ≡ (v ∈? started)

-- After all units that ever get ready have started: n is their number, the marks are theirs, and they stand first in the list, as far as it goes.
pub record Started (s before : List ℕ) (n : ℕ) (m after : List ℕ) : Type 0 where
  pub count : n ≡ length (order s)
  pub few : n ≤ rows s
  pub marks : Marks s m (order s)
  pub list : after ≡ sets before 0 (order s)
