-- Orders and circles on examples: of units 0, 1, .. by what each imports, then of sheets.
use Rattle.std.specs.Prelude.{◌≡◌, refl, List, [], ◌∷◌, ℕ, length, get_or}
use Rattle.definition.specs.Basics.{filter, from}
use Rattle.definition.specs.Sheet.{Sheet}
use Rattle.definition.specs.Outcome.{Outcome, report}
use Rattle.unit_order.specs.Imports.{on_circle, started_after}
use Rattle.unit_order.specs.Order.{units, imports_of, circles, order, order_asked, order_outcome, list_after}

-- the order as far as it goes, and the units on a circle, where unit u imports those listed at place u
pub record Found : Type 0 where
  pub started : List ℕ
  pub circling : List ℕ

abbrev found : List (List ℕ) → Found
found lists =
    let imports : ℕ → List ℕ = λ u. get_or lists u [] in
    let us : List ℕ = from 0 (length lists) in
    record { started = started_after imports us (length lists); circling = filter (on_circle imports us) us }

abbrev none : List ℕ
none = []

-- of all units ready the lowest: 0 waits for 2, and 3 comes after 0, though it was ready before
lowest_first : found ((2 ∷ []) ∷ none ∷ none ∷ none ∷ []) ≡ record { started = 1 ∷ 2 ∷ 0 ∷ 3 ∷ []; circling = [] }
lowest_first = refl

-- no units; a line, from either end; the same import twice
no_units : found [] ≡ record { started = []; circling = [] }
no_units = refl

line_up : found ((1 ∷ []) ∷ (2 ∷ []) ∷ (3 ∷ []) ∷ none ∷ []) ≡ record { started = 3 ∷ 2 ∷ 1 ∷ 0 ∷ []; circling = [] }
line_up = refl

line_down : found (none ∷ (0 ∷ 0 ∷ []) ∷ (1 ∷ []) ∷ (2 ∷ []) ∷ []) ≡ record { started = 0 ∷ 1 ∷ 2 ∷ 3 ∷ []; circling = [] }
line_down = refl

-- 0 imports 1 and 2, which both import 4; 3 is free
diamond : found ((1 ∷ 2 ∷ []) ∷ (4 ∷ []) ∷ (4 ∷ []) ∷ none ∷ none ∷ []) ≡ record { started = 3 ∷ 4 ∷ 1 ∷ 2 ∷ 0 ∷ []; circling = [] }
diamond = refl

-- a unit that imports itself, behind one that only imports it
itself : found ((1 ∷ []) ∷ (1 ∷ []) ∷ none ∷ []) ≡ record { started = 2 ∷ []; circling = 1 ∷ [] }
itself = refl

-- two circles, 1 with 3 and 2 with 5; 0 leads into both, 4 lies between them, 6 is imported by one
two_circles : found ((3 ∷ 2 ∷ []) ∷ (3 ∷ []) ∷ (5 ∷ 6 ∷ []) ∷ (1 ∷ 4 ∷ []) ∷ (2 ∷ []) ∷ (2 ∷ []) ∷ none ∷ [])
    ≡ record { started = 6 ∷ []; circling = 1 ∷ 2 ∷ 3 ∷ 5 ∷ [] }
two_circles = refl

-- Three units in rows 1, 5 and 9, at lines 1, 2 and 3. The first imports one unit, the second another; the third imports none.
abbrev three : ℕ → ℕ → Sheet
three first second =
    0 ∷ 0 ∷ 1 ∷ 0 ∷ 0 ∷ 0 ∷ 0 ∷ 0 ∷
    2 ∷ 5 ∷ 2 ∷ 7 ∷ 1 ∷ 1 ∷ 0 ∷ 0 ∷
    3 ∷ 3 ∷ 0 ∷ 7 ∷ 1 ∷ 2 ∷ first ∷ 0 ∷
    6 ∷ 0 ∷ 4 ∷ 7 ∷ 1 ∷ 3 ∷ 0 ∷ 1 ∷
    25 ∷ 0 ∷ 0 ∷ 7 ∷ 1 ∷ 4 ∷ 0 ∷ 0 ∷
    2 ∷ 9 ∷ 6 ∷ 7 ∷ 2 ∷ 20000 ∷ 0 ∷ 0 ∷
    3 ∷ 7 ∷ 0 ∷ 7 ∷ 2 ∷ 2 ∷ second ∷ 1 ∷
    6 ∷ 0 ∷ 8 ∷ 7 ∷ 2 ∷ 3 ∷ 0 ∷ 1 ∷
    25 ∷ 0 ∷ 0 ∷ 7 ∷ 2 ∷ 4 ∷ 0 ∷ 0 ∷
    2 ∷ 0 ∷ 10 ∷ 7 ∷ 3 ∷ 1 ∷ 0 ∷ 0 ∷
    6 ∷ 0 ∷ 11 ∷ 7 ∷ 3 ∷ 3 ∷ 0 ∷ 1 ∷
    25 ∷ 0 ∷ 0 ∷ 7 ∷ 3 ∷ 4 ∷ 0 ∷ 0 ∷ []

-- what is reported of a sheet, and what a list of so many words then holds
pub record Told : Type 0 where
  pub lines : List (List ℕ)
  pub words : List ℕ

abbrev told : Sheet → ℕ → Told
told s lent = let x : Outcome = order_outcome s [] lent in record { lines = report x; words = list_after lent x }

-- 1 imports 5, which imports 9
third_first : told (three 5 9) 4
    ≡ record {
      lines =
          (0 ∷ 0 ∷ 0 ∷ 0 ∷ 0 ∷ 3 ∷ 0 ∷ 0 ∷ [])
          ∷ (9 ∷ 0 ∷ 0 ∷ 0 ∷ 0 ∷ 0 ∷ 0 ∷ 0 ∷ []) ∷ (5 ∷ 0 ∷ 0 ∷ 0 ∷ 0 ∷ 0 ∷ 0 ∷ 0 ∷ []) ∷ (1 ∷ 0 ∷ 0 ∷ 0 ∷ 0 ∷ 0 ∷ 0 ∷ 0 ∷ []) ∷ [];
      words = 9 ∷ 5 ∷ 1 ∷ 0 ∷ [];
    }
unfolding units imports_of circles order order_asked order_outcome list_after
third_first = refl

-- with a word too few
list_short : told (three 5 9) 2 ≡ record { lines = (22 ∷ 0 ∷ 0 ∷ 0 ∷ 0 ∷ 0 ∷ 0 ∷ 0 ∷ []) ∷ []; words = 0 ∷ 0 ∷ [] }
unfolding units imports_of circles order order_asked order_outcome list_after
list_short = refl

-- 1 imports 5, which imports itself: 29 at row 5, whatever room there is; its column is cut
second_circles : told (three 5 5) 1 ≡ record { lines = (29 ∷ 7 ∷ 2 ∷ 16383 ∷ 0 ∷ 0 ∷ 0 ∷ 0 ∷ []) ∷ []; words = 0 ∷ [] }
unfolding units imports_of circles order order_asked order_outcome list_after
second_circles = refl

-- an import of a row that is no unit is question 3
no_unit : told (three 5 10) 4 ≡ record { lines = (3 ∷ 0 ∷ 0 ∷ 0 ∷ 0 ∷ 0 ∷ 0 ∷ 0 ∷ []) ∷ []; words = 0 ∷ 0 ∷ 0 ∷ 0 ∷ [] }
unfolding units imports_of circles order order_asked order_outcome list_after
no_unit = refl

-- no units: an empty order, also with no room
abbrev empty : Sheet
empty = 0 ∷ 0 ∷ 0 ∷ 0 ∷ 0 ∷ 0 ∷ 0 ∷ 0 ∷ []

nothing_to_start : told empty 0 ≡ record { lines = (0 ∷ 0 ∷ 0 ∷ 0 ∷ 0 ∷ 0 ∷ 0 ∷ 0 ∷ []) ∷ []; words = [] }
unfolding units imports_of circles order order_asked order_outcome list_after
nothing_to_start = refl
