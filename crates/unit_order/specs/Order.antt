-- The order of a sheet's units, and what comes of asking for it (document 02, F-10).
use Rattle.std.specs.Prelude.{Bool, not, List, ◌∷◌, ◌++◌, map, ℕ, ◌-◌, length, replicate, leb}
use Rattle.definition.specs.Basics.{when◌then◌else◌, filter, any, first, from, head}
use Rattle.definition.specs.Kind.{UNIT, IMPORT}
use Rattle.definition.specs.Sheet.{Sheet, a, rows, is, kids_of}
use Rattle.definition.specs.Names.{names_fit, name_count}
use Rattle.definition.specs.Format.{sheet_fits, depths_fit}
use Rattle.definition.specs.Outcome.{Outcome, refused, refused_at, rows_fit}
use Rattle.unit_order.specs.Imports.{on_circle, started_after}

-- the units, in rising row
unfoldable pub units : Sheet → List ℕ
units s = filter (is s UNIT) (from 0 (rows s))

-- the units that unit u imports: those in column a of its import rows, whatever these list
unfoldable pub imports_of : Sheet → ℕ → List ℕ
imports_of s u = map (a s) (kids_of s IMPORT u)

-- is unit u on a circle?
unfoldable pub circles : Sheet → ℕ → Bool
circles s u = on_circle (imports_of s) (units s) u

-- the order: there are fewer units than rows, so that many steps start every unit that ever gets ready
unfoldable pub order : Sheet → List ℕ
order s = started_after (imports_of s) (units s) (rows s)

-- the row that tells a unit: its row, then zeros
abbrev pub unit_row : ℕ → List ℕ
unit_row u = u ∷ replicate 7 0

-- questions 29 and 22, with a list of `lent` words: the order if no unit is on a circle and the list has a word for each unit
unfoldable pub order_asked : ℕ → Sheet → Outcome
order_asked lent s =
    when any (circles s) (units s) then refused_at 29 s (first (circles s) 0 (units s)) 0
    else when leb (length (order s)) lent
    then record { number = 0; file = 0; line = 0; column = 0; name = 0; rows = map unit_row (order s); globals = 0 }
    else refused 22

-- what comes of a sheet and a byte list of names, with a list of `lent` words: questions 1 to 4, then 29 and 22
unfoldable pub order_outcome : Sheet → List ℕ → ℕ → Outcome
order_outcome s ns lent =
    when not (rows_fit s) then refused 1
    else when not (names_fit ns) then refused 2
    else when not (sheet_fits (name_count ns) s) then refused 3
    else when not (depths_fit s) then refused 4
    else order_asked lent s

-- what the list then holds: a word for each unit of the order, zeros to its end
unfoldable pub list_after : ℕ → Outcome → List ℕ
list_after lent x = map head x.rows ++ replicate (lent - length x.rows) 0
