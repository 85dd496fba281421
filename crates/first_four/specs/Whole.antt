-- Question 3 as the program asks it: the links first, then the passes over the rows.
use Rattle.std.specs.Prelude.{List, Bool, ◌&&◌, ℕ}
use Rattle.definition.specs.Basics.{all, from}
use Rattle.definition.specs.Sheet.{Sheet, rows}
use Rattle.definition.specs.Format.{header_first, main_marked, links_rise, linked_once, links}
use Rattle.row_fits.specs.Pass.{rows_ok, rows_noted, cross_ok}
use Rattle.distinct.specs.Apart.{all_unmarked}

-- header and links
unfoldable pub links_ok : Sheet → Bool
links_ok s = header_first s && (main_marked s && (all (links_rise s) (from 0 (rows s)) && all (linked_once (links s)) (from 0 (rows s))))

-- the passes over the rows, with a table t and marks m of zeros
unfoldable pub rows_all : Sheet → ℕ → List ℕ → List ℕ → Bool
rows_all s last t m = rows_ok s last (rows s) 0 t && (all_unmarked s (rows s) 0 m && all (cross_ok s (rows_noted s (rows s) 0 t)) (from 0 (rows s)))
