-- The space that the walk of a sheet takes.
use Rattle.std.specs.Prelude.{◌||◌, ℕ}
use Rattle.definition.specs.Basics.{when◌then◌else◌, total, from}
use Rattle.definition.specs.Sheet.{Sheet, rows, is}

-- how many nodes row r may take: an identifier one for each function around it, of which there are at most 21; a call and an assignment one
abbrev pub nodes_of : Sheet → ℕ → ℕ
nodes_of s r = when is s 50 r then 21 else when is s 59 r || is s 21 r then 1 else 0

-- and all rows together
unfoldable pub nodes_for : Sheet → ℕ
nodes_for s = total (nodes_of s) (from 0 (rows s))
