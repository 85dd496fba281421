-- Room for the walk of a sheet.
use Rattle.std.specs.Prelude.{ℕ, ◌+◌, ◌*◌, ◌≤◌}
use Rattle.definition.specs.Sheet.{Sheet, rows}
use Rattle.machine.specs.Space.{nodes_for}

-- Arrays of so many words, less than a megabyte together, have room for the walk of sheet s with at most `names` names, those from outside included: a class for
-- each row, five words for each open entry, eight for each row, four for each node.
pub record RoomFor (s : Sheet) (names classes entries results nodes : ℕ) : Type 0 where
  pub for_classes : rows s ≤ classes
  pub for_entries : 5 * (names + 3 * classes + 3) ≤ entries
  pub for_results : 8 * classes ≤ results
  pub for_nodes : 4 * nodes_for s ≤ nodes
  pub small : classes + entries + results + nodes ≤ 262144
