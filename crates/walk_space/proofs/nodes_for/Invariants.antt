use mathlib.Core.Path.{◌≡◌}
use Prim.Native.Nat.{◌*◌, ◌≤◌}
use Rattle.definition.specs.Basics.{total, from}
use Rattle.definition.specs.Sheet.{rows}
use Rattle.machine.specs.Space.{nodes_of}
use Rattle.walk_space.proofs.nodes_for.Given as goal

abbrev pub invariant-loop-row : goal.invariant-loop-row
invariant-loop-row l = (l.row ≤ rows l.sheet) × (l.need ≤ 21 * l.row) × (l.need ≡ total (nodes_of l.sheet) (from 0 l.row))
