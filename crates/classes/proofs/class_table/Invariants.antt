-- `classes::class_table` meets its contract. Invariant: the entries that rows below `r` determine are final. Assumes nothing.
use Rattle.classes.proofs.Filling.{Filled}
use Rattle.definition.specs.Sheet.{rows}
use lib.ListN.{length}
use Prim.Native.Nat.{◌≤◌}
use mathlib.Core.Path.{◌≡◌}
use Rattle.classes.proofs.class_table.Given as goal

abbrev pub invariant-loop-row : goal.invariant-loop-row
invariant-loop-row l = (l.row ≤ rows l.sheet) × ((length l.classes ≡ length l.initial.classes) × Filled l.sheet l.row l.classes)
