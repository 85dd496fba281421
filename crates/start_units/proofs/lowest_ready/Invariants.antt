use mathlib.Core.Path.{◌≡◌}
use Prim.Native.Nat.{◌-◌, ◌≤◌}
use lib.ListN.{length}
use Rattle.definition.specs.Sheet.{rows as rows_of}
use Rattle.start_units.proofs.StartedLaws.{Looking}
use Rattle.start_units.specs.Starting.{Waits, or_past}
use Rattle.start_units.proofs.lowest_ready.Given as goal

abbrev pub invariant-loop-at : goal.invariant-loop-at
invariant-loop-at l =
    Looking l.sheet l.marks (or_past l.fn.start) (or_past l.at) × (length l.waits ≡ length l.initial.waits) × Waits l.sheet l.marks l.waits × (or_past l.at ≤ 4294967295)

abbrev pub decreases-loop-at : goal.decreases-loop-at
decreases-loop-at l = rows_of l.sheet - or_past l.at
