use mathlib.Core.Path.{◌≡◌}
use lib.ListN.{length}
use Rattle.start_units.specs.Starting.{or_past}
use Rattle.start_units.proofs.StartedLaws.{Running}
use Rattle.start_units.proofs.start_all.Given as goal

abbrev pub invariant-loop-count : goal.invariant-loop-count
invariant-loop-count l =
    Running l.sheet l.initial.list l.marks l.waits l.list (or_past l.start) l.count
    × (length l.marks ≡ length l.initial.marks) × (length l.waits ≡ length l.initial.waits) × (length l.list ≡ length l.initial.list)
