use mathlib.Core.Path.{◌≡◌}
use mathlib.Core.List.{map}
use lib.ListN.{length}
use Rattle.definition.specs.Sheet.{a}
use Rattle.sheet.specs.Rest.{kind_left}
use Rattle.start_units.specs.Starting.{noted}
use Rattle.start_units.proofs.note_unit.Given as goal

abbrev pub invariant-loop-k : goal.invariant-loop-k
invariant-loop-k l =
    (length l.low ≡ length l.initial.low)
    × (noted l.u (map (a l.sheet) (kind_left l.k-iterator)) l.low ≡ noted l.u (map (a l.sheet) (kind_left l.initial.k-iterator)) l.initial.low)
