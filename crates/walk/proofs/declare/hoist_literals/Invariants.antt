use Rattle.std.proofs.Common.{◌≡◌, map}
use Rattle.definition.specs.Basics.{filter}
use Rattle.definition.specs.Outside.{Outside}
use Rattle.definition.specs.Sheet.{kids}
use Rattle.definition.specs.Walk.{declare, literal_let}
use Rattle.machine.specs.Machine.{run_state}
use Rattle.sheet.specs.Rest.{rows_left}
use Rattle.walk.specs.WalkState.{state_of, Same}
use Rattle.walk.proofs.declare.hoist_literals.Given as goal

abbrev pub invariant-loop-child : goal.invariant-loop-child
invariant-loop-child l =
    ((O : Outside)
    → run_state O l.initial.walk.sheet.now (map declare (filter (literal_let l.initial.walk.sheet.now) (rows_left l.child-iterator))) (state_of l.walk)
    ≡ run_state O l.initial.walk.sheet.now (map declare (filter (literal_let l.initial.walk.sheet.now) (kids l.initial.walk.sheet.now l.fn.row))) (state_of l.initial.walk))
    × Same l.initial.walk l.walk
