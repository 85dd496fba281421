use Rattle.std.proofs.Common.{◌≡◌, map}
use Rattle.ast.specs.Kind.{kind_number}
use Rattle.definition.specs.Outside.{Outside}
use Rattle.definition.specs.Sheet.{kids_of}
use Rattle.definition.specs.Walk.{declare}
use Rattle.machine.specs.Machine.{run_state}
use Rattle.sheet.specs.Rest.{kind_left}
use Rattle.walk.specs.WalkState.{state_of, Same}
use Rattle.walk.proofs.declare.declare_kind.Given as goal

abbrev pub invariant-loop-child : goal.invariant-loop-child
invariant-loop-child l =
    ((O : Outside)
    → run_state O l.initial.walk.sheet.now (map declare (kind_left l.child-iterator)) (state_of l.walk)
    ≡ run_state O l.initial.walk.sheet.now (map declare (kids_of l.initial.walk.sheet.now (kind_number l.fn.kind) l.fn.row)) (state_of l.initial.walk))
    × Same l.initial.walk l.walk
