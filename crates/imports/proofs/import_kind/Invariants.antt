use Rattle.std.proofs.Common.{◌≡◌, map}
use Rattle.definition.specs.Outside.{Outside}
use Rattle.definition.specs.Sheet.{kids_of}
use Rattle.ast.specs.Kind.{kind_number}
use Rattle.machine.specs.Machine.{run_state}
use Rattle.sheet.specs.Rest.{kind_left}
use Rattle.walk.specs.WalkState.{state_of, Same}
use Rattle.imports.proofs.ImportLaws.{brought_row}
use Rattle.imports.proofs.import_kind.Given as goal

abbrev pub invariant-loop-export : goal.invariant-loop-export
invariant-loop-export l =
    ((O : Outside)
    → run_state O l.initial.walk.sheet.now (map (brought_row l.initial.walk.sheet.now l.fn.i) (kind_left l.export-iterator)) (state_of l.walk)
    ≡ run_state O l.initial.walk.sheet.now (map (brought_row l.initial.walk.sheet.now l.fn.i) (kids_of l.initial.walk.sheet.now (kind_number l.fn.kind) l.fn.u)) (state_of l.initial.walk))
    × Same l.initial.walk l.walk
