use Rattle.std.proofs.Common.{◌≡◌, map}
use Rattle.definition.specs.Outside.{Outside}
use Rattle.definition.specs.Sheet.{kids}
use Rattle.machine.specs.Machine.{run_state}
use Rattle.sheet.specs.Rest.{rows_left}
use Rattle.walk.specs.WalkState.{state_of, Same}
use Rattle.imports.proofs.ImportLaws.{brought_listed}
use Rattle.imports.proofs.import_listed.Given as goal

abbrev pub invariant-loop-listed : goal.invariant-loop-listed
invariant-loop-listed l =
    ((O : Outside)
    → run_state O l.initial.walk.sheet.now (map (brought_listed l.initial.walk.sheet.now l.fn.u l.fn.i) (rows_left l.listed-iterator)) (state_of l.walk)
    ≡ run_state O l.initial.walk.sheet.now (map (brought_listed l.initial.walk.sheet.now l.fn.u l.fn.i) (kids l.initial.walk.sheet.now l.fn.i)) (state_of l.initial.walk))
    × Same l.initial.walk l.walk
