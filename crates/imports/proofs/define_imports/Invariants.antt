use Rattle.std.proofs.Common.{◌≡◌}
use Rattle.definition.specs.Basics.{concat_map}
use Rattle.definition.specs.Outside.{Outside}
use Rattle.definition.specs.Sheet.{kids_of}
use Rattle.definition.specs.Walk.{imports}
use Rattle.machine.specs.Machine.{run_state}
use Rattle.sheet.specs.Rest.{kind_left}
use Rattle.walk.specs.WalkState.{state_of, Same}
use Rattle.imports.proofs.define_imports.Given as goal

abbrev pub invariant-loop-import : goal.invariant-loop-import
invariant-loop-import l =
    ((O : Outside)
    → run_state O l.initial.walk.sheet.now (concat_map (imports l.initial.walk.sheet.now l.fn.u) (kind_left l.import-iterator)) (state_of l.walk)
    ≡ run_state O l.initial.walk.sheet.now (concat_map (imports l.initial.walk.sheet.now l.fn.u) (kids_of l.initial.walk.sheet.now 3 l.fn.u)) (state_of l.initial.walk))
    × Same l.initial.walk l.walk
