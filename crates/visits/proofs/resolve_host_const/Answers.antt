use Rattle.std.proofs.Common.{refl}
use Rattle.walk.specs.WalkState.{state_of}
use Rattle.walk.proofs.VisitLaws.{host_no, host_yes}
use Rattle.visits.proofs.resolve_host_const.Goals as goal

pub returns-then-name-ne-MAIN_UNIT-clause-step : goal.returns-then-name-ne-MAIN_UNIT-clause-step
returns-then-name-ne-MAIN_UNIT-clause-step c = λ O. host_no O c.args.walk.now.sheet.now c.args.row (state_of c.args.walk.now) refl c.requires _ c.word-name.ensures c.if-name-ne-MAIN_UNIT.true refl

pub returns-clause-step : goal.returns-clause-step
returns-clause-step c =
    λ O. host_yes O c.args.walk.now.sheet.now c.args.row
    (state_of c.args.walk.now) refl c.requires _ c.word-name.ensures _ _ c.if-name-ne-MAIN_UNIT.false c.main_unit_code-code.ensures (c.write_row.ensures _ _)
