use Rattle.std.proofs.Common.{sym, ◌∙◌}
use borrow.Author.Tests.{eqb-true}
use Rattle.definition.specs.Walk.{visit, loop, after_part}
use Rattle.outside.specs.Words.{over}
use Rattle.walk.specs.WalkState.{state_of}
use Rattle.row_events.proofs.RowLaws.{runs_none, runs_one, part_callee, part_test, part_idle}
use Rattle.row_events.proofs.after_part.Goals as goal

pub returns-then-i-eq0-clause-step : goal.returns-then-i-eq0-clause-step
returns-then-i-eq0-clause-step c =
    let s = c.args.walk.now.sheet.now in
    runs_one (over c.args.walk.now.outside.now) s (after_part s c.args.row c.args.i) (visit c.args.row) (state_of c.args.walk.now)
    (part_callee s c.args.row c.args.i (eqb-true _ _ (sym c.is_kind.ensures ∙ c.if-is_kind.true)) c.if-i-eq0.true) c.check_callee.ensures.step

pub returns-then-i-eq1-clause-step : goal.returns-then-i-eq1-clause-step
returns-then-i-eq1-clause-step c =
    let s = c.args.walk.now.sheet.now in
    let O = over c.args.walk.now.outside.now in
    runs_one O s (after_part s c.args.row c.args.i) loop (state_of c.args.walk.now)
    (part_test s c.args.row c.args.i (eqb-true _ _ (sym c.is_kind-2.ensures ∙ c.if-is_kind-2.true)) c.if-i-eq1.true) (c.begin_loop.ensures.step O)

pub returns-else-is_kind-2-clause-step : goal.returns-else-is_kind-2-clause-step
returns-else-is_kind-2-clause-step c =
    let s = c.args.walk.now.sheet.now in
    runs_none (over c.args.walk.now.outside.now) s (after_part s c.args.row c.args.i) (state_of c.args.walk.now)
    (part_idle s c.args.row c.args.i c.is_kind.ensures c.is_kind-2.ensures c.else-is_kind.either c.else-is_kind-2.either)
