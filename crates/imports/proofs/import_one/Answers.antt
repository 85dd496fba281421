use Rattle.std.proofs.Common.{ap, map, ◌∙◌}
use Rattle.definition.specs.Sheet.{Sheet, kids}
use Rattle.machine.specs.Machine.{run_state}
use Rattle.walk.specs.WalkState.{state_of}
use Rattle.walk.proofs.StepLaws.{after_err, is_refused}
use Rattle.walk.proofs.RunLaws.{run_idle}
use Rattle.imports.proofs.ImportLaws.{brought_listed, seen_listed}
use Rattle.imports.proofs.import_one.Goals as goal

pub returns-in_err-import_seen-clause-step : goal.returns-in_err-import_seen-clause-step
returns-in_err-import_seen-clause-step c =
    let s = c.args.walk.now.sheet.now in
    λ O. after_err c.import_seen.new.walk _ c.in_err-import_seen.field-0.0 c.from_residual.ensures.1
    ∙ seen_listed O s c.args.u c.args.i (state_of c.args.walk.now) (c.in_err-import_seen.ensures.step O) (run_idle O s _ _ (is_refused c.in_err-import_seen.field-0.0))

pub returns-clause-step : goal.returns-clause-step
returns-clause-step c =
    let s = c.args.walk.now.sheet.now in
    let same = ap (λ b. b.now) c.import_seen.ensures.same.sheet in
    λ O. seen_listed O s c.args.u c.args.i (state_of c.args.walk.now) (c.in_ok-import_seen.ensures.step O)
    (c.import_listed.ensures.step O ∙ ap (λ (v : Sheet). run_state O v (map (brought_listed v c.args.u c.args.i) (kids v c.args.i)) (state_of c.import_seen.new.walk)) same)
