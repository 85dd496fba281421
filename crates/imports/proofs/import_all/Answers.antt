use Rattle.std.proofs.Common.{ap, map, ◌∙◌}
use Rattle.definition.specs.Sheet.{Sheet, kids_of}
use Rattle.machine.specs.Machine.{run_state}
use Rattle.walk.specs.WalkState.{state_of}
use Rattle.walk.proofs.StepLaws.{after_err, is_refused}
use Rattle.walk.proofs.RunLaws.{run_idle}
use Rattle.imports.proofs.ImportLaws.{brought_row, all_brought}
use Rattle.imports.proofs.import_all.Goals as goal

pub returns-in_err-import_kind-clause-step : goal.returns-in_err-import_kind-clause-step
returns-in_err-import_kind-clause-step c =
    let s = c.args.walk.now.sheet.now in
    λ O. after_err c.import_kind.new.walk _ c.in_err-import_kind.field-0.0 c.from_residual.ensures.1
    ∙ all_brought O s c.args.i c.args.u (state_of c.args.walk.now) (c.in_err-import_kind.ensures.step O)
    (run_idle O s _ _ (is_refused c.in_err-import_kind.field-0.0)) (run_idle O s _ _ (is_refused c.in_err-import_kind.field-0.0))

pub returns-in_err-import_kind-2-clause-step : goal.returns-in_err-import_kind-2-clause-step
returns-in_err-import_kind-2-clause-step c =
    let s = c.args.walk.now.sheet.now in
    let same = ap (λ b. b.now) c.import_kind.ensures.same.sheet in
    λ O. after_err c.import_kind-2.new.walk _ c.in_err-import_kind-2.field-0.0 c.from_residual-in_err-import_kind-2.ensures.1
    ∙ all_brought O s c.args.i c.args.u (state_of c.args.walk.now) (c.in_ok-import_kind.ensures.step O)
    (c.in_err-import_kind-2.ensures.step O ∙ ap (λ (v : Sheet). run_state O v (map (brought_row v c.args.i) (kids_of v 4 c.args.u)) (state_of c.import_kind.new.walk)) same)
    (run_idle O s _ _ (is_refused c.in_err-import_kind-2.field-0.0))

pub returns-clause-step : goal.returns-clause-step
returns-clause-step c =
    let s = c.args.walk.now.sheet.now in
    let same = ap (λ b. b.now) c.import_kind.ensures.same.sheet in
    let same_2 = ap (λ b. b.now) (c.import_kind-2.ensures.same.sheet ∙ c.import_kind.ensures.same.sheet) in
    λ O. all_brought O s c.args.i c.args.u (state_of c.args.walk.now) (c.in_ok-import_kind.ensures.step O)
    (c.in_ok-import_kind-2.ensures.step O ∙ ap (λ (v : Sheet). run_state O v (map (brought_row v c.args.i) (kids_of v 4 c.args.u)) (state_of c.import_kind.new.walk)) same)
    (c.import_kind-3.ensures.step O ∙ ap (λ (v : Sheet). run_state O v (map (brought_row v c.args.i) (kids_of v 8 c.args.u)) (state_of c.import_kind-2.new.walk)) same_2)
