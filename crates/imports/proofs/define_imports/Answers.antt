use Rattle.std.proofs.Common.{ap, refl, ◌∙◌, rules}
use Rattle.definition.specs.Basics.{concat_map}
use Rattle.definition.specs.Walk.{imports}
use Rattle.sheet.specs.Rest.{kind_left}
use Rattle.walk.specs.WalkState.{state_of}
use Rattle.walk.proofs.StepLaws.{after_err, is_refused}
use Rattle.walk.proofs.RunLaws.{loop_on, loop_no, loop_end}
use Rattle.imports.proofs.ImportLaws.{import_brought}
use Rattle.imports.proofs.define_imports.Goals as goal

pub loop-import-preserved : goal.loop-import-preserved
loop-import-preserved c =
    let s = c.args.walk.now.sheet.now in
    let same = ap (λ b. b.now) c.loop-import.invariant.1.sheet in (
      λ O. loop_on O s s (imports s c.args.u c.in-Some.import) (concat_map (imports s c.args.u) (kind_left c.next.new.self)) (state_of c.loop-import.walk) _ refl
          (ap (concat_map (imports s c.args.u)) c.in-Some.ensures.steps) (import_brought O same c.in-Some.import _ c.args.u (c.in_ok-import_one.ensures.step O)) (c.loop-import.invariant.0 O),
      search rules,
    )

pub returns-in_err-import_one-clause-step : goal.returns-in_err-import_one-clause-step
returns-in_err-import_one-clause-step c =
    let s = c.args.walk.now.sheet.now in
    let same = ap (λ b. b.now) c.loop-import.invariant.1.sheet in
    λ O. after_err c.import_one.new.walk _ c.in_err-import_one.field-0.0 c.from_residual.ensures.1
    ∙ loop_no O s s (imports s c.args.u c.in-Some.import) (concat_map (imports s c.args.u) (kind_left c.next.new.self)) (state_of c.loop-import.walk) _ refl
    (ap (concat_map (imports s c.args.u)) c.in-Some.ensures.steps) (import_brought O same c.in-Some.import _ c.args.u (c.in_err-import_one.ensures.step O)) (c.loop-import.invariant.0 O)
    (is_refused c.in_err-import_one.field-0.0)

pub returns-clause-step : goal.returns-clause-step
returns-clause-step c =
    λ O. loop_end O c.args.walk.now.sheet.now (state_of c.loop-import.walk) (ap (concat_map (imports c.args.walk.now.sheet.now c.args.u)) c.in-None.ensures.steps.0)
    (c.loop-import.invariant.0 O)
