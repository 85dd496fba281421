use Rattle.std.proofs.Common.{ap, map, ◌∙◌, [], ◌∷◌, rules}
use Rattle.definition.specs.Walk.{declare}
use Rattle.sheet.specs.Rest.{kind_left}
use Rattle.walk.specs.WalkState.{state_of}
use Rattle.walk.proofs.StepLaws.{after_err, is_refused}
use Rattle.walk.proofs.RunLaws.{run_one, loop_on, loop_no, loop_end}
use Rattle.walk.proofs.declare.declare_kind.Goals as goal

pub loop-child-preserved : goal.loop-child-preserved
loop-child-preserved c = (
  λ O. loop_on O c.args.walk.now.sheet.now c.loop-child.walk.sheet.now (declare c.in-Some.child ∷ []) (map declare (kind_left c.next.new.self)) (state_of c.loop-child.walk) _
      (ap (λ b. b.now) c.loop-child.invariant.1.sheet) (ap (map declare) c.in-Some.ensures.steps) (run_one O _ _ _ (c.in_ok-declare.ensures.step O)) (c.loop-child.invariant.0 O),
  search rules,
)

pub returns-in_err-declare-clause-step : goal.returns-in_err-declare-clause-step
returns-in_err-declare-clause-step c =
    λ O. after_err c.declare.new.walk _ c.in_err-declare.field-0.0 c.from_residual.ensures.1
    ∙ loop_no O c.args.walk.now.sheet.now c.loop-child.walk.sheet.now (declare c.in-Some.child ∷ []) (map declare (kind_left c.next.new.self)) (state_of c.loop-child.walk) _
    (ap (λ b. b.now) c.loop-child.invariant.1.sheet) (ap (map declare) c.in-Some.ensures.steps) (run_one O _ _ _ (c.in_err-declare.ensures.step O)) (c.loop-child.invariant.0 O)
    (is_refused c.in_err-declare.field-0.0)

pub returns-clause-step : goal.returns-clause-step
returns-clause-step c = λ O. loop_end O c.args.walk.now.sheet.now (state_of c.loop-child.walk) (ap (map declare) c.in-None.ensures.steps.0) (c.loop-child.invariant.0 O)
