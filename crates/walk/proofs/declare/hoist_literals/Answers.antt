use Rattle.std.proofs.Common.{◌≡◌, true, sym, ap, map, ◌∙◌, [], ◌∷◌, rules}
use Rattle.definition.specs.Basics.{filter}
use Rattle.definition.specs.Sheet.{Sheet}
use Rattle.definition.specs.Walk.{declare, literal_let}
use Rattle.sheet.specs.Rest.{rows_left}
use Rattle.walk.specs.WalkState.{state_of}
use Rattle.walk.proofs.StepLaws.{after_err, is_refused}
use Rattle.walk.proofs.RunLaws.{run_one, loop_on, loop_no, loop_end}
use Rattle.walk.proofs.DeclareLaws.{literal_first}
use Rattle.walk.proofs.declare.hoist_literals.Goals as goal

pub loop-child-preserved-in-Continue-1 : goal.loop-child-preserved-in-Continue-1
loop-child-preserved-in-Continue-1 c =
    let s = c.args.walk.now.sheet.now in
    let same = ap (λ b. b.now) c.loop-child.invariant.1.sheet in
    let here : literal_let s c.in-Some.child ≡ true = ap (λ (t : Sheet). literal_let t c.in-Some.child) (sym same) ∙ sym c.is_literal_let.ensures ∙ c.if-is_literal_let.true in (
      λ O. loop_on O s c.loop-child.walk.sheet.now (declare c.in-Some.child ∷ []) (map declare (filter (literal_let s) (rows_left c.next.new.self))) (state_of c.loop-child.walk) _
          same (literal_first s c.in-Some.child (rows_left c.next.new.self) c.in-Some.ensures.steps here) (run_one O _ _ _ (c.in_ok-declare.ensures.step O)) (c.loop-child.invariant.0 O),
      search rules,
    )

pub returns-in_err-declare-clause-step : goal.returns-in_err-declare-clause-step
returns-in_err-declare-clause-step c =
    let s = c.args.walk.now.sheet.now in
    let same = ap (λ b. b.now) c.loop-child.invariant.1.sheet in
    let here : literal_let s c.in-Some.child ≡ true = ap (λ (t : Sheet). literal_let t c.in-Some.child) (sym same) ∙ sym c.is_literal_let.ensures ∙ c.if-is_literal_let.true in
    λ O. after_err c.declare.new.walk _ c.in_err-declare.field-0.0 c.from_residual.ensures.1
    ∙ loop_no O s c.loop-child.walk.sheet.now (declare c.in-Some.child ∷ []) (map declare (filter (literal_let s) (rows_left c.next.new.self))) (state_of c.loop-child.walk) _
    same (literal_first s c.in-Some.child (rows_left c.next.new.self) c.in-Some.ensures.steps here) (run_one O _ _ _ (c.in_err-declare.ensures.step O)) (c.loop-child.invariant.0 O)
    (is_refused c.in_err-declare.field-0.0)

pub returns-clause-step : goal.returns-clause-step
returns-clause-step c =
    λ O. loop_end O c.args.walk.now.sheet.now (state_of c.loop-child.walk) (ap (λ ks. map declare (filter (literal_let c.args.walk.now.sheet.now) ks)) c.in-None.ensures.steps.0)
    (c.loop-child.invariant.0 O)
