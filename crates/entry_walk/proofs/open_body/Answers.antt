use Rattle.std.proofs.Common.{ap, ◌++◌, ◌∙◌}
use Rattle.definition.specs.Sheet.{Sheet}
use Rattle.definition.specs.Walk.{before}
use Rattle.walk.specs.WalkState.{state_of}
use Rattle.walk.proofs.StepLaws.{after_err, is_refused}
use Rattle.walk.proofs.RunLaws.{run_both, run_idle}
use Rattle.row_events.proofs.RowLaws.{runs_on}
use Rattle.entry_walk.proofs.open_body.Goals as goal

pub returns-in_err-before-clause-step : goal.returns-in_err-before-clause-step
returns-in_err-before-clause-step c =
    let s = c.args.walk.now.sheet.now in
    let no = is_refused c.in_err-before.field-0.0 in
    λ O. after_err c.before-2.new.walk _ c.in_err-before.field-0.0 c.from_residual.ensures.1
    ∙ run_both O s (before s c.args.rows.unit ++ before s c.args.rows.fun) _ _
    (run_both O s _ _ (state_of c.args.walk.now) (c.in_err-before.ensures.step O) (run_idle O s _ _ no)) (run_idle O s _ _ no)

pub returns-in_err-before-2-clause-step : goal.returns-in_err-before-2-clause-step
returns-in_err-before-2-clause-step c =
    let s = c.args.walk.now.sheet.now in
    let first = ap (λ b. b.now) c.before-2.ensures.same.sheet in
    λ O. after_err c.before-3.new.walk _ c.in_err-before-2.field-0.0 c.from_residual-in_err-before-2.ensures.1
    ∙ run_both O s (before s c.args.rows.unit ++ before s c.args.rows.fun) _ _
    (run_both O s _ _ (state_of c.args.walk.now) (c.in_ok-before.ensures.step O)
    (runs_on O (λ (v : Sheet). before v c.args.rows.fun) (state_of c.before-2.new.walk) first (c.in_err-before-2.ensures.step O)))
    (run_idle O s _ _ (is_refused c.in_err-before-2.field-0.0))

pub returns-clause-step : goal.returns-clause-step
returns-clause-step c =
    let s = c.args.walk.now.sheet.now in
    let first = c.before-2.ensures.same.sheet in
    λ O. run_both O s (before s c.args.rows.unit ++ before s c.args.rows.fun) _ _
    (run_both O s _ _ (state_of c.args.walk.now) (c.in_ok-before.ensures.step O)
    (runs_on O (λ (v : Sheet). before v c.args.rows.fun) (state_of c.before-2.new.walk) (ap (λ b. b.now) first) (c.in_ok-before-2.ensures.step O)))
    (runs_on O (λ (v : Sheet). before v c.args.rows.body) (state_of c.before-3.new.walk) (ap (λ b. b.now) (c.before-3.ensures.same.sheet ∙ first)) (c.before-4.ensures.step O))
