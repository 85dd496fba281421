use Rattle.std.proofs.Common.{List, ℕ, ap, ◌∙◌}
use Rattle.definition.specs.Sheet.{Sheet}
use Rattle.outside.specs.Words.{over}
use Rattle.walk.specs.WalkState.{state_of}
use Rattle.walk.proofs.StepLaws.{after_err, is_refused}
use Rattle.resolve_syms.specs.Walked.{parts_walked}
use Rattle.resolve_syms.proofs.WalkLaws.{read_on}
use Rattle.entry_walk.proofs.StartLaws.{parts_idle}
use Rattle.entry_walk.proofs.resolve_body.Goals as goal

pub returns-in_err-open_body-clause-step : goal.returns-in_err-open_body-clause-step
returns-in_err-open_body-clause-step c =
    after_err c.open_body.new.walk _ c.in_err-open_body.field-0.0 c.from_residual.ensures.1
    ∙ parts_idle _ _ _ _ (is_refused c.in_err-open_body.field-0.0) (c.in_err-open_body.ensures.step _)

pub returns-clause-step : goal.returns-clause-step
returns-clause-step c =
    let O = over c.args.walk.now.outside.now in
    let s = c.args.walk.now.sheet.now in
    let parts = λ (o : List ℕ) (s : Sheet). parts_walked (over o) c.args.left s c.args.rows.body (state_of c.open_body.new.walk) in
    read_on parts c.open_body.ensures.same c.resolve_parts.ensures.step ∙ ap (parts_walked O c.args.left s c.args.rows.body) (c.in_ok-open_body.ensures.step O)
