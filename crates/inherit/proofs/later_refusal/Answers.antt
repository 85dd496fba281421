use Rattle.std.proofs.Common.{map, refl, ◌∙◌}
use Rattle.machine.specs.Machine.{chain_to}
use Rattle.store.specs.Stored.{store_of}
use Rattle.after.specs.Inherited.{check_call_in, calls_refusal}
use Rattle.ast.proofs.QuestionLaws.{question_none, refusal_handed}
use Rattle.inherit.proofs.CallLaws.{later_classes, later_calls}
use Rattle.outside.specs.Words.{over}
use Rattle.inherit.proofs.later_refusal.Goals as goal

pub returns-in_err-check_classes : goal.returns-in_err-check_classes
returns-in_err-check_classes c =
    λ o e. refusal_handed c.from_residual.result c.in_err-check_classes.field-0.0 c.from_residual.ensures.1
    ∙ later_classes (calls_refusal (over c.args.outside.now) c.args.sheet.now (store_of o c.args.results.now c.args.nodes.now))
    (c.in_err-check_classes.ensures o c.args.nodes.now) (question_none c.in_err-check_classes.field-0.0.question)

pub returns : goal.returns
returns c =
    λ o e. later_calls (map (check_call_in (over c.args.outside.now) c.args.sheet.now
    (store_of o c.args.results.now c.args.nodes.now))
    (chain_to c.args.nodes.now o.calls))
    (c.in_ok-check_classes.ensures o c.args.nodes.now) refl (c.check_ctor_calls.ensures o e)
