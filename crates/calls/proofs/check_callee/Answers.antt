use Rattle.std.proofs.Common.{sym, ◌∙◌}
use Rattle.outside.specs.Words.{over}
use Rattle.walk.specs.WalkState.{state_of}
use Rattle.calls.proofs.CallLaws.{call_other}
use Rattle.calls.proofs.check_callee.Goals as goal

pub returns-clause-step : goal.returns-clause-step
returns-clause-step c =
    call_other (over c.args.walk.now.outside.now) c.args.walk.now.sheet.now c.args.row (state_of c.args.walk.now) c.requires (sym c.constructed_class-class.ensures ∙ c.if-class-ne0.false)
    (sym c.receiver_class-receiver.ensures ∙ c.if-receiver-ne0.false)
