use Rattle.std.proofs.Common.{refl, sym, ◌∙◌}
use Rattle.outside.specs.Words.{over}
use Rattle.walk.specs.WalkState.{state_of}
use Rattle.calls.proofs.CallLaws.{construct_no, construct_yes}
use Rattle.calls.proofs.construct.Goals as goal

pub returns-then-not-has_record-clause-step : goal.returns-then-not-has_record-clause-step
returns-then-not-has_record-clause-step c =
    construct_no (over c.args.walk.now.outside.now) c.args.walk.now.sheet.now c.args.row
    (state_of c.args.walk.now) c.requires.0 refl c.args.class.0 c.requires.1 c.requires.2 _ _ c.word-callee.ensures c.word.ensures
    (sym c.has_record.ensures ∙ c.if-not-has_record.true) refl

pub returns-clause-step : goal.returns-clause-step
returns-clause-step c =
    construct_yes (over c.args.walk.now.outside.now) c.args.walk.now.sheet.now c.args.row (state_of c.args.walk.now) c.requires.0 refl c.args.class.0 c.requires.1 c.requires.2 _
    (sym c.has_record.ensures ∙ c.if-not-has_record.false) (c.append_call-walk.ensures _)
