use Rattle.std.proofs.Common.{refl, sym}
use Rattle.outside.specs.Words.{over}
use Rattle.walk.specs.WalkState.{state_of}
use Rattle.ast.proofs.QuestionLaws.{question_none}
use Rattle.calls.proofs.CallLaws.{method_no, method_yes}
use Rattle.calls.proofs.call_method.Goals as goal

pub returns-in-Err-clause-step : goal.returns-in-Err-clause-step
returns-in-Err-clause-step c =
    method_no (over c.args.walk.now.outside.now) c.args.walk.now.sheet.now c.args.row
    (state_of c.args.walk.now) c.requires.0 refl c.args.class.0 c.requires.1 c.requires.2 _ _ _ c.word-callee.ensures c.word-name.ensures c.own_method-method.ensures.fun_is _
    c.own_method-method.ensures.params_are _ c.in-Err.ensures (question_none c.in-Err.question) refl

pub returns-clause-step : goal.returns-clause-step
returns-clause-step c =
    method_yes (over c.args.walk.now.outside.now) c.args.walk.now.sheet.now c.args.row
    (state_of c.args.walk.now) c.requires.0 refl c.args.class.0 c.requires.1 c.requires.2 _ _ _ c.word-callee.ensures c.word-name.ensures c.own_method-method.ensures.fun_is _
    c.own_method-method.ensures.params_are _ _ _ c.word.ensures (sym c.in_default.ensures) (c.mark_hidden.ensures _ _) (c.write_decl.ensures _ _)
