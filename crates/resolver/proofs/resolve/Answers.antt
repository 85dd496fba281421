use Rattle.resolver.proofs.OutcomeLaws.{past_four, answered_four, answered_no}
use Rattle.ast.proofs.QuestionLaws.{question_none}
use mathlib.Core.Path.{sym}
use Rattle.resolver.proofs.resolve.Goals as goal

pub returns-in-Err : goal.returns-in-Err
returns-in-Err c =
    let no = c.refuse.ensures in
    answered_no c.args.sheet.now c.args.names.now _ _ _ _ c.in-Err.ensures (question_none _) no.0 no.1

pub resolve_plain-requires : goal.resolve_plain-requires
resolve_plain-requires c =
    past_four c.args.sheet.now c.args.names.now
    (sym c.in-Ok.ensures)

pub returns-in-Ok : goal.returns-in-Ok
returns-in-Ok c =
    let four = sym c.in-Ok.ensures in
    answered_four c.args.sheet.now c.args.names.now _ _ _ four
    c.resolve_plain.ensures
