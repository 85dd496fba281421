use Rattle.std.proofs.Common.{ap}
use Rattle.ast.specs.Refused.{refusal_of, refusal_in}
use Rattle.ast.proofs.QuestionLaws.{question_none}
use Rattle.outside.proofs.RecordLaws.{over_base}
use Rattle.finish.proofs.AnswerLaws.{any_entries}
use Rattle.finish.proofs.SettledLaws.{files_small}
use Rattle.resolver.proofs.OutcomeLaws.{walk_no}
use Rattle.walk.specs.Ended.{ended}
use Rattle.resolver.proofs.resolve_in.Goals as goal

pub refuse_at-requires : goal.refuse_at-requires
refuse_at-requires c = files_small c.args.sheet.now _ c.requires.past

pub returns-in-Err : goal.returns-in-Err
returns-in-Err c =
    walk_no (over_base c.args.outside.now) {x = ended _ _ _ _} c.resolve_units-walk.ensures (refusal_of c.in-Err.no) (ap refusal_in c.in-Err.is) (question_none _) _ _ _
    c.refuse_at.ensures.0 c.refuse_at.ensures.1

pub finish-requires : goal.finish-requires
finish-requires c =
    (c.requires.past, any_entries _ _ _ c.resolve_units-walk.ensures, ap (λ r. (refusal_in r).number) c.in-Ok.is)
