use Rattle.std.proofs.Common.{ap}
use Rattle.ast.specs.Refused.{refusal_of, refusal_in}
use Rattle.ast.proofs.QuestionLaws.{question_none}
use Rattle.outside.proofs.RecordLaws.{over_base}
use Rattle.outside.specs.Words.{over}
use Rattle.finish.proofs.AnswerLaws.{any_entries}
use Rattle.finish.proofs.SettledLaws.{files_small}
use Rattle.walk.specs.Ended.{ended}
use Rattle.repl_unit.proofs.OverLaws.{walk_based}
use Rattle.repl_unit.proofs.resolve_over.Goals as goal

pub refuse_at-answer-requires : goal.refuse_at-answer-requires
refuse_at-answer-requires c = files_small c.args.sheet.now _ c.requires.0.past

pub finish_over-answer-requires : goal.finish_over-answer-requires
finish_over-answer-requires c =
    (c.requires.0.past, any_entries _ _ _ c.resolve_entry-walk.ensures.walked, ap (λ r. (refusal_in r).number) c.in-Ok.is, c.requires.2)

pub returns-in-Err : goal.returns-in-Err
returns-in-Err c =
    let walked = c.resolve_entry-walk.ensures in (
      walk_based (over c.args.outside.now) (over_base c.args.outside.now) c.args.base (ended _ _ _ _) walked.walked (refusal_of c.in-Err.no) (ap refusal_in c.in-Err.is) (question_none _)
          c.refuse_at-answer.ensures.0 c.refuse_at-answer.ensures.1,
      walked,
    )
