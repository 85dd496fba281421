use Rattle.std.proofs.Common.{refl, []}
use Rattle.ast.proofs.QuestionLaws.{question_none}
use Rattle.outside.proofs.RecordLaws.{over_base}
use Rattle.finish.proofs.AnswerLaws.{later_no, later_none, walk_store}
use Rattle.finish.proofs.SettledLaws.{files_small}
use Rattle.walk.specs.Ended.{ended}
use Rattle.finish.proofs.finish.Goals as goal

pub refuse_at-requires : goal.refuse_at-requires
refuse_at-requires c = files_small c.args.sheet.now _ c.requires.0

pub returns-in-Err : goal.returns-in-Err
returns-in-Err c =
    let x = ended c.args.walk [] c.args.results.now c.args.nodes.now in
    later_no (over_base c.args.outside.now) {x = x} c.requires.0 (c.requires.1 []) c.requires.2 _ (c.in-Err.ensures c.args.walk.store refl) _ _ _
    (question_none _) c.refuse_at.ensures.0 c.refuse_at.ensures.1

pub write_answer-requires : goal.write_answer-requires
write_answer-requires c =
    let x = ended c.args.walk [] c.args.results.now c.args.nodes.now in (
      c.requires.0,
      walk_store {x = x} (c.requires.1 []) c.requires.2,
      later_none (over_base c.args.outside.now) {x = x} c.requires.0 (c.requires.1 []) c.requires.2 _ (c.in-Ok.ensures c.args.walk.store refl) refl,
    )
