use Rattle.outside.proofs.RecordLaws.{over_base}
use Rattle.finish.proofs.AnswerLaws.{answer_settled}
use Rattle.finish.proofs.write_answer.Goals as goal

pub returns : goal.returns
returns c =
    let rows = c.emit_rows-n.ensures in
    answer_settled (over_base c.args.outside.now) c.requires.2 c.args.out.now _ _ rows _ _
    c.accept.ensures
