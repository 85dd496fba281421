use Rattle.answer_rows.proofs.ScratchLaws.{rows_most}
use Rattle.finish.proofs.AnswerLaws.{unmarked}
use Rattle.finish.proofs.ask_later.Goals as goal

pub later_refusal-requires : goal.later_refusal-requires
later_refusal-requires c =
    unmarked c.requires 2048 (rows_most _ c.requires)
