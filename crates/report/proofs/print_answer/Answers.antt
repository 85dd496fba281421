-- `print_answer` meets its contract. Assumes nothing.
use Rattle.report.proofs.PrintLaws.{answer_printed}
use Rattle.report.proofs.print_answer.Goals as goal

pub returns : goal.returns
returns c =
    answer_printed c.args.x c.args.words.now c.first_line-line.result _ c.requires.0 c.first_line-line.ensures c.write_fitted.ensures
    c.args.text.now _ _ c.requires.1 c.write_rows.ensures
