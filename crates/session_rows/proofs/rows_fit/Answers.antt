use Rattle.std.proofs.Common.{rules}
use Rattle.session_rows.proofs.RunLaws.{all_below}
use Rattle.session_rows.specs.Rows.{row_right, rows_right}
use Rattle.session_rows.proofs.rows_fit.Goals as goal

pub returns : goal.returns
unfolding rows_right
returns c =
    all_below (row_right c.args.words.now c.args.starts.now) c.all.ensures.ran _ (cc) (λ x b q k. search rules)
