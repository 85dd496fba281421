use Rattle.std.proofs.Common.{rules}
use Rattle.session_rows.proofs.RunLaws.{all_below}
use Rattle.session_rows.specs.Rows.{count_rises, counts_rise}
use Rattle.session_rows.proofs.counts_rise.Goals as goal

pub returns : goal.returns
unfolding counts_rise
returns c =
    all_below (count_rises c.args.words.now c.args.e) c.all.ensures.ran 5 (cc) (λ x b q k. search rules)
