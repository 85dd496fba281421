use Rattle.std.proofs.Common.{rules}
use Rattle.session_rows.proofs.RunLaws.{all_below}
use Rattle.session_rows.specs.Rows.{numbers_rise, all_rise}
use Rattle.session_rows.proofs.all_rise.Goals as goal

pub returns : goal.returns
unfolding all_rise
returns c =
    all_below (numbers_rise c.args.words.now) c.all.ensures.ran _ (cc) (λ x b q k. search rules)
