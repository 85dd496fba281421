use Rattle.std.proofs.Common.{rules}
use Rattle.session_rows.proofs.RunLaws.{all_between}
use Rattle.session_rows.specs.Rows.{after, number_rises, numbers_rise}
use Rattle.session_rows.proofs.numbers_rise.Goals as goal

pub returns : goal.returns
unfolding numbers_rise
returns c =
    all_between (number_rises c.args.words.now c.args.e (after c.args.words.now c.args.e 3)) c.all.ensures.ran _ _ (cc) (λ x b q k. search rules)
