use Rattle.std.proofs.Common.{rules}
use Rattle.session_rows.proofs.RunLaws.{all_below}
use Rattle.session_rows.specs.Rows.{after, last_right}
use Rattle.std.specs.Prelude.{◌+◌, eqb, get_or}
use Rattle.session_rows.proofs.last_fits.Goals as goal

pub returns : goal.returns
unfolding last_right
returns c =
    all_below (λ i. eqb (after c.args.words.now (get_or c.args.words.now 1 0) i) (get_or c.args.words.now (3 + i) 0)) c.all.ensures.ran 5 (cc) (λ x b q k. search rules)
