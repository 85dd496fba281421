use Rattle.std.proofs.Common.{rules}
use Rattle.session_rows.proofs.RunLaws.{all_between}
use Rattle.session_check.specs.Clauses.{method_right, methods_right}
use Rattle.session_check.proofs.entry.Entry.methods_fit.Goals as goal

pub returns : goal.returns
unfolding methods_right
returns c =
    all_between (method_right c.args.self.words.now c.args.self.number) c.all.ensures.ran _ _ (cc) (λ x b q k. search rules)
