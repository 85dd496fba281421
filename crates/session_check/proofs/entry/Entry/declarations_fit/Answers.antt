use Rattle.std.proofs.Common.{rules, []}
use Rattle.session.specs.Words.{whole, laid_fits}
use Rattle.session_rows.proofs.RunLaws.{all_between}
use Rattle.session_rows.specs.Rows.{after}
use Rattle.std.specs.Prelude.{suc}
use Rattle.session_check.proofs.entry.Entry.declarations_fit.Goals as goal

pub returns : goal.returns
returns c =
    all_between (laid_fits whole c.args.self.words.now [] c.args.self.number) c.all.ensures.ran
    (after c.args.self.words.now c.args.self.number 2) (after c.args.self.words.now (suc c.args.self.number) 2) (cc) (λ x b q k. search rules)
