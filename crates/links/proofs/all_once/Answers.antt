use Rattle.std.proofs.Common.{rules, ◌∙◌, arith, ◌-◌, ℕ, Bool, eqb, get_or}
use Rattle.std.proofs.lemmas.Iterator.{YieldsList-from_range}
use Rattle.std.proofs.lemmas.Iterator.Search.{all_from_yields_List}
use Rattle.links.proofs.LinkLaws.{once_from}
use Rattle.links.proofs.all_once.Goals as goal

pub returns : goal.returns
returns c =
    let once : ℕ → Bool = λ k. eqb (get_or c.args.seen.now k 0) 1 in
    all_from_yields_List once _ _ _ c.all.ensures.ran (YieldsList-from_range 1 c.args.n (c.args.n - 1) (cc) (omega arith)) (λ x b q k. search rules)
    ∙ once_from c.args.seen.now c.args.n
