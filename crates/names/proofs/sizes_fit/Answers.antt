-- `names::sizes_fit` meets its contract: the place of a name tells how many stand before it. Assumes nothing.
use Rattle.std.proofs.Common.{◌∙◌, ap, rules, tests}
use Rattle.std.proofs.lemmas.Iterator.Consumers.{YieldsList-from_first, YieldsList-from_enumerate}
use Rattle.std.proofs.lemmas.Iterator.Search.{all_from_yields_List}
use Rattle.definition.specs.Names.{listed}
use Rattle.names.specs.declared.Names.{Names}
use Rattle.names.proofs.Laws.{placed_sized, few_sized}
use Rattle.names.proofs.sizes_fit.Goals as goal

pub returns : goal.returns
returns c =
    all_from_yields_List placed_sized c.all.new.self _ c.all.result c.all.ensures.ran
    (YieldsList-from_enumerate
    (YieldsList-from_first (λ n. n.now) (λ left. listed left.0.now) (listed c.args.names.now) (ap (λ (i : Names). listed i.0.now) c.enumerate.ensures.source))
    c.enumerate.ensures.count)
    (λ x b q k. search (rules, tests))
    ∙ few_sized c.args.names.now
