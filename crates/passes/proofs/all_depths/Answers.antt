use Rattle.std.proofs.Common.{rules, ◌∙◌, arith}
use Rattle.std.proofs.lemmas.Iterator.{YieldsList-from_range}
use Rattle.std.proofs.lemmas.Iterator.Search.{all_from_yields_List}
use Rattle.definition.proofs.Lists.Library.{all_range}
use Rattle.row_fits.specs.Pass.{depth_ok}
use Rattle.passes.proofs.all_depths.Goals as goal

pub returns : goal.returns
returns c =
    all_from_yields_List (depth_ok c.args.table.now) _ _ _ c.all.ensures.ran (YieldsList-from_range 0 c.args.n c.args.n (cc) (omega arith)) (λ x b q k. search rules)
    ∙ all_range (depth_ok c.args.table.now) c.args.n
