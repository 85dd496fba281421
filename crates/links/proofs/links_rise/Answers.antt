use Rattle.std.proofs.Common.{rules, ◌∙◌, arith}
use Rattle.std.proofs.lemmas.Iterator.{YieldsList-from_range}
use Rattle.std.proofs.lemmas.Iterator.Search.{all_from_yields_List}
use Rattle.definition.proofs.Lists.Library.{all_range}
use Rattle.definition.specs.Format.{links_rise}
use Rattle.definition.specs.Sheet.{rows}
use Rattle.links.proofs.links_rise.Goals as goal

pub returns : goal.returns
returns c =
    all_from_yields_List (links_rise c.args.sheet.now) _ _ _ c.all.ensures.ran (YieldsList-from_range 0 (rows c.args.sheet.now) (rows c.args.sheet.now) (cc) (omega arith))
    (λ x b q k. search rules)
    ∙ all_range (links_rise c.args.sheet.now) (rows c.args.sheet.now)
