use Rattle.std.proofs.Common.{◌∙◌, eqb, rules, tests}
use Rattle.std.proofs.lemmas.Iterator.Search.{any_from_yields_List}
use Rattle.std.proofs.lemmas.Iterator.Consumers.{YieldsList-from_first}
use Rattle.outside.specs.Left.{names_left}
use Rattle.class_names.proofs.NameLaws.{listed_any}
use Rattle.class_names.proofs.held.is_recorded.Goals as goal

pub returns : goal.returns
returns c =
    any_from_yields_List (λ name. eqb name c.args.m) c.any.new.self _ _ c.any.ensures.ran (YieldsList-from_first (λ x. x) names_left _ c.recorded_names.ensures) (λ x b q k. search (rules, tests))
    ∙ listed_any c.args.m _
