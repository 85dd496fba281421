use Rattle.std.proofs.Common.{eqb, ◌∙◌, rules, tests}
use Rattle.std.proofs.lemmas.Iterator.Search.{any_from_yields_List}
use Rattle.definition.specs.Sheet.{a}
use Rattle.sheet.proofs.ChildLists.{kind_given, name_listed}
use Rattle.sheet.proofs.has_named.Goals as goal

pub returns : goal.returns
returns c =
    any_from_yields_List (λ k. eqb (a c.args.sheet.now k) c.args.n) c.any.new.self _ _ c.any.ensures.ran (kind_given c.kids_of.ensures) (λ x b q k. search (rules, tests))
    ∙ name_listed c.args.sheet.now c.args.n _
