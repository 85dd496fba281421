use Rattle.std.proofs.Common.{eqb, rules, tests}
use Rattle.std.proofs.lemmas.Iterator.Search.{find_from_yields_List}
use Rattle.definition.specs.Sheet.{a}
use Rattle.sheet.proofs.ChildLists.{kind_given, same_option}
use Rattle.sheet.proofs.first_named.Goals as goal

pub returns : goal.returns
returns c =
    same_option
    (find_from_yields_List (λ k. eqb (a c.args.sheet.now k) c.args.n) c.find.new.self _ _ c.find.ensures.ran (kind_given c.kids_of.ensures) (λ x b q k. search (rules, tests)))
