use Rattle.std.proofs.Common.{not, eqb, inl, arith, ap, ◌∙◌, length, rules, tests}
use Rattle.std.proofs.lemmas.Iterator.Search.{YieldsList-from_take_while}
use Rattle.std.proofs.lemmas.Iterator.Consumers.{count_from_yields_List}
use Rattle.definition.specs.Sheet.{kids_of}
use Rattle.sheet.proofs.ChildLists.{kind_given, before_row, place_short, kids_of_short}
use Rattle.sheet.specs.declared.child_rows.KindRows.{KindRows}
use Rattle.sheet.specs.Rest.{kind_left}
use Rattle.sheet.proofs.param_index.Goals as goal

pub count-requires-clause-fits : goal.count-requires-clause-fits
count-requires-clause-fits c =
    inl (omega (arith, kids_of_short c.args.sheet.now 11 c.args.f.0, ap length c.kids_of.ensures, ap (λ (i : KindRows). length (kind_left i)) c.take_while.ensures.source))

pub returns : goal.returns
returns c =
    count_from_yields_List c.take_while.result _ c.count.ensures.ran
    (YieldsList-from_take_while _ (λ k. not (eqb k c.args.row))
    (kind_given (ap kind_left c.take_while.ensures.source ∙ c.kids_of.ensures)) c.take_while.ensures.closure c.take_while.ensures.done (λ x b q k. search (rules, tests)))
    ∙ before_row c.args.row (kids_of c.args.sheet.now 11 c.args.f.0)

pub overflow_cast-result : goal.overflow_cast-result
overflow_cast-result c = omega (arith, returns c, place_short (eqb c.args.row) (kids_of c.args.sheet.now 11 c.args.f.0), kids_of_short c.args.sheet.now 11 c.args.f.0)
