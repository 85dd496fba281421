-- `place_of` meets its contract. Assumes nothing.
use Rattle.std.proofs.Common.{◌∙◌, ap, ℕ, eqb, length, rules, tests}
use Rattle.std.specs.Option.{unwrap_or}
use Rattle.std.specs.Prelude.{Option}
use Rattle.std.proofs.lemmas.Iterator.{YieldsList-from_slice}
use Rattle.std.proofs.lemmas.Iterator.Search.{position_from_yields_List}
use Rattle.names.proofs.Laws.{place_found}
use Rattle.entry_names.proofs.place_of.Goals as goal

pub returns : goal.returns
returns c =
    let found = position_from_yields_List (λ x. eqb x c.args.n) c.position.new.self _ c.position.result c.position.ensures.ran (YieldsList-from_slice c.args.numbers.now cc)
    (λ x b q k. search (rules, tests)) in
    c.unwrap_or.ensures ∙ ap (λ (o : Option ℕ). unwrap_or o (length c.args.numbers.now)) found ∙ place_found (λ x. eqb x c.args.n) c.args.numbers.now
