-- `names::first_end` meets its contract: the first byte 10 is where the first name ends. Assumes nothing.
use Rattle.std.proofs.Common.{◌∙◌, ap, ℕ, eqb, length, rules, tests}
use Rattle.std.specs.Option.{unwrap_or}
use Rattle.std.specs.Prelude.{Option}
use Rattle.std.proofs.lemmas.Iterator.{YieldsList-from_slice}
use Rattle.std.proofs.lemmas.Iterator.Search.{position_from_yields_List}
use Rattle.names.proofs.Laws.{place_found}
use Rattle.names.proofs.first_end.Goals as goal

pub returns : goal.returns
returns c =
    let found = position_from_yields_List (λ x. eqb x 10) _ _ c.position.result c.position.ensures.ran (YieldsList-from_slice c.args.names.now cc) (λ x b q k. search (rules, tests)) in
    c.unwrap_or.ensures ∙ ap (λ (o : Option ℕ). unwrap_or o (length c.args.names.now)) found ∙ place_found (λ x. eqb x 10) c.args.names.now
