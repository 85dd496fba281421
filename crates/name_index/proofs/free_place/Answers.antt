-- `name_index::free_place` meets its contract: the first free place of the words from `first` on, around the end. Assumes nothing.
use Rattle.std.proofs.Common.{◌∙◌, ap, ◌+◌, ◌%◌, ℕ, Bool, eqb, get_or, arith, rules, tests}
use Rattle.std.specs.List.{range_with_len}
use Rattle.std.specs.Option.{unwrap_or}
use Rattle.std.specs.Prelude.{Option}
use Rattle.std.proofs.lemmas.Iterator.{YieldsList-from_range}
use Rattle.std.proofs.lemmas.Iterator.Search.{position_from_yields_List}
use Rattle.names.proofs.Laws.{place_found}
use Rattle.name_index.proofs.TurnLaws.{run_places}
use Rattle.name_index.proofs.free_place.Goals as goal

pub returns : goal.returns
returns c =
    let is_free : ℕ → Bool = λ j. eqb (get_or c.args.index.now ((c.args.first + j) % 2048) 0) 0 in
    let free = position_from_yields_List is_free c.position-free.new.self _ c.position-free.result c.position-free.ensures.ran
    (YieldsList-from_range 0 2048 2048 (cc) (omega arith)) (λ x b q k. search (rules, tests)) in
    ap (λ (n : ℕ). (c.args.first + n) % 2048)
    (c.unwrap_or.ensures ∙ ap (λ (o : Option ℕ). unwrap_or o 2048) free ∙ place_found is_free (range_with_len 0 2048)
    ∙ run_places c.args.index.now c.args.first c.requires.0 c.requires.1)
