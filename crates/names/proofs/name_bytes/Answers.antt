-- `names::name_bytes` meets its contract. Assumes nothing.
use Rattle.std.proofs.Common.{◌∙◌, ap, [], ℕ, get_or, refl}
use Rattle.std.specs.Borrow.{Bor}
use Rattle.std.proofs.lemmas.Iterator.Consumers.{YieldsList-from_first, nth_from_yields_List}
use Rattle.definition.specs.Names.{Name, listed}
use Rattle.names.proofs.Laws.{name_of_lem, nth_named}
use Rattle.names.proofs.name_bytes.Goals as goal

pub returns : goal.returns
returns c =
    let found = nth_from_yields_List c.nth.result c.nth.new.self c.in-Some.place c.nth.ensures.ran
    (YieldsList-from_first (λ n. n.now) (λ left. listed left.0.now) (listed c.args.names.now) cc) in
    let given = c.in-Some.ensures in
    ap (λ (n : Bor Name). n.now) c.unwrap_or.ensures
    ∙ nth_named c.nth.result _ (listed c.args.names.now) c.in-Some.place found refl
    ∙ ap (λ (k : ℕ). get_or (listed c.args.names.now) k []) given.1 ∙ name_of_lem c.args.names.now c.args.number given.0
