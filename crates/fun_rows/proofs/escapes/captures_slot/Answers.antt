use Rattle.std.proofs.Common.{◌∙◌, refl, rules, tests}
use Rattle.std.proofs.lemmas.Iterator.Search.{any_from_yields_List}
use Rattle.std.proofs.lemmas.Iterator.Consumers.{YieldsList-from_first}
use Rattle.machine.specs.Machine.{node_at}
use Rattle.store.specs.Back.{places_left}
use Rattle.store.proofs.BackLaws.{any_back}
use Rattle.fun_rows.proofs.EscapeLaws.{is_slot}
use Rattle.fun_rows.proofs.escapes.captures_slot.Goals as goal

pub returns : goal.returns
returns c =
    any_from_yields_List (λ i. is_slot c.args.sheet.now c.args.f.0 c.args.j (node_at c.args.nodes.now i)) c.any.new.self _ _ c.any.ensures.ran
    (YieldsList-from_first (λ x. x) places_left _ c.nodes_back.ensures) (λ x b q k. search (rules, tests))
    ∙ any_back c.args.nodes.now (is_slot c.args.sheet.now c.args.f.0 c.args.j) _ (λ i. refl) c.args.p
