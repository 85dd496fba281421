use Rattle.std.proofs.Common.{◌∙◌, rules, tests}
use Rattle.std.proofs.lemmas.Iterator.Search.{any_from_yields_List}
use Rattle.std.proofs.lemmas.Iterator.Consumers.{YieldsList-from_first}
use Rattle.definition.specs.Sheet.{child}
use Rattle.machine.specs.Machine.{cell, chain_to}
use Rattle.machine.specs.Reads.{hands_on}
use Rattle.fun_rows.specs.Escaping.{literals_left}
use Rattle.fun_rows.proofs.EscapeLaws.{captured_any, captured_start}
use Rattle.fun_rows.proofs.escapes.hands_on.Goals as goal

pub returns : goal.returns
returns c =
    let s = c.args.tables.sheet.now in
    let t = c.args.tables.results.now in
    let q = c.args.tables.nodes.now in
    any_from_yields_List (λ l. hands_on s c.args.f.0 c.args.j (chain_to q (cell t (child s l) 6))) c.any.new.self _ _ c.any.ensures.ran
    (YieldsList-from_first (λ x. x) literals_left _ c.standing_in.ensures) (λ x b q k. search (rules, tests))
    ∙ captured_any s t q c.args.f.0 c.args.j _
    ∙ captured_start s t q c.args.f.0 c.args.j c.args.literals.first.now c.args.literals.after.now c.requires.0 c.requires.1
