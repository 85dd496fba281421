use Rattle.std.proofs.Common.{sym}
use Rattle.outside.specs.Words.{over}
use Rattle.resolve_syms.proofs.StartLaws.{units_walked}
use Rattle.resolve_syms.proofs.resolve_units.Goals as goal

-- a lent buffer holds in the end what the walk left in it, since it is the one that the walk was lent
pub returns : goal.returns
returns c =
    let same = c.resolve_parts-done.ensures.same in
    rw (c.entries-2-1.given.1.1 (sym same.entries), c.results-1.given.1.1 (sym same.results), c.nodes-1.given.1.1 (sym same.nodes))
    (units_walked (over c.args.outside.now) c.args.sheet.now c.args.classes.now c.args.entries.now c.args.results.now c.args.nodes.now _ _ c.requires c.open_names-env.ensures
    c.resolve_parts-done.ensures.step)
