use native.Mathlib.Omega.{arith}
use Rattle.std.proofs.Common.{refl, sym}
use Rattle.entry_walk.proofs.StartLaws.{four_rows, entry_walked}
use Rattle.entry_walk.proofs.resolve_entry.Goals as goal

-- a lent buffer holds in the end what the walk left in it, since it is the one that the walk was lent
pub returns : goal.returns
returns c =
    let r = c.unit_rows-rows.ensures in
    let same = c.resolve_body-done.ensures.same in
    rw (c.entries-2-1.given.1.1 (sym same.entries), c.results-1.given.1.1 (sym same.results), c.nodes-1.given.1.1 (sym same.nodes))
    (entry_walked c.requires.0 c.requires.1 r.0 r.1 r.2 c.open_names-env.ensures refl
    c.resolve_body-done.ensures.step)

pub overflow_sub-sheet : goal.overflow_sub-sheet
overflow_sub-sheet c =
    let r = c.unit_rows-rows.ensures in
    omega (arith, four_rows c.requires.0 c.requires.1 r.0 r.1 r.2)
