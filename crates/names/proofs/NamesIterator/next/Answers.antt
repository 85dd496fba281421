-- `next` of the names of a list meets its contract: the first name, and the names after it. Assumes nothing.
use Rattle.std.proofs.Common.{arith, ap, length, ◌<◌}
use Rattle.std.proofs.lemmas.Grind.{common_steps}
use Rattle.names.proofs.Laws.{first_next, first_size_lem}
use Rattle.names.proofs.NamesIterator.next.Goals as goal

pub slice_bounds-result-end : goal.slice_bounds-result-end
slice_bounds-result-end c = grind (arith, common_steps, first_size_lem c.args.self.now.0.now)

pub returns-clause-steps : goal.returns-clause-steps
returns-clause-steps c =
    let some : 0 < length c.args.self.now.0.now = grind (arith, common_steps) in
    first_next c.args.self.now.0.now _ _ c.first_end-end.ensures (omega arith) some

pub returns-clause-goes : goal.returns-clause-goes
returns-clause-goes c =
    let some : 0 < length c.args.self.now.0.now = grind (arith, common_steps) in
    let e = ap length (first_next c.args.self.now.0.now c.first_end-end.result c.min.result c.first_end-end.ensures (omega arith) some) in
    grind (arith, common_steps, e)
