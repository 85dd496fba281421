use Rattle.std.proofs.Common.{inl, arith, ap, length}
use Rattle.sheet.proofs.ChildLists.{kids_of_short}
use Rattle.sheet.proofs.arity.Goals as goal

pub count-requires-clause-fits : goal.count-requires-clause-fits
count-requires-clause-fits c = inl (omega (arith, kids_of_short c.args.sheet.now 11 c.args.f.0, ap length c.kids_of.ensures))
