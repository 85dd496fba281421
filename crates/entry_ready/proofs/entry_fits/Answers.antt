use Rattle.std.proofs.Common.{inl, arith, ap, length}
use Rattle.sheet.proofs.ChildLists.{kids_short}
use Rattle.entry_ready.proofs.entry_fits.Goals as goal

pub count-requires-clause-fits : goal.count-requires-clause-fits
count-requires-clause-fits c = inl (omega (arith, kids_short c.args.sheet.now 0, ap length c.kids.ensures))
