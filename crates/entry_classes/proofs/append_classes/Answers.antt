use native.Mathlib.Omega.{arith}
use Rattle.machine.proofs.Theorems.{rows_few}
use Rattle.walk.specs.Ended.{ended}
use Rattle.entry_classes.proofs.ToldLaws.{held_fit, all_written}
use Rattle.entry_classes.proofs.append_classes.Goals as goal

pub invariant_of-source : goal.invariant_of-source
invariant_of-source c = record { fit = λ j. omega (arith, c.type_inv.outside j); few = rows_few c.args.sheet.now c.requires.4.whole; low = c.requires.2 }

pub append_part-requires : goal.append_part-requires
append_part-requires c = (c.requires.1, c.requires.3, held_fit c.requires.4 c.args.base c.requires.5)

pub append_part-requires-2 : goal.append_part-requires-2
append_part-requires-2 c = (c.requires.0, c.requires.3, held_fit c.requires.4 c.args.base c.requires.5)

pub returns : goal.returns
returns c =
    λ walk entries nodes w z. all_written c.requires.4 c.args.base c.requires.5 (ended walk entries c.args.results.now nodes) w z
    c.args.words.now c.args.classes c.args.members
    (c.append_part.ensures walk.store nodes) (c.append_part-2.ensures walk.store nodes)
