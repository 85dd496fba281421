use Rattle.entry_classes.proofs.RunLaws.{Counting}
use Rattle.entry_classes.proofs.count_classes.Given as goal

abbrev pub invariant-loop-i : goal.invariant-loop-i
invariant-loop-i l = Counting l.out l.rows l.i l.classes l.members
