use Rattle.lay_over.proofs.LaidLaws.{Counting}
use Rattle.lay_over.proofs.count_laid.Given as goal

abbrev pub invariant-loop-i : goal.invariant-loop-i
invariant-loop-i l = Counting l.entries l.first l.end l.i l.count
