use Rattle.lay_over.proofs.LaidLaws.{Laying}
use Rattle.lay_over.proofs.append_laid.Given as goal

abbrev pub invariant-loop-i : goal.invariant-loop-i
invariant-loop-i l = Laying l.initial.words l.place l.left.sheet.now l.left.entries.now l.first l.end l.left.base l.words l.i l.p
