use Rattle.class_names.proofs.MarkLaws.{MarkedTo}
use Rattle.class_names.proofs.marks.mark_parents.Given as goal

abbrev pub invariant-loop-row : goal.invariant-loop-row
invariant-loop-row l = MarkedTo l.sheet l.results l.subclassed l.row
