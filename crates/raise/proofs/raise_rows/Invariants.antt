use Rattle.definition.specs.Answer.{raised_row}
use Rattle.raise.proofs.RowLaws.{Done}
use Rattle.raise.proofs.raise_rows.Given as goal

abbrev pub invariant-loop-r : goal.invariant-loop-r
invariant-loop-r l = Done (raised_row l.base) l.rows l.initial.out l.r l.out
