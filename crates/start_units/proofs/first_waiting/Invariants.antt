use Rattle.sheet.specs.Rest.{rows_left}
use Rattle.start_units.proofs.ReadyLaws.{Standing}
use Rattle.start_units.proofs.first_waiting.Given as goal

abbrev pub invariant-loop-k : goal.invariant-loop-k
invariant-loop-k l = Standing l.sheet l.marks l.from (rows_left l.k-iterator)
