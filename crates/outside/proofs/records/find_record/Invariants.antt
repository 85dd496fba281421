use Rattle.std.proofs.Common.{◌≡◌, ◌-◌}
use Rattle.outside.proofs.RecordLaws.{sought}
use Rattle.outside.proofs.records.find_record.Given as goal

abbrev pub invariant-loop-i : goal.invariant-loop-i
invariant-loop-i l = sought l.outside l.c.0 l.i (l.i-end - l.i) ≡ sought l.outside l.c.0 l.initial.i (l.i-end - l.initial.i)
