use Rattle.std.proofs.Common.{◌≡◌, ◌+◌, ◌-◌, ◌*◌}
use Rattle.definition.specs.Classes.{method_of}
use Rattle.outside.specs.Words.{methods_at}
use Rattle.outside.proofs.records.recorded_method.Given as goal

abbrev pub invariant-loop-i : goal.invariant-loop-i
invariant-loop-i l = method_of l.n (methods_at l.outside (l.at + 3 * l.i) (l.count - l.i)) ≡ method_of l.n (methods_at l.outside l.at l.count)
