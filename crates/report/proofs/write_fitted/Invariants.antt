-- `write_fitted` meets its contract. The loop's invariant: the words passed are written. Assumes nothing.
use mathlib.Core.Path.{◌≡◌}
use mathlib.Core.List.{◌++◌}
use Prim.Native.Nat.{◌≤◌}
use lib.ListN.{length, take, drop}
use Rattle.report.specs.Report.{fitted}
use Rattle.report.proofs.write_fitted.Given as goal

abbrev pub invariant-loop-i : goal.invariant-loop-i
invariant-loop-i l = (l.i ≤ length l.initial.lent) × (length l.lent ≡ length l.initial.lent) × (l.lent ≡ take l.i (fitted (length l.initial.lent) l.words) ++ drop l.i l.initial.lent)
