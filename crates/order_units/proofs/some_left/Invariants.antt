use Prim.Native.Nat.{◌≤◌}
use Rattle.definition.specs.Sheet.{rows as rows_of}
use Rattle.order_units.proofs.AskedLaws.{AllMarked}
use Rattle.order_units.proofs.some_left.Given as goal

abbrev pub invariant-loop-u : goal.invariant-loop-u
invariant-loop-u l = (l.u ≤ rows_of l.sheet) × AllMarked l.sheet l.marks l.u
