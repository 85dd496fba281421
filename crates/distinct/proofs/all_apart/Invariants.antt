use Rattle.distinct.specs.Apart.{all_unmarked}
use lib.ListN.{length}
use Prim.Native.Nat.{◌≤◌, ◌-◌}
use mathlib.Core.Path.{◌≡◌}
use Rattle.distinct.proofs.all_apart.Given as goal

abbrev pub invariant-loop-row : goal.invariant-loop-row
invariant-loop-row l = (l.row ≤ l.n) × (length l.marks ≡ length l.initial.marks) × (all_unmarked l.sheet (l.n - l.row) l.row l.marks ≡ all_unmarked l.sheet l.n 0 l.initial.marks)
