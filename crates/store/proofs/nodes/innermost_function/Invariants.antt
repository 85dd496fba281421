use mathlib.Core.Path.{◌≡◌}
use Prim.Native.Nat.{◌≤◌}
use Rattle.machine.specs.Machine.{function_marks}
use Rattle.store.proofs.nodes.innermost_function.Given as goal

abbrev pub invariant-loop-at : goal.invariant-loop-at
invariant-loop-at l = (l.at ≤ l.n) × (function_marks l.sheet l.entries l.n ≡ function_marks l.sheet l.entries l.at)
