use Rattle.machine.specs.Machine.{loop_in}
use Prim.Native.Nat.{◌≤◌}
use mathlib.Core.Path.{◌≡◌}
use Rattle.symbols.proofs.env.in_loop.Given as goal

abbrev pub invariant-loop-i : goal.invariant-loop-i
invariant-loop-i l = (l.i ≤ l.n) × (loop_in l.sheet l.entries l.i ≡ loop_in l.sheet l.entries l.n)
