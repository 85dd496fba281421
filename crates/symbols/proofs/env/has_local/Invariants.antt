use Rattle.machine.specs.Machine.{taken_in}
use Prim.Native.Nat.{◌≤◌}
use mathlib.Core.Path.{◌≡◌}
use Rattle.symbols.proofs.env.has_local.Given as goal

abbrev pub invariant-loop-i : goal.invariant-loop-i
invariant-loop-i l = (l.i ≤ l.n) × (taken_in l.entries l.m l.i ≡ taken_in l.entries l.m l.n)
