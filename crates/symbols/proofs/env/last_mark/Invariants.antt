use Rattle.machine.specs.Machine.{last_mark}
use Prim.Native.Nat.{◌≤◌}
use mathlib.Core.Path.{◌≡◌}
use Rattle.symbols.proofs.env.last_mark.Given as goal

abbrev pub invariant-loop-i : goal.invariant-loop-i
invariant-loop-i l = (l.i ≤ l.n) × (last_mark l.entries l.i ≡ last_mark l.entries l.n)
