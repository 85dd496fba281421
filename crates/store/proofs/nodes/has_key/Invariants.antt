use mathlib.Core.Path.{◌≡◌}
use Prim.Native.Nat.{◌≤◌}
use Rattle.machine.specs.Machine.{chain_to, has_key}
use Rattle.store.proofs.nodes.has_key.Given as goal

abbrev pub invariant-loop-i : goal.invariant-loop-i
invariant-loop-i l = (l.i ≤ l.p) × (has_key l.k (chain_to l.nodes l.i) ≡ has_key l.k (chain_to l.nodes l.p))

abbrev pub decreases-loop-i : goal.decreases-loop-i
decreases-loop-i l = l.i
