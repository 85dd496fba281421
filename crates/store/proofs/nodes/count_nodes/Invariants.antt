use mathlib.Core.Path.{◌≡◌}
use Prim.Native.Nat.{◌+◌, ◌≤◌}
use lib.ListN.{length}
use Rattle.machine.specs.Machine.{chain_to}
use Rattle.store.proofs.nodes.count_nodes.Given as goal

abbrev pub invariant-loop-i : goal.invariant-loop-i
invariant-loop-i l = (l.n + l.i ≤ l.p) × (l.n + length (chain_to l.nodes l.i) ≡ length (chain_to l.nodes l.p))

abbrev pub decreases-loop-i : goal.decreases-loop-i
decreases-loop-i l = l.i
