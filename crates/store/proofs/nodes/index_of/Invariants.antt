use mathlib.Core.Path.{◌≡◌}
use Prim.Native.Nat.{◌+◌, ◌≤◌}
use Rattle.machine.specs.Machine.{chain_back}
use Rattle.machine.proofs.CodeSteps.{since}
use Rattle.store.proofs.nodes.index_of.Given as goal

abbrev pub invariant-loop-i : goal.invariant-loop-i
invariant-loop-i l = (l.n + l.i ≤ l.p) × (since l.k (chain_back l.nodes l.i l.i) l.n ≡ since l.k (chain_back l.nodes l.p l.p) 0)

abbrev pub decreases-loop-i : goal.decreases-loop-i
decreases-loop-i l = l.i
