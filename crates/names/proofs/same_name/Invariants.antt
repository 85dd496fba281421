-- `names::same_name` meets its contract. Invariant: the names are the same if their bytes before `i` are. Assumes nothing.
use mathlib.Core.Path.{◌≡◌}
use Prim.Native.Nat.{◌≤◌}
use lib.ListN.{length, take}
use Rattle.definition.specs.Names.{same_name}
use Rattle.names.proofs.same_name.Given as goal

abbrev pub invariant-loop-i : goal.invariant-loop-i
invariant-loop-i l = (l.i ≤ length l.a) × (length l.a ≡ length l.b) × (same_name (take l.i l.a) (take l.i l.b) ≡ same_name l.a l.b)
