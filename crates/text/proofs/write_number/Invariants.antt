-- `write_number` meets its contract. The loop's invariant: from place i on the column is that of the number, whose
-- digits before it are left. Assumes nothing.
use mathlib.Core.Path.{◌≡◌}
use Prim.Native.Nat.{◌-◌, ◌/◌, ◌^◌}
use lib.ListN.{drop}
use Rattle.definition.specs.Text.{in_ten}
use Rattle.text.proofs.write_number.Given as goal

abbrev pub invariant-loop-i : goal.invariant-loop-i
invariant-loop-i l = (l.left ≡ l.n / 10 ^ (10 - l.i)) × (drop l.i l.column ≡ drop l.i (in_ten l.n))
