-- `lay_core` meets its contract. Invariant: laying the core names that are left gives what laying all gives. Assumes nothing.
use mathlib.Core.Path.{◌≡◌}
use Prim.Native.Nat.{◌+◌, ◌≤◌}
use lib.ListN.{length, drop}
use Rattle.definition.specs.Outside.{core}
use Rattle.session_outside.specs.Written.{name_rows}
use Rattle.session_outside.proofs.visible.lay_core.Given as goal

abbrev pub invariant-loop-i : goal.invariant-loop-i
invariant-loop-i l =
    (l.i ≤ 9) × (l.row ≤ l.first + l.i) × (length l.marks ≡ length l.initial.marks) × (length l.out ≡ length l.initial.out)
    × (name_rows l.row l.marks l.out (drop l.i core.names) ≡ name_rows l.first l.initial.marks l.initial.out core.names)
