-- `lay_declared` meets its contract. Invariant: laying the declarations that are left, and the core names, gives what laying all gives. Assumes nothing.
use mathlib.Core.Path.{◌≡◌}
use Prim.Native.Nat.{◌+◌, ◌≤◌}
use lib.ListN.{length, get_or}
use Rattle.session_outside.specs.Written.{name_rows, names_below}
use Rattle.session_outside.proofs.visible.lay_declared.Given as goal

abbrev pub invariant-loop-i : goal.invariant-loop-i
invariant-loop-i l =
    (l.i ≤ get_or l.runs.words.now 5 0) × (l.row + l.i ≤ get_or l.runs.words.now 5 0 + 1) × (length l.marks ≡ length l.initial.marks) × (length l.out ≡ length l.initial.out)
    × (name_rows l.row l.marks l.out (names_below l.runs.words.now l.i) ≡ name_rows 1 l.initial.marks l.initial.out (names_below l.runs.words.now (get_or l.runs.words.now 5 0)))
