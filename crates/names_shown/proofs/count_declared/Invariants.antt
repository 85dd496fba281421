-- `count_declared` meets its contract. Invariant: what is counted, the declarations that are left and the core names are what all give. Assumes nothing.
use mathlib.Core.Path.{◌≡◌}
use Prim.Native.Nat.{◌+◌, ◌≤◌}
use lib.ListN.{length, get_or}
use Rattle.session_outside.specs.Written.{firsts, names_below}
use Rattle.names_shown.proofs.count_declared.Given as goal

abbrev pub invariant-loop-i : goal.invariant-loop-i
invariant-loop-i l =
    (l.i ≤ get_or l.runs.words.now 5 0) × (l.count + l.i ≤ get_or l.runs.words.now 5 0) × (length l.marks ≡ length l.initial.marks)
    × (l.count + length (firsts l.marks (names_below l.runs.words.now l.i)) ≡ length (firsts l.initial.marks (names_below l.runs.words.now (get_or l.runs.words.now 5 0))))
