use mathlib.Core.List.{[]}
use mathlib.Core.Path.{◌≡◌}
use Prim.Native.Nat.{◌+◌, ◌*◌, ◌-◌, ◌≤◌}
use Rattle.definition.specs.Basics.{all, from}
use Rattle.session.specs.Words.{whole, members_before}
use Rattle.session_rows.specs.Rows.{after}
use Rattle.session_check.specs.Clauses.{entry_right, entries_right, Under}
use Rattle.session_check.proofs.entries_marked.Given as goal

abbrev pub invariant-loop-number : goal.invariant-loop-number
invariant-loop-number l =
    (l.number ≤ l.entries) × Under l.marks (2 * after l.words l.number 3 + 1) × (members_before whole l.words [] (after l.words l.number 3) ≡ after l.words l.number 4)
    × (all (entry_right l.words) (from l.number (l.entries - l.number)) ≡ entries_right l.words)
