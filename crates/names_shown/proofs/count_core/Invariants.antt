-- `count_core` meets its contract. Invariant: what is counted and the core names that are left are what all give. Assumes nothing.
use mathlib.Core.Path.{◌≡◌}
use Prim.Native.Nat.{◌+◌, ◌-◌, ◌≤◌}
use lib.ListN.{length, drop}
use Rattle.definition.specs.Outside.{core}
use Rattle.session_outside.specs.Written.{firsts}
use Rattle.names_shown.proofs.count_core.Given as goal

abbrev pub invariant-loop-name : goal.invariant-loop-name
invariant-loop-name l =
    (1 ≤ l.name) × (l.name ≤ 10) × (l.count + 1 ≤ l.name) × (length l.marks ≡ length l.initial.marks)
    × (l.count + length (firsts l.marks (drop (l.name - 1) core.names)) ≡ length (firsts l.initial.marks core.names))
