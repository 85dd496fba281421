use mathlib.Core.List.{List}
use mathlib.Core.Path.{◌≡◌}
use Prim.Native.Nat.{ℕ, ◌-◌, ◌≤◌}
use lib.ListN.{length}
use Rattle.import_circle.proofs.SearchLaws.{Searching}
use Rattle.import_circle.specs.Search.{Holds}
use Rattle.import_circle.proofs.comes_back.Given as goal

abbrev pub invariant-loop-passed : goal.invariant-loop-passed
invariant-loop-passed l =
    ((found : List ℕ) × Holds l.marks l.queue l.count found × Searching l.sheet l.u l.passed found × (l.passed ≤ l.count))
    × (length l.marks ≡ length l.initial.marks) × (length l.queue ≡ length l.initial.queue)

abbrev pub decreases-loop-passed : goal.decreases-loop-passed
decreases-loop-passed l = length l.initial.marks - l.passed
