use mathlib.Core.Path.{◌≡◌}
use Prim.Native.Nat.{◌-◌, ◌≤◌}
use lib.ListN.{get_or}
use lib.Dec.{eqb}
use Rattle.definition.specs.Basics.{any, from}
use Rattle.session_rows.specs.Rows.{number_of}
use Rattle.session_check.proofs.entry.Entry.has_class.Given as goal

abbrev pub invariant-loop-low : goal.invariant-loop-low
invariant-loop-low l =
    (l.high ≤ get_or l.self.words.now 6 0)
    × (any (λ i. eqb (number_of l.self.words.now i) l.number) (from l.low (l.high - l.low)) ≡ any (λ i. eqb (number_of l.self.words.now i) l.number) (from l.first (l.end - l.first)))

abbrev pub decreases-loop-low : goal.decreases-loop-low
decreases-loop-low l = l.high - l.low
