use mathlib.Core.List.{[]}
use mathlib.Core.Path.{◌≡◌}
use Prim.Native.Nat.{◌+◌, ◌*◌, ◌-◌, ◌<◌, ◌≤◌}
use Rattle.definition.specs.Basics.{all, from}
use Rattle.session.specs.Words.{whole, part_of, members_before}
use Rattle.session_check.specs.Clauses.{class_right, Under}
use Rattle.session_check.proofs.entry.Entry.classes_fit.Given as goal

abbrev pub invariant-loop-i : goal.invariant-loop-i
invariant-loop-i l =
    (l.i ≤ l.end) × Under l.marks (2 * l.i + 1) × (l.member ≡ members_before whole l.self.words.now [] l.i) × (l.member < 4294967296 + 8589934592 * l.i)
    × (all (class_right l.self.words.now l.self.number) (from l.i (l.end - l.i)) ≡ all (class_right l.self.words.now l.self.number) (part_of whole l.self.words.now [] l.self.number 3))
