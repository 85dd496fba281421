-- `copy_fields` meets its contract. Invariant: with the fields that are left the words are what they are to be. Assumes nothing.
use mathlib.Core.List.{map}
use mathlib.Core.Path.{◌≡◌}
use Prim.Native.Nat.{◌+◌, ◌-◌, ◌≤◌}
use lib.Seq.{sets}
use lib.ListN.{length, get_or}
use Rattle.definition.specs.Basics.{from}
use Rattle.session.specs.Words.{whole, member_place}
use Rattle.session_outside.proofs.members.copy_fields.Given as goal

abbrev pub invariant-loop-i : goal.invariant-loop-i
invariant-loop-i l =
    (l.i ≤ l.count) × (length l.out ≡ length l.initial.out)
    × (sets l.out (l.at + l.i) (map (λ j. get_or l.session (member_place whole j) 0) (from (l.first + l.i) (l.count - l.i)))
    ≡ sets l.initial.out l.at (map (λ j. get_or l.session (member_place whole j) 0) (from l.first l.count)))
