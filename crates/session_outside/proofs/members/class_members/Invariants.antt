-- `class_members` meets its contract. Invariant: with the members that are left the words are what they are to be, and `member` members are passed. Assumes nothing.
use mathlib.Core.List.{[]}
use mathlib.Core.Path.{◌≡◌}
use Prim.Native.Nat.{◌+◌, ◌*◌, ◌≤◌}
use lib.Seq.{sets}
use lib.ListN.{length, get_or}
use Rattle.definition.specs.Basics.{concat_map}
use Rattle.session.specs.Words.{whole, members_before}
use Rattle.session_outside.specs.Written.{member_run, records_from}
use Rattle.session_outside.proofs.members.class_members.Given as goal

abbrev pub invariant-loop-i : goal.invariant-loop-i
invariant-loop-i l =
    (l.i ≤ get_or l.runs.words.now 6 0) × (l.member ≡ members_before whole l.runs.words.now [] l.i) × (l.at ≤ l.start + 3 * l.member) × (length l.out ≡ length l.initial.out)
    × (sets l.out l.at (concat_map member_run (records_from l.runs.words.now l.i)) ≡ sets l.initial.out l.start (concat_map member_run (records_from l.runs.words.now 0)))
