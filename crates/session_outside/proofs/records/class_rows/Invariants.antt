-- `class_rows` meets its contract. Invariant: with the rows of the records that are left the words are what they are to be, and the place is that of the next record's members. Assumes nothing.
use mathlib.Core.List.{[]}
use mathlib.Core.Path.{◌≡◌}
use Prim.Native.Nat.{◌+◌, ◌*◌, ◌≤◌}
use lib.Seq.{sets}
use lib.ListN.{length, get_or}
use Rattle.session.specs.Words.{whole, members_before}
use Rattle.session_outside.specs.Written.{record_rows, records_from}
use Rattle.session_outside.proofs.records.class_rows.Given as goal

abbrev pub invariant-loop-i : goal.invariant-loop-i
invariant-loop-i l =
    (l.i ≤ get_or l.runs.words.now 6 0) × (l.place ≤ l.start + 3 * members_before whole l.runs.words.now [] l.i) × (length l.out ≡ length l.initial.out)
    × (sets l.out (8 * (l.first + l.i)) (record_rows l.place (records_from l.runs.words.now l.i)) ≡ sets l.initial.out (8 * l.first) (record_rows l.start (records_from l.runs.words.now 0)))
