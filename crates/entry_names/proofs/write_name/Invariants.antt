-- `write_name` meets its contract. Invariant: the first i bytes are written. Assumes nothing.
use Rattle.std.proofs.Common.{◌≡◌, ◌+◌, [], ◌∷◌, ◌++◌, length, drop}
use Rattle.std.proofs.lemmas.List.Edits.{sets}
use Rattle.session.specs.Words.{ended}
use Rattle.entry_names.proofs.write_name.Given as goal

abbrev pub invariant-loop-i : goal.invariant-loop-i
invariant-loop-i l =
    (length l.bytes ≡ length l.initial.bytes) × (sets l.bytes (l.at + l.i) (drop l.i l.name ++ 10 ∷ []) ≡ sets l.initial.bytes l.at (ended l.name))
