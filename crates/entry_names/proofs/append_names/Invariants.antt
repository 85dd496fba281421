-- `append_names` meets its contract. Invariant: of the names before those that are left the new ones are written; the rest follow from `to` on. Assumes nothing.
use Rattle.std.proofs.Common.{◌≡◌, ◌+◌, ◌≤◌, length}
use Rattle.std.proofs.lemmas.List.Edits.{sets}
use Rattle.definition.specs.Basics.{total}
use Rattle.definition.specs.Names.{listed}
use Rattle.entry_names.specs.Told.{new_bytes}
use Rattle.entry_names.proofs.append_names.Given as goal

abbrev pub invariant-loop-name : goal.invariant-loop-name
invariant-loop-name l = record {
  can : (goal.iterator-loop-name).can_next l.name-iterator;
  finite : (goal.iterator-loop-name).is_finite l.name-iterator;
  counted : l.k + length (listed l.name-iterator.0.now) ≡ length (listed l.names);
  within : l.to + total (λ n. length n + 1) (listed l.name-iterator.0.now) ≤ l.at + length l.names + 1;
  size : length l.bytes ≡ length l.initial.bytes;
  written : sets l.bytes l.to (new_bytes l.first l.numbers l.k (listed l.name-iterator.0.now)) ≡ sets l.initial.bytes l.at (new_bytes l.first l.numbers 0 (listed l.names));
}
