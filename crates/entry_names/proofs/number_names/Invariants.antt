-- `number_names` meets its contract. Invariant: the names before those that are left are numbered and counted. Assumes nothing.
use Rattle.std.proofs.Common.{◌≡◌, length}
use Rattle.definition.specs.Names.{listed}
use Rattle.names.specs.Listed.{numbered}
use Rattle.entry_names.proofs.NumberLaws.{Passed}
use Rattle.entry_names.proofs.number_names.Given as goal

abbrev pub invariant-loop-name : goal.invariant-loop-name
invariant-loop-name l = record {
  can : (goal.iterator-loop-name).can_next l.name-iterator;
  finite : (goal.iterator-loop-name).is_finite l.name-iterator;
  size : length l.numbers ≡ length l.initial.numbers;
  passed : Passed (numbered l.list.listed.names.now) l.names (listed l.name-iterator.0.now) l.numbers l.tally.count l.tally.new l.tally.bytes;
}
