-- `names::find_starts` meets its contract. Invariant: the starts stored and those of the names that are left are all starts. Assumes nothing.
use Rattle.std.proofs.Common.{◌≡◌, ◌+◌, ◌≤◌, ◌++◌, length, take}
use Rattle.definition.specs.Basics.{total}
use Rattle.definition.specs.Names.{listed}
use Rattle.names.specs.Listed.{starts, starts_from}
use Rattle.names.proofs.find_starts.Given as goal

abbrev pub invariant-loop-name : goal.invariant-loop-name
invariant-loop-name l = record {
  can : (goal.iterator-loop-name).can_next l.name-iterator;
  finite : (goal.iterator-loop-name).is_finite l.name-iterator;
  size : length l.table ≡ length l.initial.table;
  within : l.at + total (λ n. length n + 1) (listed l.name-iterator.0.now) ≤ length l.names + 1;
  counted : l.count + length (listed l.name-iterator.0.now) ≡ length (listed l.names);
  stored : take l.count l.table ++ starts_from l.at (listed l.name-iterator.0.now) ≡ starts l.names;
}
