-- `name_index::enter_listed` meets its contract. Invariant: the index is that of the fixed and the first `k` listed names, and no
-- two of them are the same. Assumes nothing.
use Rattle.std.proofs.Common.{◌≡◌, ◌++◌, true, length, take}
use Rattle.definition.specs.Names.{fixed, listed, same_name}
use Rattle.definition.specs.Basics.{unlike}
use Rattle.name_index.specs.Index.{index_of}
use Rattle.name_index.proofs.enter_listed.Given as goal

abbrev pub invariant-loop-k : goal.invariant-loop-k
invariant-loop-k l =
    (length l.index ≡ 2048) × (l.index ≡ index_of (fixed ++ take l.k (listed l.listed.names.now)))
    × (unlike same_name (fixed ++ take l.k (listed l.listed.names.now)) ≡ true)
