-- `name_index::enter_fixed` meets its contract. Invariant: the index is that of the first `k` fixed names. Assumes nothing.
use Rattle.std.proofs.Common.{◌≡◌, length, take}
use Rattle.definition.specs.Names.{fixed}
use Rattle.name_index.specs.Index.{index_of}
use Rattle.name_index.proofs.enter_fixed.Given as goal

abbrev pub invariant-loop-k : goal.invariant-loop-k
invariant-loop-k l = (length l.index ≡ 2048) × (l.index ≡ index_of (take l.k fixed))
