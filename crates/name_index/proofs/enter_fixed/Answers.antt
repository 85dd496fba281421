-- `name_index::enter_fixed` meets its contract. Invariant: the index is that of the first `k` fixed names. Assumes nothing.
use Rattle.std.proofs.Common.{sym, ap, ◌∙◌, arith, ℕ, length}
use Rattle.std.proofs.Math.ListN.{length-replicate}
use Rattle.name_index.proofs.IndexLaws.{index_none}
use Rattle.name_index.proofs.FixedLaws.{fixed_next}
use Rattle.name_index.proofs.enter_fixed.Goals as goal

pub loop-k-init : goal.loop-k-init
loop-k-init c = (ap length c.requires ∙ length-replicate {A = ℕ} 2048 0, c.requires ∙ sym index_none)

pub loop-k-preserved : goal.loop-k-preserved
loop-k-preserved c = (
  omega (arith, c.enter_number.auto.index, c.loop-k.invariant.0),
  c.enter_number.ensures ∙ fixed_next c.loop-k.k (omega arith) c.loop-k.invariant.1,
)
