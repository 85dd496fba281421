-- `name_index::enter_number` meets its contract. Assumes nothing.
use mathlib.Core.Path.{ap}
use Prim.Native.Nat.{ℕ}
use lib.ListN.{set}
use Rattle.name_index.proofs.enter_number.Goals as goal

pub returns : goal.returns
returns c = ap (λ (q : ℕ). set c.args.index.now q c.args.number) c.free_place-place.ensures
