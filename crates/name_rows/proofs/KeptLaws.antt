-- Words of the rows written before.
use mathlib.Core.Path.{◌≡◌, refl, ◌∙◌}
use mathlib.Core.Bool.{Bool, true, false}
use mathlib.Core.Logic.{inl}
use mathlib.Core.List.{List, [], ◌∷◌}
use Prim.Native.Nat.{ℕ, suc, ◌*◌, ◌/◌, ◌<◌, ◌≤◌}
use native.Mathlib.Omega.{arith}
use lib.Dec.{ltb}
use lib.ListN.{length, get_or}
use lib.Seq.{sets, length-sets}
use Rattle.definition.specs.Basics.{when◌then◌else◌}
use Rattle.machine.proofs.Words.{sets_out}
use Rattle.sink.specs.Sink.{Sink, sink, emit, emit_all}

-- The words of the rows below row m are in y what they are in x.
pub record Kept (m : ℕ) (x y : Sink) : Type 0 where
  pub below : m ≤ y.count
  pub lengths : length y.words ≡ length x.words
  pub same : (i : ℕ) → i < 8 * m → get_or y.words i 0 ≡ get_or x.words i 0

pub emit_kept : (m : ℕ) (ws : List ℕ) (x : Sink) → m ≤ x.count → m ≤ length x.words / 8 → Kept m x (emit ws x)
unfolding emit
emit_kept m ws x l b = go (ltb x.count (length x.words / 8))
  where
    go : (t : Bool) → Kept m x (when t then sink (suc x.count) (sets x.words (8 * x.count) ws) else sink (suc (length x.words / 8)) x.words)
    go true = record { below = omega arith; lengths = length-sets x.words (8 * x.count) ws; same = λ i h. sets_out ws x.words (8 * x.count) i (inl (omega arith)) }
    go false = record { below = omega arith; lengths = refl; same = λ i h. refl }

pub kept_then : {m : ℕ} {x y z : Sink} → Kept m x y → Kept m y z → Kept m x z
kept_then g h = record { below = h.below; lengths = h.lengths ∙ g.lengths; same = λ i e. h.same i e ∙ g.same i e }

pub all_kept : (m : ℕ) (rs : List (List ℕ)) (x : Sink) → m ≤ x.count → m ≤ length x.words / 8 → Kept m x (emit_all rs x)
unfolding emit_all
all_kept m [] x l b = record { below = l; lengths = refl; same = λ i h. refl }
all_kept m (r ∷ rs) x l b = kept_then (emit_kept m r x l b)
    (all_kept m rs (emit r x) (emit_kept m r x l b).below (omega (arith, (emit_kept m r x l b).lengths)))
