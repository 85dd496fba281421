-- Rows copied from rows written before.
use mathlib.Core.Path.{◌≡◌, sym, ap, ◌∙◌}
use mathlib.Core.List.{List}
use Prim.Native.Nat.{ℕ, suc, ◌+◌, ◌-◌, ◌*◌, ◌/◌, ◌<◌, ◌≤◌}
use native.Mathlib.Omega.{arith}
use lib.ListN.{length, get_or}
use Rattle.definition.specs.Basics.{from}
use Rattle.definition.specs.Sheet.{Sheet}
use Rattle.definition.specs.Outside.{Outside}
use Rattle.sink.specs.Sink.{sink}
use Rattle.name_rows.specs.Put.{Filled, put, put_all, copied_row}
use Rattle.name_rows.specs.declared.put.Wanted.{Wanted}
use Rattle.name_rows.proofs.KeptLaws.{Kept, emit_kept, kept_then}
use Rattle.name_rows.proofs.PutLaws.{put_none}

-- The rows of a range, copied one after another.
module _ (O : Outside) (s : Sheet) (w : Wanted) where
  copied_same : (u v : List ℕ) (i k : ℕ) → get_or u (8 * i + 2) 0 ≡ get_or v (8 * i + 2) 0 → get_or u (8 * i + 3) 0 ≡ get_or v (8 * i + 3) 0 → copied_row O s w u i k ≡ copied_row O s w v i k
  unfolding copied_row
  copied_same u v i k e f = rw (e, f)

  module _ (v : List ℕ) (i n : ℕ) (k : Filled) where
    pub copied_end : n ≤ 0 → k ≡ put_all (copied_row O s w v) (from i n) k
    copied_end l = let e : n ≡ 0 = omega arith in put_none (copied_row O s w v) k ∙ ap (λ (m : ℕ). put_all (copied_row O s w v) (from i m) k) (sym e)

    -- one row more: m bounds the rows to copy, and x is what is written then
    module _ (l : 0 < n) {j m : ℕ} (b : i + n ≤ m) (h : Kept m (sink j v) k.done) {x : Filled} (e : x ≡ put (copied_row O s w k.done.words) i k) where
      pub copied_kept : m ≤ length v / 8 → Kept m (sink j v) x.done
      unfolding put
      copied_kept g =
          let f = emit_kept m (copied_row O s w k.done.words i k.slot) k.done h.below (omega (arith, h.lengths)) in
          rw e (kept_then h f)

      pub copied_next : put_all (copied_row O s w v) (from (i + 1) (n - 1)) x ≡ put_all (copied_row O s w v) (from i n) k
      unfolding put_all put
      copied_next =
          let c : i + 1 ≡ suc i = omega arith in
          let d : n ≡ suc (n - 1) = omega arith in
          let g : copied_row O s w k.done.words i k.slot ≡ copied_row O s w v i k.slot =
          copied_same k.done.words v i k.slot (h.same (8 * i + 2) (omega arith))
          (h.same (8 * i + 3) (omega arith)) in
          ap (λ (a : ℕ). put_all (copied_row O s w v) (from a (n - 1)) x) c
          ∙ ap (put_all (copied_row O s w v) (from (suc i) (n - 1))) (e ∙ rw g)
          ∙ sym (ap (λ (a : ℕ). put_all (copied_row O s w v) (from i a) k) d)
