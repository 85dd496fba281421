-- The rows in the order in which the walk comes to them: none twice.
use mathlib.Core.Path.{◌≡◌, refl, sym, ◌∙◌, subst}
use mathlib.Core.Logic.{◌⊎◌, inl, inr}
use mathlib.Core.List.Memᴰ
use mathlib.Core.List.Memᴰ.{head as here}
use mathlib.Core.List.Memᴰ.{tail as there}
use mathlib.Core.List.{List, ◌∷◌, Memᴰ as Mem}
use Prim.Native.Nat.{ℕ, zero, suc, ◌+◌, ◌<◌, ◌≤◌}
use native.Mathlib.Omega.{arith}
use lib.ListN.{length}
use Rattle.definition.specs.Basics.{concat_map}
use Rattle.definition.specs.Sheet.{Sheet, rows, lies_in}
use Rattle.definition.specs.Outside.{Outside}
use Rattle.definition.specs.Walk.{parts}
use Rattle.definition.specs.Bounds.{walked}
use Rattle.definition.proofs.Lists.Members.{Nodup, nodup_none, nodup_one, nodup_append, mem_concat_map, concat_map_mem, pigeonhole}
use Rattle.definition.proofs.Walk.Fits.{Fits}
use Rattle.definition.proofs.Walk.Rows.{deep_same, Reached, reached_root, part_lies, reached_part, parts_nodup}

-- row x lies j rows below row r
pub data Under (s : Sheet) (r : ℕ) : ℕ → ℕ → Type 0 where
  there_is : Under s r 0 r
  deeper : {j x p : ℕ} → lies_in s x ≡ p → Under s r j p → Under s r (suc j) x

under_up : {s : Sheet} {k j x r : ℕ} → Under s k j x → lies_in s k ≡ r → Under s r (suc j) x
under_up there_is e = deeper e there_is
under_up (deeper f u) e = deeper f (under_up u e)

under_same : {s : Sheet} {r q j x : ℕ} → Under s r j x → Under s q j x → r ≡ q
under_same there_is there_is = refl
under_same {s} {q = q} (deeper {j = j} e u) (deeper f v) = under_same u (subst (λ (p : ℕ). Under s q j p) (sym f ∙ e) v)

-- how a walked row stands below the row whose walk comes to it
pub record Found (s : Sheet) (d n r x : ℕ) : Type 0 where
  pub by : ℕ
  pub short : by < d
  pub reached : Reached s (by + n) x
  pub under : Under s r by x

module _ {O : Outside} {s : Sheet} (ok : Fits O s) where
  pub found : (d : ℕ) {n : ℕ} (r x : ℕ) → Reached s n r → Mem x (walked d s r) → Found s d n r x
  found zero r x w m = absurd (Memᴰ.not-nil m)
  found (suc d) {n} r x w (here e) =
      let i : n ≡ 0 + n = omega arith in
      record { by = 0; short = omega arith; reached = subst (λ (y : ℕ). Reached s y x) i (subst (λ (y : ℕ). Reached s n y) (sym e) w); under = subst (λ (y : ℕ). Under s r 0 y) (sym e) there_is }
  found (suc d) {n} r x w (there m) =
      let q = concat_map_mem (walked d s) x (parts s r) m in
      let f = found d q.0 x (reached_part ok q.0 w q.1) q.2 in
      let e : f.by + suc n ≡ suc f.by + n = omega arith in
      record {
        by = suc f.by;
        short = let h : f.by < d = f.short in omega arith;
        reached = subst (λ (i : ℕ). Reached s i x) e f.reached;
        under = under_up f.under (part_lies ok q.0 w q.1).0;
      }

  disjoint : (d : ℕ) {n : ℕ} (k j x : ℕ) → Reached s n k → Reached s n j → Mem x (walked d s k) → Mem x (walked d s j) → k ≡ j
  disjoint d {n} k j x w v m l =
      let f = found d k x w m in
      let g = found d j x v l in
      let e : f.by + n ≡ g.by + n = deep_same f.reached.deep g.reached.deep in
      let h : g.by ≡ f.by = omega arith in
      under_same f.under (subst (λ (i : ℕ). Under s j i x) h g.under)

  walked_parts : (d : ℕ) {n : ℕ} {ks : List ℕ} → Nodup ks → ((k : ℕ) → Mem k ks → Reached s n k) → ((k : ℕ) → Mem k ks → Nodup (walked d s k)) → Nodup (concat_map (walked d s) ks)
  walked_parts d nodup_none w f = nodup_none
  walked_parts d (nodup_one {x = k} {xs = ks} h n) w f =
      nodup_append (f k (here refl)) (walked_parts d n (λ j m. w j (there m)) (λ j m. f j (there m)))
      (λ x m l. let q = concat_map_mem (walked d s) x ks l in
      h (Memᴰ.cast (disjoint d k q.0 x (w k (here refl)) (w q.0 (there q.1)) m q.2) q.1))

  pub walked_nodup : (d : ℕ) {n : ℕ} (r : ℕ) → Reached s n r → Nodup (walked d s r)
  walked_nodup zero r w = nodup_none
  walked_nodup (suc d) {n} r w =
      nodup_one (λ m. let q = concat_map_mem (walked d s) r (parts s r) m in
      let f = found d q.0 r (reached_part ok q.0 w q.1) q.2 in
      let e : f.by + suc n ≡ n = deep_same f.reached.deep w.deep in
      omega arith)
      (walked_parts d (parts_nodup ok w) (λ k m. reached_part ok k w m) (λ k m. walked_nodup d k (reached_part ok k w m)))

  -- a walked row is the first, or a part of a walked row
  pub walked_up : (d : ℕ) (r x : ℕ) → Mem x (walked d s r) → (x ≡ r) ⊎ ((p : ℕ) × Mem p (walked d s r) × Mem x (parts s p))
  walked_up zero r x m = absurd (Memᴰ.not-nil m)
  walked_up (suc d) r x (here e) = inl e
  walked_up (suc d) r x (there m) = go (concat_map_mem (walked d s) x (parts s r) m) (λ k. walked_up d k x)
    where
      go : (k : ℕ) × Mem k (parts s r) × Mem x (walked d s k) → ((k : ℕ) → Mem x (walked d s k) → (x ≡ k) ⊎ ((p : ℕ) × Mem p (walked d s k) × Mem x (parts s p)))
          → (x ≡ r) ⊎ ((p : ℕ) × Mem p (r ∷ concat_map (walked d s) (parts s r)) × Mem x (parts s p))
      go q up = case (up q.0 q.2)
        where
          case : (x ≡ q.0) ⊎ ((p : ℕ) × Mem p (walked d s q.0) × Mem x (parts s p)) → (x ≡ r) ⊎ ((p : ℕ) × Mem p (r ∷ concat_map (walked d s) (parts s r)) × Mem x (parts s p))
          case (inl e) = inr (r, here refl, Memᴰ.cast e q.1)
          case (inr l) = inr (l.0, there (mem_concat_map (walked d s) q.0 l.0 (parts s r) q.1 l.1), l.2)

  pub walked_length : (d : ℕ) → length (walked d s 0) ≤ rows s
  walked_length d = pigeonhole (rows s) (walked_nodup d 0 (reached_root ok)) (λ x m. (found d 0 x (reached_root ok) m).reached.in_range)
