-- Children and holders in a sheet that fits; the rows that the walk reaches, each at its depth.
use mathlib.Core.Path.{◌≡◌, refl, sym, ap, ◌∙◌, subst}
use mathlib.Core.Logic.{◌⊎◌, inl, inr}
use mathlib.Core.List.Memᴰ
use mathlib.Core.List.Memᴰ.{head as here}
use mathlib.Core.List.Memᴰ.{tail as there}
use mathlib.Core.List.{Memᴰ as Mem}
use mathlib.Core.Bool.{Bool, true, false, not, ◌||◌, ◌&&◌}
use Prim.Native.Nat.{ℕ, zero, suc, ◌<◌, ◌≤◌}
use native.Mathlib.Omega.{arith}
use lib.Dec.{eqb, leb, T, T_not, not_T, eqb→eq, leb→le}
use Rattle.definition.specs.Basics.{when◌then◌else◌, first, from}
use Rattle.definition.specs.Sheet.{Sheet, kind, next, child, a, rows, chain, kids, is, holder, lies_in}
use Rattle.definition.specs.Outside.{Outside}
use Rattle.definition.specs.Walk.{parts, is_part}
use Rattle.definition.proofs.Lists.Tests.{and_both, and_left, and_right, or_cases, eqb_of, if_true, if_false, kind_apart}
use Rattle.definition.proofs.Lists.Members.{Nodup, nodup_none, nodup_one, nodup_filter, filter_mem, first_found, mem_test, from_mem, mem_from}
use Rattle.definition.proofs.Format.Links.{higher, chain_bounds, kid_bounds, holder_of}
use Rattle.definition.proofs.Walk.Fits.{Fits}

-- a chain holds no row 0, and from row 0 nothing
pub chain_nonzero : (n : ℕ) (s : Sheet) (x k : ℕ) → Mem k (chain n s x) → k ≡ 0 → ⊥
chain_nonzero zero s x k m e = Memᴰ.not-nil m
chain_nonzero (suc n) s zero k m e = Memᴰ.not-nil m
chain_nonzero (suc n) s (suc x) k (here q) e = omega arith
chain_nonzero (suc n) s (suc x) k (there m) e = chain_nonzero n s (next s (suc x)) k m e

chain_start : (n : ℕ) (s : Sheet) (x k : ℕ) → Mem k (chain n s x) → x ≡ 0 → ⊥
chain_start zero s x k m e = Memᴰ.not-nil m
chain_start (suc n) s zero k m e = Memᴰ.not-nil m
chain_start (suc n) s (suc x) k m e = omega arith

module _ {O : Outside} {s : Sheet} (ok : Fits O s) where
  pub kids_row : (p k : ℕ) → p < rows s → Mem k (kids s p) → k < rows s
  kids_row p k l m = (kid_bounds s ok.links p k l (mem_test k (kids s p) m)).1

  chain_nodup : (n x : ℕ) → ((x ≡ 0 → ⊥) → x < rows s) → Nodup (chain n s x)
  chain_nodup zero x r = nodup_none
  chain_nodup (suc n) zero r = nodup_none
  chain_nodup (suc n) (suc x) r =
      let l : suc x < rows s = r (λ (q : suc x ≡ 0). omega arith) in
      let up : (next s (suc x) ≡ 0 → ⊥) → (suc x < next s (suc x)) × (next s (suc x) < rows s) = higher s (suc x) (next s (suc x)) (ok.links.nexts (suc x) l) in
      nodup_one (λ m. let h = up (chain_start n s (next s (suc x)) (suc x) m) in
      omega (arith, h.0, (chain_bounds s ok.links.nexts n (next s (suc x)) (suc x) h.1 (mem_test (suc x) (chain n s (next s (suc x))) m)).1))
      (chain_nodup n (next s (suc x)) (λ z. (up z).1))

  pub kids_nodup : (p : ℕ) → p < rows s → Nodup (kids s p)
  kids_nodup p l = chain_nodup (rows s) (child s p) (λ z. (higher s p (child s p) (ok.links.children p l) z).1)

  -- the holder is the one row that has a row as a child
  pub holder_is : (p k : ℕ) → p < rows s → Mem k (kids s p) → holder s k ≡ p
  holder_is p k l m = holder_of s ok.links k p l (mem_test k (kids s p) m)

  pub lies_in_holder : (p k : ℕ) → p < rows s → Mem k (kids s p) → T (not (is s 4 p)) → lies_in s k ≡ p
  lies_in_holder p k l m n =
      let e : holder s k ≡ p = holder_is p k l m in
      if_false (is s 4 (holder s k)) _ (holder s k) (subst (λ (q : ℕ). T (not (is s 4 q))) (sym e) n) ∙ e

  pub lies_in_declaration : (r k : ℕ) → r < rows s → T (is s 30 r) → Mem k (kids s (a s r)) → lies_in s k ≡ r
  lies_in_declaration r k l d m =
      let c = ok.class_named r l d in
      let e : holder s k ≡ a s r = holder_is (a s r) k c.0 m in
      let f = first_found (λ p. is s 30 p && eqb (a s p) (holder s k)) 0 r (from 0 (rows s))
      (and_both (is s 30 r) (eqb (a s r) (holder s k)) d (eqb_of (a s r) (holder s k) (sym e))) (mem_from r 0 (rows s) (omega arith) (omega arith)) in
      let x : ℕ = first (λ p. is s 30 p && eqb (a s p) (holder s k)) 0 (from 0 (rows s)) in
      let h : x < rows s = omega (arith, from_mem x 0 (rows s) f.1) in
      let q : a s x ≡ a s r = eqb→eq (a s x) (holder s k) (and_right (is s 30 x) (eqb (a s x) (holder s k)) f.0) ∙ e in
      if_true (is s 4 (holder s k)) x (holder s k) (subst (λ (q : ℕ). T (is s 4 q)) (sym e) c.1)
      ∙ ok.class_once x r h l (and_left (is s 30 x) (eqb (a s x) (holder s k)) f.0) d q

  pub is_not_zero : (j : ℕ) → T (not (eqb 0 j)) → T (is s j 0) → ⊥
  is_not_zero j n h = T_not (eqb 0 j) n (subst (λ (k : ℕ). T (eqb k j)) ok.header h)

  pub kind_not_zero : (j x : ℕ) → T (not (eqb 0 j)) → T (is s j x) → x ≡ 0 → ⊥
  kind_not_zero j x n h e = is_not_zero j n (subst (λ (y : ℕ). T (is s j y)) e h)

-- row r lies n deep: n rows lie around it
pub data Deep (s : Sheet) : ℕ → ℕ → Type 0 where
  root : Deep s 0 0
  below : {n r p : ℕ} → (r ≡ 0 → ⊥) → lies_in s r ≡ p → Deep s n p → Deep s (suc n) r

pub deep_same : {s : Sheet} {n m r : ℕ} → Deep s n r → Deep s m r → n ≡ m
deep_same root root = refl
deep_same root (below z e d) = absurd (z refl)
deep_same (below z e d) root = absurd (z refl)
deep_same {s} (below z e d) (below {n = m} y f c) = ap suc (deep_same d (subst (λ (p : ℕ). Deep s m p) (sym f ∙ e) c))

-- is a row walked as a part?
-- A row that the walk reaches.
pub record Reached (s : Sheet) (n r : ℕ) : Type 0 where
  pub deep : Deep s n r
  pub in_range : r < rows s
  pub walkable : (r ≡ 0) ⊎ T (is_part s r)

module _ {O : Outside} {s : Sheet} (ok : Fits O s) where
  pub reached_root : Reached s 0 0
  reached_root = record { deep = root; in_range = ok.some_row; walkable = inl refl }

  part_not_class : (r : ℕ) → T (is_part s r) → T (not (is s 4 r))
  part_not_class r h = not_T (is s 4 r) (λ c. go c (or_cases (is s 2 r || is s 6 r) (leb 20 (kind s r)) h))
    where
      go : T (is s 4 r) → T (is s 2 r || is s 6 r) ⊎ T (leb 20 (kind s r)) → ⊥
      go c (inl k) = both (or_cases (is s 2 r) (is s 6 r) k)
        where
          both : T (is s 2 r) ⊎ T (is s 6 r) → ⊥
          both (inl q) = kind_apart (kind s r) 4 2 tt c q
          both (inr q) = kind_apart (kind s r) 4 6 tt c q
      go c (inr k) =
          let e : kind s r ≡ 4 = eqb→eq (kind s r) 4 c in
          let l : 20 ≤ kind s r = leb→le 20 (kind s r) k in
          omega arith

  pub reached_not_class : {n r : ℕ} → Reached s n r → T (not (is s 4 r))
  reached_not_class {n} {r} w = go w.walkable
    where
      go : (r ≡ 0) ⊎ T (is_part s r) → T (not (is s 4 r))
      go (inl e) = subst (λ (q : ℕ). T (not (is s 4 q))) (sym e) (not_T (is s 4 0) (is_not_zero ok 4 tt))
      go (inr h) = part_not_class r h

  -- a child of a reached row lies in it
  pub lies_in_reached : {n r : ℕ} (k : ℕ) → Reached s n r → Mem k (kids s r) → lies_in s k ≡ r
  lies_in_reached {n} {r} k w m = lies_in_holder ok r k w.in_range m (reached_not_class w)

  -- a part of a reached row lies in it
  pub part_lies : {n r : ℕ} (k : ℕ) → Reached s n r → Mem k (parts s r) → (lies_in s k ≡ r) × (k < rows s) × (k ≡ 0 → ⊥) × T (is_part s k)
  part_lies {n} {r} k w m = go (is s 30 r) (λ h. h) (filter_mem (is_part s) k (kids s (when is s 30 r then a s r else r)) m)
    where
      go : (t : Bool) → (T t → T (is s 30 r)) → Mem k (kids s (when t then a s r else r)) × T (is_part s k) → (lies_in s k ≡ r) × (k < rows s) × (k ≡ 0 → ⊥) × T (is_part s k)
      go true h q =
          let c = ok.class_named r w.in_range (h tt) in
          (lies_in_declaration ok r k w.in_range (h tt) q.0, kids_row ok (a s r) k c.0 q.0, chain_nonzero (rows s) s (child s (a s r)) k q.0, q.1)
      go false h q = (lies_in_reached k w q.0, kids_row ok r k w.in_range q.0, chain_nonzero (rows s) s (child s r) k q.0, q.1)

  pub reached_part : {n r : ℕ} (k : ℕ) → Reached s n r → Mem k (parts s r) → Reached s (suc n) k
  reached_part k w m =
      let q = part_lies k w m in
      record { deep = below q.2 q.0 w.deep; in_range = q.1; walkable = inr q.3 }

  pub parts_nodup : {n r : ℕ} → Reached s n r → Nodup (parts s r)
  parts_nodup {n} {r} w = nodup_filter (is_part s) (go (is s 30 r) (λ h. h))
    where
      go : (t : Bool) → (T t → T (is s 30 r)) → Nodup (kids s (when t then a s r else r))
      go true h = kids_nodup ok (a s r) (ok.class_named r w.in_range (h tt)).0
      go false h = kids_nodup ok r w.in_range
