-- What the links of a sheet say where they rise and link each row once: a tree, and the tables over it.
use mathlib.Core.Path.{◌≡◌, refl, sym, ap, ◌∙◌, subst}
use mathlib.Core.Logic.{◌⊎◌, inl, inr}
use mathlib.Core.List.{List, [], ◌∷◌}
use mathlib.Core.Bool.{Bool, true, false, ◌&&◌}
use Prim.Native.Nat.{ℕ, zero, suc, ◌+◌, ◌*◌, ◌/◌, ◌<◌, ◌≤◌}
use native.Mathlib.Omega.{arith}
use lib.ListN.{length, get_or}
use lib.Dec.{eqb, T, eqb→eq}
use Rattle.definition.specs.Basics.{when◌then◌else◌, count, first, from, ◌∈?◌}
use Rattle.definition.specs.Sheet.{Sheet, next, child, rows, chain, kids, is, holder}
use Rattle.definition.specs.Format.{tables, at, parent_table, depth_entry, unit_entry, function_entry, class_entry, parent, unit, function, class, links}
use Rattle.definition.proofs.Lists.Tests.{T_true, eqb_of, ℕ-trichotomy}
use Rattle.definition.proofs.Lists.Counts.{first_below, in_head, in_tail, in_cases, count_two, count_place, pairs_length, pairs_first, pairs_second}
use Rattle.definition.proofs.Format.Tables.{table_at, table_from, map_below}

-- a link from row r: none, or to a higher row
abbrev pub Rises : Sheet → ℕ → ℕ → Type 0
Rises s r l = (l ≡ 0) ⊎ ((r < l) × (l < rows s))

pub higher : (s : Sheet) (r l : ℕ) → Rises s r l → (l ≡ 0 → ⊥) → (r < l) × (l < rows s)
higher s r l (inl e) z = absurd (z e)
higher s r l (inr q) z = q

-- Links that rise, and link every row but 0 exactly once.
pub record LinkFacts (s : Sheet) : Type 0 where
  pub header_next : next s 0 ≡ 0
  pub nexts : (r : ℕ) → r < rows s → Rises s r (next s r)
  pub children : (r : ℕ) → r < rows s → Rises s r (child s r)
  pub once : (r : ℕ) → 0 < r → r < rows s → count (eqb r) (links s) ≡ 1

module _ (s : Sheet) (ok : LinkFacts s) where
  -- two places among the links that hold one row are one place
  one_place : (r i j : ℕ) → 0 < r → r < rows s → i < 2 * rows s → j < 2 * rows s
      → get_or (links s) i 0 ≡ r → get_or (links s) j 0 ≡ r → i ≡ j
  one_place r i j p l hi hj ei ej = go (ℕ-trichotomy i j)
    where
      len : length (links s) ≡ 2 * rows s
      len = pairs_length (next s) (child s) 0 (rows s)

      go : (i < j) ⊎ ((i ≡ j) ⊎ (j < i)) → i ≡ j
      go (inl h) = absurd (omega (arith, ok.once r p l, count_two (eqb r) (links s) i j h (omega (arith, len)) (eqb_of r _ (sym ei)) (eqb_of r _ (sym ej))))
      go (inr (inl e)) = e
      go (inr (inr h)) = absurd (omega (arith, ok.once r p l, count_two (eqb r) (links s) j i h (omega (arith, len)) (eqb_of r _ (sym ej)) (eqb_of r _ (sym ei))))

  -- one row is next to at most one, the child of at most one, and not both
  pub next_one : (p q : ℕ) → p < rows s → q < rows s → 0 < next s p → next s p < rows s → next s p ≡ next s q → p ≡ q
  next_one p q hp hq z l e =
      omega (
        arith,
        one_place (next s p) (2 * p) (2 * q) z l (omega arith) (omega arith)
            (pairs_first (next s) (child s) (rows s) p hp) (pairs_first (next s) (child s) (rows s) q hq ∙ sym e),
      )

  pub child_one : (p q : ℕ) → p < rows s → q < rows s → 0 < child s p → child s p < rows s → child s p ≡ child s q → p ≡ q
  child_one p q hp hq z l e =
      omega (
        arith,
        one_place (child s p) (suc (2 * p)) (suc (2 * q)) z l (omega arith) (omega arith)
            (pairs_second (next s) (child s) (rows s) p hp) (pairs_second (next s) (child s) (rows s) q hq ∙ sym e),
      )

  pub next_not_child : (p q : ℕ) → p < rows s → q < rows s → 0 < next s p → next s p < rows s → next s p ≡ child s q → ⊥
  next_not_child p q hp hq z l e =
      omega (
        arith,
        one_place (next s p) (2 * p) (suc (2 * q)) z l (omega arith) (omega arith)
            (pairs_first (next s) (child s) (rows s) p hp) (pairs_second (next s) (child s) (rows s) q hq ∙ sym e),
      )

  -- a row but 0 is next to a row or the child of one
  pub linker : (r : ℕ) → 0 < r → r < rows s → (p : ℕ) × (p < rows s) × ((next s p ≡ r) ⊎ (child s p ≡ r))
  linker r z l =
      let c = count_place (eqb r) (links s) (omega (arith, ok.once r z l)) in
      let i : ℕ = c.0 in
      let e : get_or (links s) i 0 ≡ r = sym (eqb→eq r _ c.2) in
      let b : i / 2 < rows s = omega (arith, c.1, pairs_length (next s) (child s) 0 (rows s)) in
      go i (i / 2) b e (half i)
    where
      half : (i : ℕ) → (i ≡ 2 * (i / 2)) ⊎ (i ≡ suc (2 * (i / 2)))
      half i = side (ℕ-trichotomy i (2 * (i / 2)))
        where
          side : (i < 2 * (i / 2)) ⊎ ((i ≡ 2 * (i / 2)) ⊎ (2 * (i / 2) < i)) → (i ≡ 2 * (i / 2)) ⊎ (i ≡ suc (2 * (i / 2)))
          side (inl h) = absurd (omega arith)
          side (inr (inl e)) = inl e
          side (inr (inr h)) = inr (omega arith)

      go : (i p : ℕ) → p < rows s → get_or (links s) i 0 ≡ r → (i ≡ 2 * p) ⊎ (i ≡ suc (2 * p))
          → (p : ℕ) × (p < rows s) × ((next s p ≡ r) ⊎ (child s p ≡ r))
      go i p b e (inl q) = (p, b, inl (sym (pairs_first (next s) (child s) (rows s) p b) ∙ ap (λ (j : ℕ). get_or (links s) j 0) (sym q) ∙ e))
      go i p b e (inr q) = (p, b, inr (sym (pairs_second (next s) (child s) (rows s) p b) ∙ ap (λ (j : ℕ). get_or (links s) j 0) (sym q) ∙ e))

-- a chain from 0 is empty
chain_zero : (m : ℕ) (s : Sheet) → chain m s 0 ≡ []
chain_zero zero s = refl
chain_zero (suc m) s = refl

chain_head : (m : ℕ) (s : Sheet) (y : ℕ) → 0 < m → 0 < y → T (y ∈? chain m s y)
chain_head zero s y l z = absurd (omega arith)
chain_head (suc m) s zero l z = absurd (omega arith)
chain_head (suc m) s (suc y) l z = in_head (suc y) (suc y) (chain m s (next s (suc y))) refl

not_in_zero : (m : ℕ) (s : Sheet) (r y : ℕ) → y ≡ 0 → T (r ∈? chain m s y) → ⊥
not_in_zero m s r y e h = subst (λ (xs : List ℕ). T (r ∈? xs)) (ap (chain m s) e ∙ chain_zero m s) h

-- Chains in a sheet whose links rise.
module _ (s : Sheet) (rise : (r : ℕ) → r < rows s → Rises s r (next s r)) where
  -- the rows of a chain are none lower than its first
  pub chain_bounds : (m x r : ℕ) → x < rows s → T (r ∈? chain m s x) → (0 < r) × (x ≤ r) × (r < rows s)
  chain_bounds zero x r l h = absurd h
  chain_bounds (suc m) zero r l h = absurd h
  chain_bounds (suc m) (suc x) r l h = go (λ y. chain_bounds m y r) (in_cases r (suc x) (chain m s (next s (suc x))) h) (rise (suc x) l)
    where
      go : ((y : ℕ) → y < rows s → T (r ∈? chain m s y) → (0 < r) × (y ≤ r) × (r < rows s))
          → (r ≡ suc x) ⊎ T (r ∈? chain m s (next s (suc x))) → Rises s (suc x) (next s (suc x)) → (0 < r) × (suc x ≤ r) × (r < rows s)
      go f (inl e) q = (omega arith, omega arith, omega arith)
      go f (inr t) (inl e) = absurd (not_in_zero m s r _ e t)
      go f (inr t) (inr q) =
          let b = f (next s (suc x)) q.1 t in
          (b.0, omega (arith, b.1, q.0), b.2)

  -- the next of a row in a chain is in it, if the bound is not met
  chain_next : (m x p : ℕ) → x < rows s → rows s ≤ m + x → T (p ∈? chain m s x) → 0 < next s p → T (next s p ∈? chain m s x)
  chain_next zero x p l b h z = absurd h
  chain_next (suc m) zero p l b h z = absurd h
  chain_next (suc m) (suc x) p l b h z = go (λ y. chain_next m y p) (in_cases p (suc x) (chain m s (next s (suc x))) h) (rise (suc x) l)
    where
      here : p ≡ suc x → Rises s (suc x) (next s (suc x)) → T (next s p ∈? chain m s (next s (suc x)))
      here e (inl w) = absurd (omega (arith, w, ap (next s) e))
      here e (inr q) = rw e (chain_head m s (next s (suc x)) (omega (arith, q.0, q.1)) (omega (arith, q.0)))

      go : ((y : ℕ) → y < rows s → rows s ≤ m + y → T (p ∈? chain m s y) → 0 < next s p → T (next s p ∈? chain m s y))
          → (p ≡ suc x) ⊎ T (p ∈? chain m s (next s (suc x))) → Rises s (suc x) (next s (suc x)) → T (next s p ∈? (suc x ∷ chain m s (next s (suc x))))
      go f (inl e) q = in_tail (next s p) (suc x) (chain m s (next s (suc x))) (here e q)
      go f (inr t) (inl e) = absurd (not_in_zero m s p _ e t)
      go f (inr t) (inr q) = in_tail (next s p) (suc x) (chain m s (next s (suc x))) (f (next s (suc x)) q.1 (omega (arith, q.0)) t z)

  -- a row of a chain is its first, or the next of one in it
  chain_before : (m x r : ℕ) → x < rows s → T (r ∈? chain m s x) → (r ≡ x) ⊎ ((q : ℕ) × (q < rows s) × T (q ∈? chain m s x) × (next s q ≡ r))
  chain_before zero x r l h = absurd h
  chain_before (suc m) zero r l h = absurd h
  chain_before (suc m) (suc x) r l h = go (λ y. chain_before m y r) (in_cases r (suc x) (chain m s (next s (suc x))) h) (rise (suc x) l)
    where
      Found : ℕ → ℕ → Type 0
      Found m y = (r ≡ y) ⊎ ((q : ℕ) × (q < rows s) × T (q ∈? chain m s y) × (next s q ≡ r))

      back : Found m (next s (suc x)) → Found (suc m) (suc x)
      back (inl e) = inr (suc x, l, in_head (suc x) (suc x) (chain m s (next s (suc x))) refl, sym e)
      back (inr q) = inr (q.0, q.1, in_tail q.0 (suc x) (chain m s (next s (suc x))) q.2, q.3)

      go : ((y : ℕ) → y < rows s → T (r ∈? chain m s y) → Found m y)
          → (r ≡ suc x) ⊎ T (r ∈? chain m s (next s (suc x))) → Rises s (suc x) (next s (suc x)) → Found (suc m) (suc x)
      go f (inl e) q = inl e
      go f (inr t) (inl e) = absurd (not_in_zero m s r _ e t)
      go f (inr t) (inr q) = back (f (next s (suc x)) q.1 t)

module _ (s : Sheet) (ok : LinkFacts s) where
  -- a child is a higher row
  pub kid_bounds : (p r : ℕ) → p < rows s → T (r ∈? kids s p) → (p < r) × (r < rows s)
  kid_bounds p r l h = go (ok.children p l)
    where
      go : Rises s p (child s p) → (p < r) × (r < rows s)
      go (inl e) = absurd (not_in_zero (rows s) s r _ e h)
      go (inr q) =
          let b = chain_bounds s ok.nexts (rows s) (child s p) r q.1 h in
          (omega (arith, b.1, q.0), b.2)

  -- every row but 0 is a child of a lower row
  held_below : (m r : ℕ) → r < m → 0 < r → r < rows s → (p : ℕ) × (p < r) × T (r ∈? kids s p)
  held_below zero r b z l = absurd (omega arith)
  held_below (suc m) r b z l = go (λ q. held_below m q) (linker s ok r z l)
    where
      Held : ℕ → Type 0
      Held r = (p : ℕ) × (p < r) × T (r ∈? kids s p)

      direct : (p : ℕ) → child s p ≡ r → Rises s p (child s p) → Held r
      direct p e (inl w) = absurd (omega (arith, e, w))
      direct p e (inr q) = (p, omega (arith, e, q.0), rw e (chain_head (rows s) s r (omega arith) z))

      onward : (p q : ℕ) → p < rows s → next s p ≡ r → p < r → q < p → T (p ∈? kids s q) → Rises s q (child s q) → Held r
      onward p q hp e lp lq h (inl w) = absurd (not_in_zero (rows s) s p _ w h)
      onward p q hp e lp lq h (inr c) =
          (q, omega arith, rw (← e) (chain_next s ok.nexts (rows s) (child s q) p c.1 (omega arith) h (omega (arith, e))))

      along : ((q : ℕ) → q < m → 0 < q → q < rows s → Held q) → (p : ℕ) → p < rows s → next s p ≡ r → Rises s p (next s p)
          → (p < 1) ⊎ ((p ≡ 1) ⊎ (1 < p)) → Held r
      along f p hp e (inl w) c = absurd (omega (arith, e, w))
      along f p hp e (inr q) (inl c) =
          let w : p ≡ 0 = omega arith in
          absurd (omega (arith, e, ok.header_next, ap (next s) w))
      along f p hp e (inr q) (inr (inl c)) =
          let k = f p (omega (arith, e, q.0)) (omega arith) hp in
          onward p k.0 hp e (omega (arith, e, q.0)) k.1 k.2 (ok.children k.0 (omega (arith, k.1)))
      along f p hp e (inr q) (inr (inr c)) =
          let k = f p (omega (arith, e, q.0)) (omega arith) hp in
          onward p k.0 hp e (omega (arith, e, q.0)) k.1 k.2 (ok.children k.0 (omega (arith, k.1)))

      go : ((q : ℕ) → q < m → 0 < q → q < rows s → Held q) → (p : ℕ) × (p < rows s) × ((next s p ≡ r) ⊎ (child s p ≡ r)) → Held r
      go f k = side k.2
        where
          side : (next s k.0 ≡ r) ⊎ (child s k.0 ≡ r) → Held r
          side (inl e) = along f k.0 k.1 e (ok.nexts k.0 k.1) (ℕ-trichotomy k.0 1)
          side (inr e) = direct k.0 e (ok.children k.0 k.1)

  -- and of no other
  held_once : (m r p q : ℕ) → r < m → p < rows s → q < rows s → T (r ∈? kids s p) → T (r ∈? kids s q) → p ≡ q
  held_once zero r p q b hp hq x y = absurd (omega arith)
  held_once (suc m) r p q b hp hq x y =
      go (λ r'. held_once m r' p q) (ok.children p hp) (ok.children q hq)
    where
      rb : r < rows s
      rb = (kid_bounds p r hp x).1

      rz : 0 < r
      rz = omega (arith, (kid_bounds p r hp x).0)

      From : ℕ → Type 0
      From p = (r ≡ child s p) ⊎ ((k : ℕ) × (k < rows s) × T (k ∈? kids s p) × (next s k ≡ r))

      lower : (k : ℕ) → k < rows s → next s k ≡ r → Rises s k (next s k) → k < r
      lower k l e (inl w) = absurd (omega (arith, e, w, rz))
      lower k l e (inr c) = omega (arith, e, c.0)

      both : ((r' : ℕ) → r' < m → p < rows s → q < rows s → T (r' ∈? kids s p) → T (r' ∈? kids s q) → p ≡ q) → From p → From q → p ≡ q
      both f (inl e) (inl w) = child_one s ok p q hp hq (omega (arith, e, rz)) (omega (arith, e, rb)) (sym e ∙ w)
      both f (inl e) (inr k) = absurd (next_not_child s ok k.0 p k.1 hp (omega (arith, k.3, rz)) (omega (arith, k.3, rb)) (k.3 ∙ e))
      both f (inr k) (inl e) = absurd (next_not_child s ok k.0 q k.1 hq (omega (arith, k.3, rz)) (omega (arith, k.3, rb)) (k.3 ∙ e))
      both f (inr k) (inr j) =
          let e : k.0 ≡ j.0 = next_one s ok k.0 j.0 k.1 j.1 (omega (arith, k.3, rz)) (omega (arith, k.3, rb)) (k.3 ∙ sym j.3) in
          let l : k.0 < r = lower k.0 k.1 k.3 (ok.nexts k.0 k.1) in
          f k.0 (omega arith) hp hq k.2 (rw e j.2)

      go : ((r' : ℕ) → r' < m → p < rows s → q < rows s → T (r' ∈? kids s p) → T (r' ∈? kids s q) → p ≡ q)
          → Rises s p (child s p) → Rises s q (child s q) → p ≡ q
      go f (inl e) c = absurd (not_in_zero (rows s) s r _ e x)
      go f (inr c) (inl e) = absurd (not_in_zero (rows s) s r _ e y)
      go f (inr c) (inr d) =
          both f (chain_before s ok.nexts (rows s) (child s p) r c.1 x) (chain_before s ok.nexts (rows s) (child s q) r d.1 y)

  pub one_holder : (r p q : ℕ) → p < rows s → q < rows s → T (r ∈? kids s p) → T (r ∈? kids s q) → p ≡ q
  one_holder r p q hp hq x y = held_once (suc r) r p q (omega arith) hp hq x y

  -- the holder of a row is the lower row that has it as a child
  pub held : (r : ℕ) → 0 < r → r < rows s → T (r ∈? kids s (holder s r)) × (holder s r < r)
  held r z l =
      let h = held_below (suc r) r (omega arith) z l in
      let f = first_below (λ p. r ∈? kids s p) 0 (rows s) h.0 (omega (arith, h.1)) h.2 in
      (f.0, (kid_bounds (holder s r) r f.1 f.0).0)

  pub holder_of : (r p : ℕ) → p < rows s → T (r ∈? kids s p) → holder s r ≡ p
  holder_of r p hp x =
      let b = kid_bounds p r hp x in
      let h = held r (omega (arith, b.0)) b.1 in
      one_holder r (holder s r) p (omega (arith, h.1, b.1)) hp h.0 x

  -- the header is no child
  pub header_held : holder s 0 ≡ 0
  header_held = go (rows s) 0 (omega arith)
    where
      none : (p : ℕ) → p < rows s → T (0 ∈? kids s p) → ⊥
      none p l h = omega (arith, (kid_bounds p 0 l h).0)

      pass : (t : Bool) (k x : ℕ) → (T t → ⊥) → x ≡ 0 → (when t then k else x) ≡ 0
      pass true k x f e = absurd (f tt)
      pass false k x f e = e

      go : (m k : ℕ) → k + m ≤ rows s → first (λ p. 0 ∈? kids s p) 0 (from k m) ≡ 0
      go zero k l = refl
      go (suc m) k l = pass (0 ∈? kids s k) k _ (none k (omega arith)) (go m (suc k) (omega arith))

  -- The tables.
  pub parent_is : (r : ℕ) → r < rows s → parent (tables s) r ≡ holder s r
  parent_is r l = map_below (holder s) (rows s) r l

  pub depth_header : 0 < rows s → at (tables s).depths 0 ≡ 0
  depth_header l = table_at (depth_entry (parent_table s)) (rows s) 0 l

  local_entry : (r : ℕ) → 0 < r → r < rows s → parent (tables s) r < r
  local_entry r z l = omega (arith, parent_is r l, (held r z l).1)

  pub depth_step : (r : ℕ) → 0 < r → r < rows s → at (tables s).depths r ≡ suc (at (tables s).depths (holder s r))
  depth_step r z l =
      table_from (depth_entry (parent_table s)) (rows s) r (parent (tables s) r) l (local_entry r z l) (λ t u e. ap (λ (x : ℕ). when eqb r 0 then 0 else suc x) e)
      ∙ go (eqb r 0) refl ∙ ap (λ (p : ℕ). suc (at (tables s).depths p)) (parent_is r l)
    where
      go : (t : Bool) → eqb r 0 ≡ t → (when t then 0 else suc (at (tables s).depths (parent (tables s) r))) ≡ suc (at (tables s).depths (parent (tables s) r))
      go true e = absurd (omega (arith, eqb→eq r 0 (T_true _ e)))
      go false e = refl

  pub unit_step : (r : ℕ) → 0 < r → r < rows s → unit (tables s) r ≡ (when is s 2 r then r else unit (tables s) (holder s r))
  unit_step r z l =
      table_from (unit_entry s (parent_table s)) (rows s) r (parent (tables s) r) l (local_entry r z l) (λ t u e. ap (λ (x : ℕ). when is s 2 r then r else x) e)
      ∙ ap (λ (p : ℕ). when is s 2 r then r else unit (tables s) p) (parent_is r l)

  pub function_step : (r : ℕ) → 0 < r → r < rows s
      → function (tables s) r ≡ (when is s 6 (holder s r) then holder s r else function (tables s) (holder s r))
  function_step r z l =
      table_from (function_entry s (parent_table s)) (rows s) r (parent (tables s) r) l (local_entry r z l)
      (λ t u e. ap (λ (x : ℕ). when is s 6 (parent (tables s) r) then parent (tables s) r else x) e)
      ∙ ap (λ (p : ℕ). when is s 6 p then p else function (tables s) p) (parent_is r l)

  pub class_step : (r : ℕ) → 0 < r → r < rows s
      → class (tables s) r ≡ (when is s 6 r && is s 4 (holder s r) then holder s r else class (tables s) (holder s r))
  class_step r z l =
      table_from (class_entry s (parent_table s)) (rows s) r (parent (tables s) r) l (local_entry r z l)
      (λ t u e. ap (λ (x : ℕ). when is s 6 r && is s 4 (parent (tables s) r) then parent (tables s) r else x) e)
      ∙ ap (λ (p : ℕ). when is s 6 r && is s 4 p then p else class (tables s) p) (parent_is r l)

-- The holder by one link: that of a row's child is the row, that of a row's next is the row's.
module _ (s : Sheet) (ok : LinkFacts s) where
  pub child_held : (r : ℕ) → r < rows s → 0 < child s r → holder s (child s r) ≡ r
  child_held r l z = holder_of s ok (child s r) r l (chain_head (rows s) s (child s r) (omega arith) z)

  pub next_held : (r : ℕ) → 0 < r → r < rows s → 0 < next s r → holder s (next s r) ≡ holder s r
  next_held r z l w =
      let h = held s ok r z l in
      let b : holder s r < rows s = omega (arith, h.1) in
      holder_of s ok (next s r) (holder s r) b (go (ok.children (holder s r) b) h.0)
    where
      go : Rises s (holder s r) (child s (holder s r)) → T (r ∈? kids s (holder s r)) → T (next s r ∈? kids s (holder s r))
      go (inl e) h = absurd (not_in_zero (rows s) s r (child s (holder s r)) e h)
      go (inr q) h = chain_next s ok.nexts (rows s) (child s (holder s r)) r q.1 (omega arith) h w
