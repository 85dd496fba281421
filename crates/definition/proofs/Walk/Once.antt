-- Each row is visited at most once in the walk, and declares at most once.
use mathlib.Core.Path.{◌≡◌, refl, sym, ap, ◌∙◌, subst}
use mathlib.Core.Logic.{◌⊎◌, inl, inr}
use mathlib.Core.List.Memᴰ
use mathlib.Core.List.Memᴰ.{head as here}
use mathlib.Core.List.Memᴰ.{tail as there}
use mathlib.Core.List.{List, [], ◌∷◌, ◌++◌, map, Memᴰ as Mem}
use mathlib.Core.Bool.{Bool, true, false, not, ◌||◌, ◌&&◌}
use Prim.Native.Nat.{ℕ, zero, suc, ◌+◌, ◌<◌, ◌≤◌}
use native.Mathlib.Omega.{arith}
use native.Mathlib.Nat.{le_refl}
use lib.Dec.{eqb, T, T_not, not_T, eqb_refl, eqb→eq, eqb-suc-zero}
use Rattle.definition.specs.Basics.{when◌then◌else◌, filter, final, concat_map, bit, ◌∈?◌, count, total}
use Rattle.definition.specs.Sheet.{Sheet, kind, child, b, rows, kids, is, kids_of, holder}
use Rattle.definition.specs.Outside.{Outside}
use Rattle.definition.specs.Meaning.{Meaning}
use Rattle.definition.specs.Walk.{Event, enter, leave, loop, declare, bring, visit, imports, seen, literal_let, before, after, after_part, parts, each, trace, walk}
use Rattle.definition.specs.Scope.{Stack, Moment, step, moments, history, start, visited, declares, visit_of}
use Rattle.definition.specs.Bounds.{own, walked}
use Rattle.definition.proofs.Lists.Tests.{and_left, and_right, decide, eqb_of, if_true, if_false, kind_apart, bit_not, bit_le}
use Rattle.definition.proofs.Lists.Members.{Nodup, nodup_none, nodup_one, nodup_filter, count_append, total_append, count_same, filter_mem, filter_one, mem_test, test_mem}
use Rattle.definition.proofs.Walk.Fits.{Fits}
use Rattle.definition.proofs.Walk.Rows.{reached_root, kids_nodup, holder_is}
use Rattle.definition.proofs.Walk.Walked.{walked_nodup, found}

total_concat : (f : ℕ → ℕ) (g : ℕ → List ℕ) (ks : List ℕ) → total f (concat_map g ks) ≡ total (λ k. total f (g k)) ks
total_concat f g [] = refl
total_concat f g (k ∷ ks) = omega (arith, total_append f (g k) (concat_map g ks), total_concat f g ks)

total_same : (f g : ℕ → ℕ) → ((k : ℕ) → f k ≡ g k) → (ks : List ℕ) → total f ks ≡ total g ks
total_same f g e [] = refl
total_same f g e (k ∷ ks) = omega (arith, e k, total_same f g e ks)

count_each : (p : Event → Bool) (go : ℕ → List Event) (s : Sheet) (r i : ℕ) (ks : List ℕ)
    → count p (each go s r i ks) ≡ count p (each (λ k. []) s r i ks) + total (λ k. count p (go k)) ks
count_each p go s r i [] = refl
count_each p go s r i (k ∷ ks) =
    omega (
      arith,
      count_append p (go k ++ after_part s r i) (each go s r (suc i) ks),
      count_append p (go k) (after_part s r i),
      count_append p (after_part s r i) (each (λ k. []) s r (suc i) ks),
      count_each p go s r (suc i) ks,
    )

-- what happens in the walk of a row happens at the rows that are walked
pub count_trace : (p : Event → Bool) (d : ℕ) (s : Sheet) (r : ℕ) → count p (trace d s r) ≡ total (λ x. count p (own s x)) (walked d s r)
count_trace p zero s r = refl
count_trace p (suc d) s r =
    omega (
      arith,
      count_append p (before s r ++ each (trace d s) s r 0 (parts s r)) (after s r),
      count_append p (before s r) (each (trace d s) s r 0 (parts s r)),
      count_append p (before s r ++ each (λ k. []) s r 0 (parts s r)) (after s r),
      count_append p (before s r) (each (λ k. []) s r 0 (parts s r)),
      count_each p (trace d s) s r 0 (parts s r),
      total_same (λ k. count p (trace d s k)) (λ k. total (λ x. count p (own s x)) (walked d s k)) (count_trace p d s) (parts s r),
      total_concat (λ x. count p (own s x)) (walked d s) (parts s r),
    )

-- tests that no import passes, and no declaration
pub count_map : {A : Type 0} (p : Event → Bool) (f : A → Event) (xs : List A) → ((x : A) → T (not (p (f x)))) → count p (map f xs) ≡ 0
count_map p f [] h = refl
count_map p f (x ∷ xs) h = omega (arith, count_map p f xs h, bit_not (p (f x)) (T_not (p (f x)) (h x)))

pub count_none : (p : Event → Bool) (xs ys : List Event) → count p xs ≡ 0 → count p ys ≡ 0 → count p (xs ++ ys) ≡ 0
count_none p xs ys h k = omega (arith, count_append p xs ys)

pub data Brings : List Event → Type 0 where
  none : Brings []
  more : {r n : ℕ} {d : Meaning} {es : List Event} → Brings es → Brings (bring r n d ∷ es)

brings_append : {xs ys : List Event} → Brings xs → Brings ys → Brings (xs ++ ys)
brings_append none q = q
brings_append (more p) q = more (brings_append p q)

brings_map : {A : Type 0} (i : ℕ) (n : A → ℕ) (d : A → Meaning) (xs : List A) → Brings (map (λ x. bring i (n x) (d x)) xs)
brings_map i n d [] = none
brings_map i n d (x ∷ xs) = more (brings_map i n d xs)

brings_if : (t : Bool) {xs : List Event} → Brings xs → Brings (when t then xs else [])
brings_if true p = p
brings_if false p = none

pub brings_imports : (s : Sheet) (u : ℕ) (js : List ℕ) → Brings (concat_map (imports s u) js)
brings_imports s u [] = none
brings_imports s u (i ∷ js) =
    brings_append (brings_append (brings_if (eqb (b s i) 1) (brings_map i _ _ (seen s u i))) (brings_map i _ _ (kids s i))) (brings_imports s u js)

pub count_brings : (p : Event → Bool) → ((r n : ℕ) (d : Meaning) → T (not (p (bring r n d)))) → {es : List Event} → Brings es → count p es ≡ 0
count_brings p h none = refl
count_brings p h (more {r = r} {n = n} {d = d} q) = omega (arith, count_brings p h q, bit_not (p (bring r n d)) (T_not (p (bring r n d)) (h r n d)))

not_zero : (x : ℕ) → (x ≡ 0 → ⊥) → T (not (eqb 0 x))
not_zero x z = not_T (eqb 0 x) (λ t. z (sym (eqb→eq 0 x t)))

-- a number where a test passes
if_bit_le : (t : Bool) (v : ℕ) → (when t then v else 0) ≤ v
if_bit_le true v = le_refl v
if_bit_le false v = omega arith

-- a test that only visits pass
pub record OnlyVisits (p : Event → Bool) : Type 0 where
  pub enters : (r : ℕ) → T (not (p (enter r)))
  pub leaves : T (not (p leave))
  pub loops : T (not (p loop))
  pub declares : (r : ℕ) → T (not (p (declare r)))
  pub brings : (r n : ℕ) (d : Meaning) → T (not (p (bring r n d)))

bit_off : (t : Bool) → T (not t) → bit t ≡ 0
bit_off t h = bit_not t (T_not t h)

one_kind : (n v : ℕ) → (when eqb n 30 then v else 0) + (when eqb n 59 then v else 0)
    + (when eqb n 21 || eqb n 23 || eqb n 24 || eqb n 50 || eqb n 51 || eqb n 52 || eqb n 55 then v else 0) ≤ v
one_kind n v = go (decide (eqb n 30)) (decide (eqb n 59))
  where
    go : T (eqb n 30) ⊎ T (not (eqb n 30)) → T (eqb n 59) ⊎ T (not (eqb n 59)) → (when eqb n 30 then v else 0) + (when eqb n 59 then v else 0)
        + (when eqb n 21 || eqb n 23 || eqb n 24 || eqb n 50 || eqb n 51 || eqb n 52 || eqb n 55 then v else 0) ≤ v
    go (inl p) q = rw (eqb→eq n 30 p) (omega arith)
    go (inr p) (inl q) = rw (eqb→eq n 59 q) (omega arith)
    go (inr p) (inr q) =
        omega (arith, if_false (eqb n 30) v 0 p, if_false (eqb n 59) v 0 q, if_bit_le (eqb n 21 || eqb n 23 || eqb n 24 || eqb n 50 || eqb n 51 || eqb n 52 || eqb n 55) v)

module _ (s : Sheet) (p : Event → Bool) (q : OnlyVisits p) where
  -- at row r only its own visit, and once
  visit_before : (r : ℕ) (t2 t6 t25 t27 t30 : Bool) (e2 e6 e25 : List Event) → count p e2 ≡ 0 → count p e6 ≡ 0 → count p e25 ≡ 0
      → count p (when t2 then enter r ∷ e2 else when t6 then enter r ∷ e6 else when t25 then enter r ∷ e25 else when t27 then enter r ∷ [] else when t30 then visit r ∷ [] else [])
      ≤ (when t30 then bit (p (visit r)) else 0)
  visit_before r true t6 t25 t27 t30 e2 e6 e25 f g h = omega (arith, bit_off (p (enter r)) (q.enters r))
  visit_before r false true t25 t27 t30 e2 e6 e25 f g h = omega (arith, bit_off (p (enter r)) (q.enters r))
  visit_before r false false true t27 t30 e2 e6 e25 f g h = omega (arith, bit_off (p (enter r)) (q.enters r))
  visit_before r false false false true t30 e2 e6 e25 f g h = omega (arith, bit_off (p (enter r)) (q.enters r))
  visit_before r false false false false true e2 e6 e25 f g h = omega arith
  visit_before r false false false false false e2 e6 e25 f g h = omega arith

  visit_part : (r : ℕ) (t59 t0 t27 : Bool) → count p (when t59 && t0 then visit r ∷ [] else when t27 then loop ∷ [] else []) ≤ (when t0 then (when t59 then bit (p (visit r)) else 0) else 0)
  visit_part r true true t27 = omega arith
  visit_part r false true true = omega (arith, bit_off (p loop) q.loops)
  visit_part r false true false = omega arith
  visit_part r true false true = omega (arith, bit_off (p loop) q.loops)
  visit_part r true false false = omega arith
  visit_part r false false true = omega (arith, bit_off (p loop) q.loops)
  visit_part r false false false = omega arith

  visit_later : (r i : ℕ) (ks : List ℕ) → count p (each (λ k. []) s r (suc i) ks) ≡ 0
  visit_later r i [] = refl
  visit_later r i (k ∷ ks) =
      omega (
        arith,
        count_append p (after_part s r (suc i)) (each (λ k. []) s r (suc (suc i)) ks),
        visit_later r (suc i) ks,
        visit_part r (is s 59 r) (eqb (suc i) 0) (is s 27 r && eqb (suc i) 1),
        if_false (eqb (suc i) 0) (when is s 59 r then bit (p (visit r)) else 0) 0 (rw (eqb-suc-zero i) tt),
      )

  visit_parts : (r : ℕ) (ks : List ℕ) → count p (each (λ k. []) s r 0 ks) ≤ (when is s 59 r then bit (p (visit r)) else 0)
  visit_parts r [] = omega arith
  visit_parts r (k ∷ ks) =
      omega (arith, count_append p (after_part s r 0) (each (λ k. []) s r 1 ks), visit_later r 0 ks, visit_part r (is s 59 r) true (is s 27 r && false))

  visit_after : (r : ℕ) (tl t29 t52 tv : Bool)
      → count p (when tl then leave ∷ [] else when t29 then (when t52 then [] else declare r ∷ []) else when tv then visit r ∷ [] else []) ≤ (when tv then bit (p (visit r)) else 0)
  visit_after r true t29 t52 tv = omega (arith, bit_off (p leave) q.leaves)
  visit_after r false true true tv = omega arith
  visit_after r false true false tv = omega (arith, bit_off (p (declare r)) (q.declares r))
  visit_after r false false t52 true = omega arith
  visit_after r false false t52 false = omega arith

  pub visit_own : (r : ℕ) → count p (own s r) ≤ bit (p (visit r))
  visit_own r =
      let e : count p (before s r) ≤ (when is s 30 r then bit (p (visit r)) else 0) =
      visit_before r (is s 2 r) (is s 6 r) (is s 25 r) (is s 27 r) (is s 30 r)
      (concat_map (imports s r) (kids_of s 3 r) ++ map declare (kids_of s 4 r)) (map declare (kids_of s 11 r)) (map declare (filter (literal_let s) (kids s r)))
      (count_none p (concat_map (imports s r) (kids_of s 3 r)) (map declare (kids_of s 4 r))
      (count_brings p q.brings (brings_imports s r (kids_of s 3 r)))
      (count_map p declare (kids_of s 4 r) q.declares))
      (count_map p declare (kids_of s 11 r) q.declares) (count_map p declare (filter (literal_let s) (kids s r)) q.declares) in
      omega (
        arith,
        count_append p (before s r ++ each (λ k. []) s r 0 (parts s r)) (after s r),
        count_append p (before s r) (each (λ k. []) s r 0 (parts s r)),
        visit_parts r (parts s r),
        visit_after r (is s 2 r || is s 6 r || is s 25 r || is s 27 r) (is s 29 r) (is s 52 (child s r)) (is s 21 r || is s 23 r || is s 24 r || is s 50 r || is s 51 r || is s 52 r || is s 55 r),
        one_kind (kind s r) (bit (p (visit r))),
      )

module _ (s : Sheet) (x : ℕ) (z : x ≡ 0 → ⊥) where
  abbrev is_declare_of : Event → Bool
  is_declare_of e = eqb (declares e) x

  -- x declares at its own row, if it is a let that is not a literal's; or at the row that holds it
  abbrev own_let : Bool
  own_let = is s 29 x && not (is s 52 (child s x))

  abbrev home : ℕ
  home = when own_let then x else holder s x

  count_declares : (ks : List ℕ) → count is_declare_of (map declare ks) ≡ count (λ k. eqb k x) ks
  count_declares [] = refl
  count_declares (k ∷ ks) = omega (arith, count_declares ks)

  count_absent : (ks : List ℕ) → (Mem x ks → ⊥) → count (λ k. eqb k x) ks ≡ 0
  count_absent [] f = refl
  count_absent (k ∷ ks) f = omega (arith, count_absent ks (λ m. f (there m)), bit_not (eqb k x) (λ t. f (here (sym (eqb→eq k x t)))))

  count_nodup : {ks : List ℕ} → Nodup ks → count (λ k. eqb k x) ks ≤ 1
  count_nodup nodup_none = omega arith
  count_nodup (nodup_one {x = k} {xs = ks} h n) = go (decide (eqb k x)) (count_nodup n)
    where
      go : T (eqb k x) ⊎ T (not (eqb k x)) → count (λ k. eqb k x) ks ≤ 1 → bit (eqb k x) + count (λ k. eqb k x) ks ≤ 1
      go (inl t) l = omega (arith, bit_le (eqb k x), count_absent ks (λ m. h (Memᴰ.cast (eqb→eq k x t) m)))
      go (inr t) l = omega (arith, bit_not (eqb k x) (T_not (eqb k x) t))

  bit_yes : (t : Bool) → T t → bit t ≡ 1
  bit_yes true h = refl
  bit_yes false h = absurd h

  declare_kids : {O : Outside} (ok : Fits O s) (r : ℕ) (q : ℕ → Bool) → r < rows s → (T (q x) → T (not own_let)) → count is_declare_of (map declare (filter q (kids s r))) ≤ bit (eqb r home)
  declare_kids ok r q l f = go (decide (x ∈? filter q (kids s r)))
    where
      go : T (x ∈? filter q (kids s r)) ⊎ T (not (x ∈? filter q (kids s r))) → count is_declare_of (map declare (filter q (kids s r))) ≤ bit (eqb r home)
      go (inl t) =
          let m = filter_mem q x (kids s r) (test_mem x (filter q (kids s r)) t) in
          let e : home ≡ r = if_false own_let x (holder s x) (f m.1) ∙ holder_is ok r x l m.0 in
          omega (arith, count_declares (filter q (kids s r)), count_nodup (nodup_filter q (kids_nodup ok r l)), bit_yes (eqb r home) (eqb_of r home (sym e)))
      go (inr t) =
          omega (arith, count_declares (filter q (kids s r)), count_absent (filter q (kids s r)) (λ m. T_not (x ∈? filter q (kids s r)) t (mem_test x (filter q (kids s r)) m)))

  declare_before : (r v : ℕ) (t2 t6 t25 t27 t30 : Bool) (e2 e6 e25 : List Event) → count is_declare_of e2 ≤ v → count is_declare_of e6 ≤ v → count is_declare_of e25 ≤ v
      → count is_declare_of (when t2 then enter r ∷ e2 else when t6 then enter r ∷ e6 else when t25 then enter r ∷ e25 else when t27 then enter r ∷ [] else when t30 then visit r ∷ [] else [])
      ≤ (when t2 || t6 || t25 then v else 0)
  declare_before r v true t6 t25 t27 t30 e2 e6 e25 f g h = omega (arith, bit_off (eqb 0 x) (not_zero x z))
  declare_before r v false true t25 t27 t30 e2 e6 e25 f g h = omega (arith, bit_off (eqb 0 x) (not_zero x z))
  declare_before r v false false true t27 t30 e2 e6 e25 f g h = omega (arith, bit_off (eqb 0 x) (not_zero x z))
  declare_before r v false false false true t30 e2 e6 e25 f g h = omega (arith, bit_off (eqb 0 x) (not_zero x z))
  declare_before r v false false false false true e2 e6 e25 f g h = omega (arith, bit_off (eqb 0 x) (not_zero x z))
  declare_before r v false false false false false e2 e6 e25 f g h = omega arith

  declare_part : (r : ℕ) (t59 t27 : Bool) → count is_declare_of (when t59 then visit r ∷ [] else when t27 then loop ∷ [] else []) ≡ 0
  declare_part r true t27 = omega (arith, bit_off (eqb 0 x) (not_zero x z))
  declare_part r false true = omega (arith, bit_off (eqb 0 x) (not_zero x z))
  declare_part r false false = refl

  declare_parts : (r i : ℕ) (ks : List ℕ) → count is_declare_of (each (λ k. []) s r i ks) ≡ 0
  declare_parts r i [] = refl
  declare_parts r i (k ∷ ks) =
      omega (arith, count_append is_declare_of (after_part s r i) (each (λ k. []) s r (suc i) ks), declare_parts r (suc i) ks, declare_part r (is s 59 r && eqb i 0) (is s 27 r && eqb i 1))

  declare_after : (r v : ℕ) (tl t29 t52 tv : Bool) → (T (t29 && not t52) → bit (eqb r x) ≤ v)
      → count is_declare_of (when tl then leave ∷ [] else when t29 then (when t52 then [] else declare r ∷ []) else when tv then visit r ∷ [] else []) ≤ (when t29 then v else 0)
  declare_after r v true t29 t52 tv f = omega (arith, bit_off (eqb 0 x) (not_zero x z))
  declare_after r v false true true tv f = omega arith
  declare_after r v false true false tv f = omega (arith, f tt)
  declare_after r v false false t52 true f = omega (arith, bit_off (eqb 0 x) (not_zero x z))
  declare_after r v false false t52 false f = omega arith

  at_home : (r : ℕ) → T (is s 29 r && not (is s 52 (child s r))) → bit (eqb r x) ≤ bit (eqb r home)
  at_home r h = go (decide (eqb r x))
    where
      go : T (eqb r x) ⊎ T (not (eqb r x)) → bit (eqb r x) ≤ bit (eqb r home)
      go (inl t) =
          let e : r ≡ x = eqb→eq r x t in
          let w : home ≡ x = if_true own_let x (holder s x) (subst (λ (y : ℕ). T (is s 29 y && not (is s 52 (child s y)))) e h) in
          omega (arith, bit_le (eqb r x), bit_yes (eqb r home) (eqb_of r home (e ∙ sym w)))
      go (inr t) = omega (arith, bit_not (eqb r x) (T_not (eqb r x) t))

  let_apart : (n v : ℕ) → (when eqb n 2 || eqb n 6 || eqb n 25 then v else 0) + (when eqb n 29 then v else 0) ≤ v
  let_apart n v = go (decide (eqb n 29))
    where
      go : T (eqb n 29) ⊎ T (not (eqb n 29)) → (when eqb n 2 || eqb n 6 || eqb n 25 then v else 0) + (when eqb n 29 then v else 0) ≤ v
      go (inl p) = rw (eqb→eq n 29 p) (omega arith)
      go (inr p) = omega (arith, if_false (eqb n 29) v 0 p, if_bit_le (eqb n 2 || eqb n 6 || eqb n 25) v)

  no_own_let : (j : ℕ) → T (not (eqb 29 j)) → T (is s j x) → T (not own_let)
  no_own_let j d h = not_T own_let (λ t. kind_apart (kind s x) 29 j d (and_left (is s 29 x) (not (is s 52 (child s x))) t) h)

  no_own_literal : T (literal_let s x) → T (not own_let)
  no_own_literal h = not_T own_let (λ t. T_not (is s 52 (child s x)) (and_right (is s 29 x) (not (is s 52 (child s x))) t) (and_right (is s 29 x) (is s 52 (child s x)) h))

  pub declare_own : {O : Outside} (ok : Fits O s) (r : ℕ) → r < rows s → count is_declare_of (own s r) ≤ bit (eqb r home)
  declare_own ok r l =
      let e : count is_declare_of (before s r) ≤ (when is s 2 r || is s 6 r || is s 25 r then bit (eqb r home) else 0) =
      declare_before r (bit (eqb r home)) (is s 2 r) (is s 6 r) (is s 25 r) (is s 27 r) (is s 30 r)
      (concat_map (imports s r) (kids_of s 3 r) ++ map declare (kids_of s 4 r)) (map declare (kids_of s 11 r)) (map declare (filter (literal_let s) (kids s r)))
      (omega (
        arith,
        count_append is_declare_of (concat_map (imports s r) (kids_of s 3 r)) (map declare (kids_of s 4 r)),
        count_brings is_declare_of (λ i n d. not_zero x z) (brings_imports s r (kids_of s 3 r)),
        declare_kids ok r (is s 4) l (no_own_let 4 tt),
      ))
      (declare_kids ok r (is s 11) l (no_own_let 11 tt)) (declare_kids ok r (literal_let s) l no_own_literal) in
      omega (
        arith,
        count_append is_declare_of (before s r ++ each (λ k. []) s r 0 (parts s r)) (after s r),
        count_append is_declare_of (before s r) (each (λ k. []) s r 0 (parts s r)),
        declare_parts r 0 (parts s r),
        declare_after r (bit (eqb r home)) (is s 2 r || is s 6 r || is s 25 r || is s 27 r) (is s 29 r)
            (is s 52 (child s r)) (is s 21 r || is s 23 r || is s 24 r || is s 50 r || is s 51 r || is s 52 r || is s 55 r)
            (at_home r),
        let_apart (kind s r) (bit (eqb r home)),
      )

-- a number for each row that is at most 1, and 0 but at row w
total_bit : (f : ℕ → ℕ) (w : ℕ) {xs : List ℕ} → Nodup xs → ((y : ℕ) → Mem y xs → f y ≤ bit (eqb y w)) → total f xs ≤ 1
total_bit f w nodup_none le = omega arith
total_bit f w (nodup_one {x = y} {xs = ys} h n) le = go (decide (eqb y w)) (le y (here refl)) (total_bit f w n (λ k m. le k (there m)))
  where
    zeros : T (eqb y w) → (ks : List ℕ) → (Mem y ks → ⊥) → ((k : ℕ) → Mem k ks → f k ≤ bit (eqb k w)) → total f ks ≡ 0
    zeros t [] q p = refl
    zeros t (k ∷ ks) q p =
        omega (arith, p k (here refl), zeros t ks (λ m. q (there m)) (λ j m. p j (there m)), bit_not (eqb k w) (λ g. q (here (eqb→eq y w t ∙ sym (eqb→eq k w g)))))

    go : T (eqb y w) ⊎ T (not (eqb y w)) → f y ≤ bit (eqb y w) → total f ys ≤ 1 → f y + total f ys ≤ 1
    go (inl t) b r = omega (arith, bit_le (eqb y w), zeros t ys h (λ k m. le k (there m)))
    go (inr t) b r = omega (arith, bit_not (eqb y w) (T_not (eqb y w) t))

count_moments : (p : Event → Bool) (s : Sheet) (z : Stack) (es : List Event) → count (λ m. p m.event) (moments s z es) ≡ count p es
count_moments p s z [] = refl
count_moments p s z (e ∷ es) = omega (arith, count_moments p s (step s z e) es)

only_visits : (x : ℕ) → (x ≡ 0 → ⊥) → OnlyVisits (λ e. eqb (visited e) x)
only_visits x z =
    record { enters = λ r. not_zero x z; leaves = not_zero x z; loops = not_zero x z; declares = λ r. not_zero x z; brings = λ r n d. not_zero x z }

module _ {O : Outside} {s : Sheet} (ok : Fits O s) where
  -- row x is visited at most once, and declares at most once
  pub visits_once : (x : ℕ) → (x ≡ 0 → ⊥) → count (λ e. eqb (visited e) x) (walk s) ≤ 1
  visits_once x z =
      omega (
        arith,
        count_trace (λ e. eqb (visited e) x) (rows s) s 0,
        total_bit (λ y. count (λ e. eqb (visited e) x) (own s y)) x (walked_nodup ok (rows s) 0 (reached_root ok)) (λ y m. visit_own s (λ e. eqb (visited e) x) (only_visits x z) y),
      )

  pub declares_once : (x : ℕ) → (x ≡ 0 → ⊥) → count (λ e. eqb (declares e) x) (walk s) ≤ 1
  declares_once x z =
      omega (
        arith,
        count_trace (λ e. eqb (declares e) x) (rows s) s 0,
        total_bit (λ y. count (λ e. eqb (declares e) x) (own s y)) (home s x z) (walked_nodup ok (rows s) 0 (reached_root ok))
            (λ y m. declare_own s x z ok y (found ok (rows s) 0 y (reached_root ok) m).reached.in_range),
      )

  pub declarings_of : (m : Moment) → Mem m (history O s) → (declares m.event ≡ 0 → ⊥) → filter (λ k. eqb (declares k.event) (declares m.event)) (history O s) ≡ m ∷ []
  declarings_of m p z =
      let x : ℕ = declares m.event in
      filter_one (λ k. eqb (declares k.event) x) m (history O s) (eqb_refl x) p (omega (arith, count_moments (λ e. eqb (declares e) x) s (start O) (walk s), declares_once x z))

  pub one_declaring : (m m' : Moment) → (declares m.event ≡ 0 → ⊥) → Mem m (history O s) → Mem m' (history O s) → declares m.event ≡ declares m'.event → m ≡ m'
  one_declaring m m' z p q e =
      let x : ℕ = declares m.event in
      count_same (λ k. eqb (declares k.event) x) m m' (history O s) (eqb_refl x) (eqb_of (declares m'.event) x (sym e)) p q
      (omega (arith, count_moments (λ e. eqb (declares e) x) s (start O) (walk s), declares_once x z))

  -- so the moment of a visit is the one of its row
  pub visits_of : (m : Moment) → Mem m (history O s) → (visited m.event ≡ 0 → ⊥) → filter (λ k. eqb (visited k.event) (visited m.event)) (history O s) ≡ m ∷ []
  visits_of m p z =
      let x : ℕ = visited m.event in
      filter_one (λ k. eqb (visited k.event) x) m (history O s) (eqb_refl x) p (omega (arith, count_moments (λ e. eqb (visited e) x) s (start O) (walk s), visits_once x z))

  pub visit_of_lem : (m : Moment) → Mem m (history O s) → (visited m.event ≡ 0 → ⊥) → visit_of (history O s) (visited m.event) ≡ m ∷ []
  visit_of_lem m p z = ap final (visits_of m p z)
