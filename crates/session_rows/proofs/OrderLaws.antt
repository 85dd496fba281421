-- Counts that no entry makes fall, and class numbers that rise over the whole run.
use mathlib.Core.Path.{◌≡◌, refl, sym, ap, ◌∙◌, subst}
use mathlib.Core.Logic.{◌⊎◌, inl, inr}
use mathlib.Core.Bool.{Bool, true, false, not, ◌&&◌, ◌||◌}
use mathlib.Core.List.{List, []}
use Prim.Native.Nat.{ℕ, zero, suc, ◌+◌, ◌-◌, ◌*◌, ◌/◌, ◌<◌, ◌≤◌}
use native.Mathlib.Omega.{arith}
use lib.Dec.{eqb, leb, ltb, T, T_not, eqb→eq, leb→le, ltb→lt}
use lib.ListN.{length, get_or}
use borrow.Author.Tests.{eq-eqb, ne_eqb}
use Rattle.definition.specs.Basics.{all, from}
use Rattle.definition.proofs.Lists.Counts.{all_below}
use Rattle.definition.proofs.Lists.Tests.{T_and, T_true, true_of, or_cases, ℕ-trichotomy}
use Rattle.session.specs.Words.{whole, counts_fit, is_function_up_to}
use Rattle.session_rows.proofs.RunLaws.{and_true}
use Rattle.session_rows.specs.Rows.{five_right, after, count_rises, counts_rise, row_right, rows_right, last_right, number_of, number_rises, numbers_rise, all_rise, order_right}
use Rattle.session_rows.specs.Rows.{Limited, Ordered}

-- the counts, by the tests that are made of them
module _ (w n : List ℕ) where
  counts_by : (a b c d e f g h i : Bool) → (a && (b && (c && (d && (e && (f && (g && (h && (i && true))))))))) ≡ (a && (b && (c && (d && (e && (f && (g && true)))) && (h && i))))
  counts_by false b c d e f g h i = refl
  counts_by true false c d e f g h i = refl
  counts_by true true false d e f g h i = refl
  counts_by true true true false e f g h i = refl
  counts_by true true true true false f g h i = refl
  counts_by true true true true true false g h i = refl
  counts_by true true true true true true false h i = refl
  counts_by true true true true true true true false i = refl
  counts_by true true true true true true true true i = and_true i

  pub counts_split : counts_fit whole w n ≡ (leb (get_or w 0 0) 1002048 && (leb (get_or w 1 0) 1000 && (five_right w && (leb 51088 (length w) && leb 32936 (length n)))))
  unfolding five_right
  counts_split =
      counts_by (leb (get_or w 0 0) 1002048) (leb (get_or w 1 0) 1000) (leb (get_or w 3 0) 1024) (leb (get_or w 4 0) 32768) (leb (get_or w 5 0) 4096) (leb (get_or w 6 0) 1024)
      (leb (get_or w 7 0) 8192) (leb 51088 (length w)) (leb 32936 (length n))

-- Halving: class m has a number below the one that is looked for, or above it.
module _ (w : List ℕ) (o : Ordered w) (m x : ℕ) {h : ℕ} (l : m < get_or w 6 0) (e : h ≡ number_of w m) where
  pub lower : h < x → (i : ℕ) → i < m + 1 → eqb (number_of w i) x ≡ false
  lower q i k = ne_eqb (number_of w i) x (λ y. go y (ℕ-trichotomy i m))
    where
      go : number_of w i ≡ x → (i < m) ⊎ ((i ≡ m) ⊎ (m < i)) → ⊥
      go y (inl r) = omega (arith, o.ascending i m r l)
      go y (inr (inl r)) = omega (arith, ap (number_of w) r)
      go y (inr (inr r)) = omega arith

  pub upper : (h ≡ x → ⊥) → x ≤ h → (i : ℕ) → m ≤ i → i < get_or w 6 0 → eqb (number_of w i) x ≡ false
  upper f q i k j = ne_eqb (number_of w i) x (λ y. go y (ℕ-trichotomy i m))
    where
      go : number_of w i ≡ x → (i < m) ⊎ ((i ≡ m) ⊎ (m < i)) → ⊥
      go y (inl r) = omega arith
      go y (inr (inl r)) = f (e ∙ ap (number_of w) (sym r) ∙ y)
      go y (inr (inr r)) = omega (arith, o.ascending m i r j)

-- a class number below all of the entries'
pub number_small : (w : List ℕ) (e k i : ℕ) {h : ℕ} → h ≡ number_of w i → h < 256 → false ≡ number_rises w e k i
unfolding number_rises
number_small w e k i q l =
    let z : 0 ≡ number_of w i - 256 = omega arith in
    sym (no (leb 0 e)) ∙ ap (λ (x : ℕ). (is_function_up_to whole w [] e x && eqb (x / 2048) e) && (eqb i k || ltb (number_of w (i - 1)) (number_of w i))) z
  where
    no : (t : Bool) → ((t && false && eqb 0 e) && (eqb i k || ltb (number_of w (i - 1)) (number_of w i))) ≡ false
    no true = refl
    no false = refl

all_at : (p : ℕ → Bool) (a k : ℕ) → T (all p (from a k)) → (i : ℕ) → a ≤ i → i < a + k → T (p i)
all_at p a zero h i l m = absurd (omega arith)
all_at p a (suc k) h i l m =
    let q = T_and (p a) (all p (from (suc a) k)) h in
    go (ℕ-trichotomy a i) q.0 (λ r. all_at p (suc a) k q.1 i (omega arith) (omega arith))
  where
    go : (a < i) ⊎ ((a ≡ i) ⊎ (i < a)) → T (p a) → (a < i → T (p i)) → T (p i)
    go (inl r) x f = f r
    go (inr (inl r)) x f = subst (λ (j : ℕ). T (p j)) r x
    go (inr (inr r)) x f = absurd (omega arith)

-- What the passes over rows and class numbers give.
module _ (w t : List ℕ) (limits : Limited w) (rows : rows_right w t ≡ true) (last : last_right w ≡ true) (rise : all_rise w ≡ true) where
  count_fits : (e c : ℕ) → e < get_or w 1 0 → c < 5 → T (leb (after w e c) (after w (suc e) c)) × T (leb (after w (suc e) c) (get_or w (3 + c) 0))
  unfolding rows_right row_right counts_rise
  count_fits e c l h =
      let row = T_and (counts_rise w e) (eqb (after w (suc e) 1) (get_or t (after w (suc e) 0) 0)) (all_below (row_right w t) (get_or w 1 0) (T_true (rows_right w t) rows) e l) in
      T_and (leb (after w e c) (after w (suc e) c)) (leb (after w (suc e) c) (get_or w (3 + c) 0)) (all_below (count_rises w e) 5 row.0 c h)

  rises : (e c : ℕ) → e < get_or w 1 0 → c < 5 → after w e c ≤ after w (suc e) c
  rises e c l h = leb→le (after w e c) (after w (suc e) c) (count_fits e c l h).0

  number_fits : (e i : ℕ) → e < get_or w 1 0 → after w e 3 ≤ i → i < after w (suc e) 3 → T (number_rises w e (after w e 3) i)
  unfolding all_rise numbers_rise
  number_fits e i l h m =
      all_at (number_rises w e (after w e 3)) (after w e 3) (after w (suc e) 3 - after w e 3)
      (all_below (numbers_rise w) (get_or w 1 0) (T_true (all_rise w) rise) e l) i h (omega arith)

  -- a class of entry e has a number of that entry
  abbrev f : ℕ → ℕ
  f i = number_of w i - 256

  number_of_lem : (e i : ℕ) → T (number_rises w e (after w e 3) i) → (256 + 2048 * e < number_of w i) × (number_of w i < 256 + 2048 * suc e)
  unfolding number_rises
  number_of_lem e i h =
      let a = T_and (is_function_up_to whole w [] e (f i) && eqb (f i / 2048) e) (eqb i (after w e 3) || ltb (number_of w (i - 1)) (number_of w i)) h in
      let b = T_and (is_function_up_to whole w [] e (f i)) (eqb (f i / 2048) e) a.0 in
      let d = T_and (leb (f i / 2048) e) (not (eqb (f i) (2048 * (f i / 2048)))) b.0 in
      go (eqb→eq (f i / 2048) e b.1) (λ q. T_not (eqb (f i) (2048 * (f i / 2048))) d.1 (subst T (sym (eq-eqb (f i) (2048 * (f i / 2048)) q)) tt))
    where
      go : f i / 2048 ≡ e → (f i ≡ 2048 * (f i / 2048) → ⊥) → (256 + 2048 * e < number_of w i) × (number_of w i < 256 + 2048 * suc e)
      go q g = above (ℕ-trichotomy (f i) (2048 * (f i / 2048))) q g
        where
          above : (f i < 2048 * (f i / 2048)) ⊎ ((f i ≡ 2048 * (f i / 2048)) ⊎ (2048 * (f i / 2048) < f i)) → f i / 2048 ≡ e → (f i ≡ 2048 * (f i / 2048) → ⊥)
              → (256 + 2048 * e < number_of w i) × (number_of w i < 256 + 2048 * suc e)
          above (inl r) q g = absurd (omega arith)
          above (inr (inl r)) q g = absurd (g r)
          above (inr (inr r)) q g = (omega arith, omega arith)

  number_after : (e i : ℕ) → after w e 3 ≤ i → T (number_rises w e (after w e 3) (suc i)) → number_of w i < number_of w (suc i)
  unfolding number_rises
  number_after e i l h =
      let k : suc i - 1 ≡ i = omega arith in
      let a = T_and (is_function_up_to whole w [] e (f (suc i)) && eqb (f (suc i) / 2048) e) (eqb (suc i) (after w e 3) || ltb (number_of w (suc i - 1)) (number_of w (suc i))) h in
      go (or_cases (eqb (suc i) (after w e 3)) (ltb (number_of w (suc i - 1)) (number_of w (suc i))) a.1) k
    where
      go : T (eqb (suc i) (after w e 3)) ⊎ T (ltb (number_of w (suc i - 1)) (number_of w (suc i))) → suc i - 1 ≡ i → number_of w i < number_of w (suc i)
      go (inl q) k = absurd (omega (arith, eqb→eq (suc i) (after w e 3) q))
      go (inr q) k = subst (λ (j : ℕ). number_of w j < number_of w (suc i)) k (ltb→lt (number_of w (suc i - 1)) (number_of w (suc i)) q)

  -- the numbers of the first e entries are below those of the next, and each is below its neighbour's
  abbrev Lower : ℕ → Type 0
  Lower e = ((i : ℕ) → i < after w e 3 → number_of w i < 256 + 2048 * e) × ((i : ℕ) → suc i < after w e 3 → number_of w i < number_of w (suc i))

  lower_all : (e : ℕ) → e ≤ get_or w 1 0 → Lower e
  lower_all zero l = (λ i h. absurd (omega arith), λ i h. absurd (omega arith))
  lower_all (suc e) l = let q = lower_all e (omega arith) in (λ i h. below q i h (ℕ-trichotomy i (after w e 3)), λ i h. next q i h (ℕ-trichotomy (suc i) (after w e 3)))
    where
      below : Lower e → (i : ℕ) → i < after w (suc e) 3 → (i < after w e 3) ⊎ ((i ≡ after w e 3) ⊎ (after w e 3 < i)) → number_of w i < 256 + 2048 * suc e
      below q i h (inl r) = omega (arith, q.0 i r)
      below q i h (inr (inl r)) = (number_of_lem e i (number_fits e i (omega arith) (omega arith) h)).1
      below q i h (inr (inr r)) = (number_of_lem e i (number_fits e i (omega arith) (omega arith) h)).1

      next : Lower e → (i : ℕ) → suc i < after w (suc e) 3 → (suc i < after w e 3) ⊎ ((suc i ≡ after w e 3) ⊎ (after w e 3 < suc i)) → number_of w i < number_of w (suc i)
      next q i h (inl r) = q.1 i r
      next q i h (inr (inl r)) = omega (arith, q.0 i (omega arith), (number_of_lem e (suc i) (number_fits e (suc i) (omega arith) (omega arith) h)).0)
      next q i h (inr (inr r)) = number_after e i (omega arith) (number_fits e (suc i) (omega arith) (omega arith) h)

  last_count : after w (get_or w 1 0) 3 ≡ get_or w 6 0
  unfolding last_right
  last_count =
      eqb→eq (after w (get_or w 1 0) 3) (get_or w 6 0) (all_below (λ c. eqb (after w (get_or w 1 0) c) (get_or w (3 + c) 0)) 5 (T_true (last_right w) last) 3 (omega arith))

  ascends : (i j : ℕ) → i < j → j < get_or w 6 0 → number_of w i < number_of w j
  ascends i zero l h = absurd (omega arith)
  ascends i (suc j) l h = go (ℕ-trichotomy i j) (λ r. ascends i j r (omega arith)) ((lower_all (get_or w 1 0) (omega arith)).1 j (omega (arith, last_count)))
    where
      go : (i < j) ⊎ ((i ≡ j) ⊎ (j < i)) → (i < j → number_of w i < number_of w j) → number_of w j < number_of w (suc j) → number_of w i < number_of w (suc j)
      go (inl r) g m = omega (arith, g r)
      go (inr (inl r)) g m = omega (arith, ap (number_of w) r)
      go (inr (inr r)) g m = absurd (omega arith)

  ordered : Ordered w
  ordered =
      record {
        limited = limits;
        risen = rises;
        below = λ e c l h. leb→le (after w (suc e) c) (get_or w (3 + c) 0) (count_fits e c l h).1;
        ascending = ascends;
      }

pub in_order : (w t : List ℕ) → Limited w → order_right w t ≡ true → Ordered w
unfolding order_right
in_order w t limits e =
    let a = T_and (rows_right w t) (last_right w && all_rise w) (T_true (order_right w t) e) in
    let b = T_and (last_right w) (all_rise w) a.1 in
    ordered w t limits (true_of (rows_right w t) a.0) (true_of (last_right w) b.0) (true_of (all_rise w) b.1)
