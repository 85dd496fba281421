-- Runs of numbers, and how many pass a test.
use mathlib.Core.Path.{◌≡◌, refl, sym, ap, ◌∙◌}
use mathlib.Core.Logic.{◌⊎◌, inl, inr}
use mathlib.Core.List.{List, [], ◌∷◌}
use mathlib.Core.Bool.{Bool, true, false, not}
use Prim.Native.Nat.{ℕ, zero, suc, ◌+◌, ◌*◌, ◌<◌, ◌≤◌}
use native.Mathlib.Omega.{arith}
use native.Mathlib.Nat.{zero-add, add-zero}
use lib.ListN.{length, get_or}
use lib.Dec.{eqb, T, T_not, eqb→eq}
use Rattle.definition.specs.Basics.{any, all, count, unlike, first, concat_map, from, bit, ◌∈?◌}
use Rattle.definition.proofs.Lists.Tests.{T_and, or_cases, or_left, or_right, T_true, eqb_of}
use Rattle.definition.proofs.Lists.Members.{first_found, count_some, count_same, from_mem, mem_from}

-- what holds of all numbers below n holds of each
all_from : (p : ℕ → Bool) (k m : ℕ) → T (all p (from k m)) → (i : ℕ) → i < m → T (p (k + i))
all_from p k zero h i l = absurd (omega arith)
all_from p k (suc m) h zero l = rw add-zero (T_and (p k) (all p (from (suc k) m)) h).0
all_from p k (suc m) h (suc i) l =
    let e : suc k + i ≡ k + suc i = omega arith in
    rw (← e) (all_from p (suc k) m (T_and (p k) (all p (from (suc k) m)) h).1 i (omega arith))

pub all_below : (p : ℕ → Bool) (n : ℕ) → T (all p (from 0 n)) → (i : ℕ) → i < n → T (p i)
all_below p n h i l = rw zero-add at (all_from p 0 n h i l)

-- some number below n passes, so the first that passes does, and is below n
pub first_below : (p : ℕ → Bool) (d n : ℕ) (i : ℕ) → i < n → T (p i) → T (p (first p d (from 0 n))) × (first p d (from 0 n) < n)
first_below p d n i l h =
    let r = first_found p d i (from 0 n) h (mem_from i 0 n (omega arith) (omega arith)) in
    (r.0, omega (arith, from_mem (first p d (from 0 n)) 0 n r.1))

-- members, by the test
pub in_head : (n x : ℕ) (xs : List ℕ) → n ≡ x → T (n ∈? (x ∷ xs))
in_head n x xs e = or_left (eqb n x) (n ∈? xs) (eqb_of n x e)

pub in_tail : (n x : ℕ) (xs : List ℕ) → T (n ∈? xs) → T (n ∈? (x ∷ xs))
in_tail n x xs h = or_right (eqb n x) (n ∈? xs) h

pub in_cases : (n x : ℕ) (xs : List ℕ) → T (n ∈? (x ∷ xs)) → (n ≡ x) ⊎ T (n ∈? xs)
in_cases n x xs h = go (or_cases (eqb n x) (n ∈? xs) h)
  where
    go : T (eqb n x) ⊎ T (n ∈? xs) → (n ≡ x) ⊎ T (n ∈? xs)
    go (inl t) = inl (eqb→eq n x t)
    go (inr t) = inr t

-- counting
module _ (p : ℕ → Bool) where
  count_step : (x : ℕ) (xs : List ℕ) → (T (p x) → count p (x ∷ xs) ≡ suc (count p xs)) × (count p xs ≤ count p (x ∷ xs))
  count_step x xs = go (p x)
    where
      go : (t : Bool) → (T t → bit t + count p xs ≡ suc (count p xs)) × (count p xs ≤ bit t + count p xs)
      go true = (λ h. omega arith, omega arith)
      go false = (λ h. absurd h, omega arith)

  -- one place that passes, counted
  pub count_one : (xs : List ℕ) (i : ℕ) → i < length xs → T (p (get_or xs i 0)) → 1 ≤ count p xs
  count_one [] i l h = absurd (omega arith)
  count_one (x ∷ xs) zero l h = omega (arith, (count_step x xs).0 h)
  count_one (x ∷ xs) (suc i) l h = omega (arith, count_one xs i (omega arith) h, (count_step x xs).1)

  -- two places that pass
  pub count_two : (xs : List ℕ) (i j : ℕ) → i < j → j < length xs → T (p (get_or xs i 0)) → T (p (get_or xs j 0)) → 2 ≤ count p xs
  count_two [] i j l m h k = absurd (omega arith)
  count_two (x ∷ xs) i zero l m h k = absurd (omega arith)
  count_two (x ∷ xs) zero (suc j) l m h k = omega (arith, count_one xs j (omega arith) k, (count_step x xs).0 h)
  count_two (x ∷ xs) (suc i) (suc j) l m h k = omega (arith, count_two xs i j (omega arith) (omega arith) h k, (count_step x xs).1)

  -- where something is counted there is a place
  pub count_place : (xs : List ℕ) → 1 ≤ count p xs → (i : ℕ) × (i < length xs) × T (p (get_or xs i 0))
  count_place [] l = absurd (omega arith)
  count_place (x ∷ xs) l = go (count_place xs) (p x) refl l
    where
      go : (1 ≤ count p xs → (i : ℕ) × (i < length xs) × T (p (get_or xs i 0)))
          → (t : Bool) → p x ≡ t → 1 ≤ bit t + count p xs → (i : ℕ) × (i < suc (length xs)) × T (p (get_or (x ∷ xs) i 0))
      go f true e l = (zero, omega arith, T_true (p x) e)
      go f false e l =
          let r = f (omega arith) in
          (suc r.0, omega (arith, r.1), r.2)

-- two numbers for each of a run of numbers
module _ (f g : ℕ → ℕ) where
  pub pairs_length : (k m : ℕ) → length (concat_map (λ r. f r ∷ g r ∷ []) (from k m)) ≡ 2 * m
  pairs_length k zero = refl
  pairs_length k (suc m) =
      let e = pairs_length (suc k) m in
      omega (arith, e)

  pairs_even : (k m i : ℕ) → i < m → get_or (concat_map (λ r. f r ∷ g r ∷ []) (from k m)) (2 * i) 0 ≡ f (k + i)
  pairs_even k zero i l = absurd (omega arith)
  pairs_even k (suc m) zero l = rw add-zero refl
  pairs_even k (suc m) (suc i) l =
      let e : 2 * suc i ≡ suc (suc (2 * i)) = omega arith in
      let q : k + suc i ≡ suc k + i = omega arith in
      rw (e, q) (pairs_even (suc k) m i (omega arith))

  pairs_odd : (k m i : ℕ) → i < m → get_or (concat_map (λ r. f r ∷ g r ∷ []) (from k m)) (suc (2 * i)) 0 ≡ g (k + i)
  pairs_odd k zero i l = absurd (omega arith)
  pairs_odd k (suc m) zero l = rw add-zero refl
  pairs_odd k (suc m) (suc i) l =
      let e : 2 * suc i ≡ suc (suc (2 * i)) = omega arith in
      let q : k + suc i ≡ suc k + i = omega arith in
      rw (e, q) (pairs_odd (suc k) m i (omega arith))

  pub pairs_first : (m i : ℕ) → i < m → get_or (concat_map (λ r. f r ∷ g r ∷ []) (from 0 m)) (2 * i) 0 ≡ f i
  pairs_first m i l = pairs_even 0 m i l ∙ ap f (zero-add i)

  pub pairs_second : (m i : ℕ) → i < m → get_or (concat_map (λ r. f r ∷ g r ∷ []) (from 0 m)) (suc (2 * i)) 0 ≡ g i
  pairs_second m i l = pairs_odd 0 m i l ∙ ap g (zero-add i)

-- numbers below n that are counted once: there is one, and no other
pub once_some : (p : ℕ → Bool) (n : ℕ) → count p (from 0 n) ≡ 1 → (i : ℕ) × (i < n) × T (p i)
once_some p n e =
    let c = count_some p (from 0 n) (omega (arith, e)) in
    (c.0, omega (arith, from_mem c.0 0 n c.1), c.2)

pub once_only : (p : ℕ → Bool) (n : ℕ) → count p (from 0 n) ≡ 1 → (i j : ℕ) → i < n → j < n → T (p i) → T (p j) → i ≡ j
once_only p n e i j li lj hi hj =
    count_same p i j (from 0 n) hi hj (mem_from i 0 n (omega arith) (omega arith)) (mem_from j 0 n (omega arith) (omega arith)) (omega (arith, e))

-- unlike numbers: two places that hold one number are one place
any_at : (x : ℕ) (xs : List ℕ) (j : ℕ) → j < length xs → x ≡ get_or xs j 0 → T (any (eqb x) xs)
any_at x [] j l e = absurd (omega arith)
any_at x (y ∷ ys) zero l e = or_left (eqb x y) (any (eqb x) ys) (eqb_of x y e)
any_at x (y ∷ ys) (suc j) l e = or_right (eqb x y) (any (eqb x) ys) (any_at x ys j (omega arith) e)

pub unlike_apart : (xs : List ℕ) → T (unlike eqb xs) → (i j : ℕ) → i < length xs → j < length xs → get_or xs i 0 ≡ get_or xs j 0 → i ≡ j
unlike_apart [] h i j li lj e = absurd (omega arith)
unlike_apart (x ∷ xs) h zero zero li lj e = refl
unlike_apart (x ∷ xs) h zero (suc j) li lj e =
    absurd (T_not (any (eqb x) xs) (T_and (not (any (eqb x) xs)) (unlike eqb xs) h).0 (any_at x xs j (omega arith) e))
unlike_apart (x ∷ xs) h (suc i) zero li lj e =
    absurd (T_not (any (eqb x) xs) (T_and (not (any (eqb x) xs)) (unlike eqb xs) h).0 (any_at x xs i (omega arith) (sym e)))
unlike_apart (x ∷ xs) h (suc i) (suc j) li lj e = ap suc (unlike_apart xs (T_and (not (any (eqb x) xs)) (unlike eqb xs) h).1 i j (omega arith) (omega arith) e)
