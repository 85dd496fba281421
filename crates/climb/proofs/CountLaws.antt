-- How many classes a climb has yet to mark.
use mathlib.Core.Path.{◌≡◌, refl, sym, ap, ◌∙◌}
use mathlib.Core.Bool.{Bool, true, false}
use mathlib.Core.List.{List}
use Prim.Native.Nat.{ℕ, zero, suc, ◌+◌, ◌<◌, ◌≤◌}
use native.Mathlib.Omega.{arith}
use lib.Dec.{eqb}
use lib.ListN.{length, get_or, set}
use lib.Seq.{get_or-set_same, get_or-set_other}
use borrow.Author.Tests.{eq-eqb, ne_eqb, eqb-true, eqb-false}
use Rattle.definition.specs.Basics.{bit}

-- how many of the first n classes have no mark
unfoldable pub unmarked : List ℕ → ℕ → ℕ
unmarked m zero = 0
unmarked m (suc n) = bit (eqb (get_or m n 0) 0) + unmarked m n

module _ (m : List ℕ) where
  pub unmarked_most : (n : ℕ) → unmarked m n ≤ n
  unfolding unmarked
  unmarked_most zero = omega arith
  unmarked_most (suc n) = go (eqb (get_or m n 0) 0) (unmarked_most n)
    where
      go : (t : Bool) → unmarked m n ≤ n → bit t + unmarked m n ≤ suc n
      go true l = omega arith
      go false l = omega arith

  -- class i, without a mark, gets the mark k
  module _ (i k : ℕ) (z : k ≡ 0 → ⊥) where
    before : (n : ℕ) → n ≤ i → unmarked (set m i k) n ≡ unmarked m n
    unfolding unmarked
    before zero l = refl
    before (suc n) l =
        ap (λ (x : ℕ). bit (eqb x 0) + unmarked (set m i k) n) (get_or-set_other m i n k 0 (λ e. omega arith))
        ∙ ap (λ (x : ℕ). bit (eqb (get_or m n 0) 0) + x) (before n (omega arith))

    pub unmarked_less : i < length m → get_or m i 0 ≡ 0 → (n : ℕ) → i < n → suc (unmarked (set m i k) n) ≡ unmarked m n
    unfolding unmarked
    unmarked_less l f zero b = absurd (omega arith)
    unmarked_less l f (suc n) b = go (eqb n i) refl (unmarked_less l f n)
      where
        go : (t : Bool) → eqb n i ≡ t → (i < n → suc (unmarked (set m i k) n) ≡ unmarked m n)
            → suc (bit (eqb (get_or (set m i k) n 0) 0) + unmarked (set m i k) n) ≡ bit (eqb (get_or m n 0) 0) + unmarked m n
        go true e h =
            let x : n ≡ i = eqb-true n i e in
            let marked : get_or (set m i k) n 0 ≡ k = ap (λ (j : ℕ). get_or (set m i k) j 0) x ∙ get_or-set_same m i k 0 l in
            let free : get_or m n 0 ≡ 0 = ap (λ (j : ℕ). get_or m j 0) x ∙ f in
            omega (
              arith,
              ap bit (ne_eqb (get_or (set m i k) n 0) 0 (λ y. z (sym marked ∙ y))),
              ap bit (eq-eqb (get_or m n 0) 0 free),
              before n (omega arith),
            )
        go false e h =
            let x : n ≡ i → ⊥ = eqb-false n i e in
            let g : suc (unmarked (set m i k) n) ≡ unmarked m n = h (omega arith) in
            let d : get_or (set m i k) n 0 ≡ get_or m n 0 = get_or-set_other m i n k 0 x in
            omega (arith, ap (λ (j : ℕ). bit (eqb j 0)) d, g)
