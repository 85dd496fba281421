-- Lists stored as words: rows of the same width one after another.
use mathlib.Core.Path.{◌≡◌, refl, ap, ◌∙◌}
use mathlib.Core.List.{List, [], ◌∷◌, ◌++◌, map}
use Prim.Native.Nat.{ℕ, zero, suc, ◌+◌, ◌*◌, ◌<◌}
use native.Mathlib.Omega.{arith}
use native.Mathlib.Nat.{mul-suc}
use lib.ListN.{length, get_or, length-append, get_or-append}
use lib.Seq.{get_or-append-add}
use Rattle.definition.specs.Basics.{from, concat_map}

module _ {A : Type 0} (f : A → List ℕ) (m : ℕ) (wide : (x : A) → length (f x) ≡ m) where
  -- rows of m words
  pub rows_length : (xs : List A) → length (concat_map f xs) ≡ m * length xs
  rows_length [] = omega arith
  rows_length (x ∷ xs) = omega (arith, length-append (f x) (concat_map f xs), wide x, rows_length xs, mul-suc m (length xs))

  pub row_word : (d : A) (xs : List A) (j k : ℕ) → j < length xs → k < m → get_or (concat_map f xs) (m * j + k) 0 ≡ get_or (f (get_or xs j d)) k 0
  row_word d [] j k l h = absurd (omega arith)
  row_word d (x ∷ xs) zero k l h =
      ap (λ (i : ℕ). get_or (f x ++ concat_map f xs) i 0) (omega arith) ∙ get_or-append (f x) (concat_map f xs) 0 k (omega (arith, wide x))
  row_word d (x ∷ xs) (suc j) k l h =
      let q : m * suc j + k ≡ length (f x) + (m * j + k) = omega (arith, wide x, mul-suc m j) in
      ap (λ (i : ℕ). get_or (f x ++ concat_map f xs) i 0) q ∙ get_or-append-add (f x) (concat_map f xs) (m * j + k) 0 ∙ row_word d xs j k (omega arith) h

module _ {A : Type 0} where
  -- a list by its places from i on
  pub run_back : (f : ℕ → A) (d : A) (i : ℕ) (xs : List A) → ((j : ℕ) → j < length xs → f (i + j) ≡ get_or xs j d) → map f (from i (length xs)) ≡ xs
  run_back f d i [] h = refl
  run_back f d i (x ∷ xs) h =
      let z : i ≡ i + 0 = omega arith in
      ap (λ (y : A). y ∷ map f (from (suc i) (length xs))) (ap f z ∙ h 0 (omega arith))
      ∙ ap (λ (l : List A). x ∷ l)
      (run_back f d (suc i) xs (λ j l. let q : suc i + j ≡ i + suc j = omega arith in ap f q ∙ h (suc j) (omega arith)))
