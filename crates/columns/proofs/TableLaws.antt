-- Tables of numbers, place by place. Assumes nothing.
use mathlib.Core.Path.{◌≡◌, refl, sym, ap, ◌∙◌}
use mathlib.Core.List.{List, ◌++◌, map}
use Prim.Native.Nat.{ℕ, zero, suc, ◌+◌, ◌*◌, ◌/◌, ◌%◌, ◌<◌}
use native.Mathlib.Nat.{suc-mul, mod-lt, div-add-mod', mul-le-mul_right, lt_of_mul-lt-mul_right}
use native.Mathlib.Omega.{arith}
use lib.ListN.{length, get_or, length-append, get_or-append}
use lib.Seq.{get_or-append-add, ext_get_or}
use Rattle.definition.specs.Basics.{concat_map, from}
use Rattle.columns.specs.Columns.{table}

-- a place of a table lies before its end
pub place_below : (m n i j : ℕ) → i < m → j < n → i * n + j < m * n
place_below m n i j h l = omega (arith, suc-mul i n, mul-le-mul_right {m = suc i} {n = m} n h)

module _ (g : ℕ → ℕ) where
  row_length : (k n : ℕ) → length (map g (from k n)) ≡ n
  row_length k zero = refl
  row_length k (suc n) = ap suc (row_length (suc k) n)

  row_read : (k n j : ℕ) → j < n → get_or (map g (from k n)) j 0 ≡ g (k + j)
  row_read k zero j l = absurd (omega arith)
  row_read k (suc n) zero l =
      let e : k ≡ k + zero = omega arith in
      ap g e
  row_read k (suc n) (suc j) l =
      let e : suc k + j ≡ k + suc j = omega arith in
      row_read (suc k) n j (omega arith) ∙ ap g e

module _ (n : ℕ) (f : ℕ → ℕ → ℕ) where
  -- the rows of a table from row k on
  abbrev rows_from : ℕ → ℕ → List ℕ
  rows_from k m = concat_map (λ i. map (f i) (from 0 n)) (from k m)

  rows_length : (k m : ℕ) → length (rows_from k m) ≡ m * n
  rows_length k zero = omega arith
  rows_length k (suc m) =
      length-append (map (f k) (from 0 n)) (rows_from (suc k) m)
      ∙ omega (arith, row_length (f k) 0 n, rows_length (suc k) m, suc-mul m n)

  rows_read : (k m i j : ℕ) → i < m → j < n → get_or (rows_from k m) (i * n + j) 0 ≡ f (k + i) j
  rows_read k zero i j h l = absurd (omega arith)
  rows_read k (suc m) zero j h l =
      let row : List ℕ = map (f k) (from 0 n) in
      let at : zero * n + j ≡ j = omega arith in
      let e : 0 + j ≡ j = omega arith in
      let k0 : k ≡ k + zero = omega arith in
      ap (λ (p : ℕ). get_or (row ++ rows_from (suc k) m) p 0) at
      ∙ get_or-append row (rows_from (suc k) m) 0 j (omega (arith, row_length (f k) 0 n))
      ∙ row_read (f k) 0 n j l ∙ ap (f k) e ∙ ap (λ (x : ℕ). f x j) k0
  rows_read k (suc m) (suc i) j h l =
      let row : List ℕ = map (f k) (from 0 n) in
      let at : suc i * n + j ≡ length row + (i * n + j) = omega (arith, row_length (f k) 0 n, suc-mul i n) in
      let e : suc k + i ≡ k + suc i = omega arith in
      ap (λ (p : ℕ). get_or (row ++ rows_from (suc k) m) p 0) at
      ∙ get_or-append-add row (rows_from (suc k) m) (i * n + j) 0
      ∙ rows_read (suc k) m i j (omega arith) l ∙ ap (λ (x : ℕ). f x j) e

pub table_length : (m n : ℕ) (f : ℕ → ℕ → ℕ) → length (table m n f) ≡ m * n
unfolding table
table_length m n f = rows_length n f 0 m

-- what a table holds at a place
pub table_read : (m n : ℕ) (f : ℕ → ℕ → ℕ) (i j : ℕ) → i < m → j < n → get_or (table m n f) (i * n + j) 0 ≡ f i j
unfolding table
table_read m n f i j h l =
    let e : 0 + i ≡ i = omega arith in
    rows_read n f 0 m i j h l ∙ ap (λ (x : ℕ). f x j) e

-- a list that holds the same as a table at each place is that table
pub table_of : (m n : ℕ) (f : ℕ → ℕ → ℕ) (s : List ℕ) → length s ≡ m * n
    → ((i j : ℕ) → i < m → j < n → f i j ≡ get_or s (i * n + j) 0) → table m n f ≡ s
table_of m zero f s e h = ext_get_or 0 (table m zero f) s (table_length m zero f ∙ sym e) (λ k l. absurd (omega (arith, table_length m zero f, l)))
table_of m (suc n) f s e h = ext_get_or 0 (table m (suc n) f) s (table_length m (suc n) f ∙ sym e) at
  where
    at : (k : ℕ) → k < length (table m (suc n) f) → get_or (table m (suc n) f) k 0 ≡ get_or s k 0
    at k l =
        let i : ℕ = k / suc n in
        let j : ℕ = k % suc n in
        let place : i * suc n + j ≡ k = div-add-mod' k (suc n) in
        let in_row : j < suc n = mod-lt k (omega arith) in
        let below : i * suc n < m * suc n = omega (arith, place, l, table_length m (suc n) f) in
        let in_table : i < m = lt_of_mul-lt-mul_right (suc n) below in
        ap (λ (p : ℕ). get_or (table m (suc n) f) p 0) (sym place)
        ∙ table_read m (suc n) f i j in_table in_row ∙ h i j in_table in_row ∙ ap (λ (p : ℕ). get_or s p 0) place
