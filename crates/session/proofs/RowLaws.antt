-- A sheet is its rows, one after another.
use mathlib.Core.Path.{◌≡◌, refl, sym, ap, ◌∙◌}
use mathlib.Core.Bool.{Bool, true, false, ◌&&◌, true≢false}
use mathlib.Core.List.{List, [], ◌∷◌, ◌++◌}
use Prim.Native.Nat.{ℕ, zero, suc, ◌+◌, ◌*◌, ◌≤◌}
use native.Mathlib.Omega.{arith}
use lib.ListN.{length, get_or}
use lib.Dec.{eqb, leb}
use borrow.Author.Tests.{eqb-true, leb-true}
use Rattle.definition.specs.Basics.{concat_map, from}
use Rattle.definition.specs.Sheet.{Sheet, word, rows}
use Rattle.definition.specs.Outcome.{rows_fit}

abbrev pub row_of : Sheet → ℕ → List ℕ
row_of s r = word s r 0 ∷ word s r 1 ∷ word s r 2 ∷ word s r 3 ∷ word s r 4 ∷ word s r 5 ∷ word s r 6 ∷ word s r 7 ∷ []

-- past the first row
module _ (a b c d e f g h : ℕ) (t : List ℕ) where
  abbrev s : List ℕ
  s = a ∷ b ∷ c ∷ d ∷ e ∷ f ∷ g ∷ h ∷ t

  pub word_past : (r k : ℕ) → word s (suc r) k ≡ word t r k
  word_past r k =
      let q : 8 * suc r + k ≡ suc (suc (suc (suc (suc (suc (suc (suc (8 * r + k)))))))) = omega arith in
      ap (λ (j : ℕ). get_or s j 0) q

  rows_past : (i n : ℕ) → concat_map (row_of s) (from (suc i) n) ≡ concat_map (row_of t) (from i n)
  rows_past i zero = refl
  rows_past i (suc n) =
      rw (word_past i 0, word_past i 1, word_past i 2, word_past i 3, word_past i 4, word_past i 5, word_past i 6, word_past i 7)
      (ap (λ (l : List ℕ). row_of t i ++ l) (rows_past (suc i) n))

pub rows_whole : (n : ℕ) (s : List ℕ) → length s ≡ 8 * n → concat_map (row_of s) (from 0 n) ≡ s
rows_whole zero [] e = refl
rows_whole zero (x ∷ s) e = absurd (omega arith)
rows_whole (suc n) [] e = absurd (omega arith)
rows_whole (suc n) (a ∷ []) e = absurd (omega arith)
rows_whole (suc n) (a ∷ b ∷ []) e = absurd (omega arith)
rows_whole (suc n) (a ∷ b ∷ c ∷ []) e = absurd (omega arith)
rows_whole (suc n) (a ∷ b ∷ c ∷ d ∷ []) e = absurd (omega arith)
rows_whole (suc n) (a ∷ b ∷ c ∷ d ∷ f ∷ []) e = absurd (omega arith)
rows_whole (suc n) (a ∷ b ∷ c ∷ d ∷ f ∷ g ∷ []) e = absurd (omega arith)
rows_whole (suc n) (a ∷ b ∷ c ∷ d ∷ f ∷ g ∷ h ∷ []) e = absurd (omega arith)
rows_whole (suc n) (a ∷ b ∷ c ∷ d ∷ f ∷ g ∷ h ∷ i ∷ t) e =
    ap (λ (l : List ℕ). a ∷ b ∷ c ∷ d ∷ f ∷ g ∷ h ∷ i ∷ l) (rows_past a b c d f g h i t 0 n ∙ rows_whole n t (omega arith))

and_first : (a b : Bool) → (a && b) ≡ true → a ≡ true
and_first true b e = refl
and_first false b e = e

and_last : (a b : Bool) → (a && b) ≡ true → b ≡ true
and_last true b e = e
and_last false b e = absurd (true≢false (sym e))

-- the words of a sheet past question 1 are whole rows
pub whole_rows : (s : Sheet) → rows_fit s ≡ true → length s ≡ 8 * rows s
whole_rows s e =
    let t : eqb (8 * rows s) (length s) ≡ true =
    and_first (eqb (8 * rows s) (length s)) (leb 1 (rows s)) (and_first (eqb (8 * rows s) (length s) && leb 1 (rows s)) (leb (rows s) 2048) e) in
    sym (eqb-true (8 * rows s) (length s) t)

-- of which there is one at least, and no more than 2,048
pub whole_some : (s : Sheet) → rows_fit s ≡ true → 1 ≤ rows s
whole_some s e = leb-true 1 (rows s) (and_last (eqb (8 * rows s) (length s)) (leb 1 (rows s)) (and_first (eqb (8 * rows s) (length s) && leb 1 (rows s)) (leb (rows s) 2048) e))

pub whole_few : (s : Sheet) → rows_fit s ≡ true → rows s ≤ 2048
whole_few s e = leb-true (rows s) 2048 (and_last (eqb (8 * rows s) (length s) && leb 1 (rows s)) (leb (rows s) 2048) e)
