-- A table written into a lent list place by place. Assumes nothing.
use mathlib.Core.Path.{◌≡◌, refl, sym, ap, ◌∙◌}
use mathlib.Core.List.{List, [], ◌∷◌, ◌++◌, append-nil}
use Prim.Native.Nat.{ℕ, zero, suc, ◌+◌, ◌-◌, ◌*◌, ◌<◌, ◌≤◌}
use native.Mathlib.Nat.{le_of_suc-le-suc, suc-mul, mul-le-mul_right}
use native.Mathlib.Numerals.{add-one}
use native.Mathlib.Omega.{arith}
use lib.ListN.{length, get_or, set, take, drop, replicate, length-drop, drop_of_length-le}
use lib.Seq.{take_all, take_at}
use borrow.Rule.Slice.PartMut.{put_mid}
use Rattle.columns.specs.Columns.{table}
use Rattle.columns.proofs.TableLaws.{place_below, table_length, table_read}

-- d with its first n words replaced by those of f
abbrev pub copied : ℕ → List ℕ → List ℕ → List ℕ
copied n f d = take n f ++ drop n d

-- one store more
copied_suc : (n : ℕ) (f d : List ℕ) → n < length f → length f ≤ length d
    → set (copied n f d) n (get_or f n 0) ≡ copied (suc n) f d
copied_suc n [] d l h = absurd (omega arith)
copied_suc n (x ∷ f) [] l h = absurd (omega arith)
copied_suc zero (x ∷ f) (y ∷ d) l h = refl
copied_suc (suc n) (x ∷ f) (y ∷ d) l h = ap (λ (t : List ℕ). x ∷ t) (copied_suc n f d (le_of_suc-le-suc l) (le_of_suc-le-suc h))

-- more words over fewer
copied_over : (n k : ℕ) (f d : List ℕ) → n ≤ k → k ≤ length f → length f ≤ length d → copied k f (copied n f d) ≡ copied k f d
copied_over zero k f d h l g = refl
copied_over (suc n) zero f d h l g = absurd (omega arith)
copied_over (suc n) (suc k) [] d h l g = absurd (omega arith)
copied_over (suc n) (suc k) (x ∷ f) [] h l g = absurd (omega arith)
copied_over (suc n) (suc k) (x ∷ f) (y ∷ d) h l g =
    ap (λ (t : List ℕ). x ∷ t) (copied_over n k f d (le_of_suc-le-suc h) (le_of_suc-le-suc l) (le_of_suc-le-suc g))

module _ (m n : ℕ) (f : ℕ → ℕ → ℕ) (d : List ℕ) (room : m * n ≤ length d) where
  -- before the first word of row i, where the rows before it are written
  pub row_begun : (i : ℕ) (u : List ℕ) → i < m → u ≡ copied (i * n) (table m n f) d → u ≡ copied (i * n + 0) (table m n f) u
  row_begun i u h e =
      let same : i * n ≡ i * n + 0 = omega arith in
      let end : i * n ≤ m * n = omega (arith, suc-mul i n, mul-le-mul_right {m = suc i} {n = m} n h) in
      e
      ∙ sym (copied_over (i * n) (i * n) (table m n f) d (omega arith) (omega (arith, table_length m n f)) (omega (arith, table_length m n f)))
      ∙ ap (copied (i * n) (table m n f)) (sym e)
      ∙ ap (λ (k : ℕ). copied k (table m n f) u) same

  -- the word of row i and column j, at its place p
  pub place_written : (i j p x : ℕ) (t : List ℕ) → i < m → j < n → p ≡ i * n + j → t ≡ copied (i * n + j) (table m n f) d → x ≡ f i j
      → set t p x ≡ copied (i * n + (j + 1)) (table m n f) d
  place_written i j p x t h l at e v =
      let next : suc (i * n + j) ≡ i * n + (j + 1) = omega arith in
      ap (λ (k : ℕ). set t k x) at
      ∙ ap (λ (w : List ℕ). set w (i * n + j) x) e
      ∙ ap (set (copied (i * n + j) (table m n f) d) (i * n + j)) (v ∙ sym (table_read m n f i j h l))
      ∙ copied_suc (i * n + j) (table m n f) d (omega (arith, place_below m n i j h l, table_length m n f)) (omega (arith, table_length m n f))
      ∙ ap (λ (k : ℕ). copied k (table m n f) d) next

  -- row i, over the rows before it
  pub row_written_lem : (i j : ℕ) (t u : List ℕ) → i < m → n ≤ j → j ≤ n → u ≡ copied (i * n) (table m n f) d
      → t ≡ copied (i * n + j) (table m n f) u → t ≡ copied ((i + 1) * n) (table m n f) d
  row_written_lem i j t u h g l e r =
      let same : i * n + j ≡ (i + 1) * n = omega (arith, suc-mul i n, ap (λ (k : ℕ). k * n) (add-one i)) in
      let end : i * n + j ≤ m * n = omega (arith, suc-mul i n, mul-le-mul_right {m = suc i} {n = m} n h) in
      r ∙ ap (copied (i * n + j) (table m n f)) e
      ∙ copied_over (i * n) (i * n + j) (table m n f) d (omega arith) (omega (arith, table_length m n f)) (omega (arith, table_length m n f))
      ∙ ap (λ (k : ℕ). copied k (table m n f) d) same

  -- all rows
  pub table_written : (i : ℕ) (t : List ℕ) → m ≤ i → i ≤ m → t ≡ copied (i * n) (table m n f) d → t ≡ table m n f ++ drop (m * n) d
  table_written i t g l e =
      let same : i ≡ m = omega arith in
      e ∙ ap (λ (k : ℕ). copied (k * n) (table m n f) d) same
      ∙ ap (λ (w : List ℕ). w ++ drop (m * n) d) (take_all (m * n) (table m n f) (omega (arith, table_length m n f)))

-- words cleared from a place on
pub cleared_after : (i : ℕ) (w z : List ℕ) → i ≤ length w → z ≡ replicate (length (take (length w - i) (drop i w))) 0
    → put_mid i (length w - i) w z ≡ take i w ++ replicate (length w - i) 0
cleared_after i w z l e =
    ap (λ (v : List ℕ). take i w ++ (z ++ v)) rest ∙ ap (λ (v : List ℕ). take i w ++ v) (append-nil z ∙ e ∙ ap (λ (k : ℕ). replicate k 0) size)
  where
    rest : drop (length w - i) (drop i w) ≡ []
    rest = drop_of_length-le (drop i w) {i = length w - i} (omega (arith, length-drop i w))

    size : length (take (length w - i) (drop i w)) ≡ length w - i
    size = ap length (take_all (length w - i) (drop i w) (omega (arith, length-drop i w))) ∙ length-drop i w

-- so are those after the words f, in a list w as long as d
pub rest_cleared : (n : ℕ) (f d w u : List ℕ) → length f ≡ n → length w ≡ length d → w ≡ f ++ drop n d
    → u ≡ take n w ++ replicate (length w - n) 0 → u ≡ f ++ replicate (length d - n) 0
rest_cleared n f d w u e l h g =
    g ∙ ap (λ (k : ℕ). take n w ++ replicate (k - n) 0) l
    ∙ ap (λ (v : List ℕ). v ++ replicate (length d - n) 0) (ap (take n) h ∙ take_at f (drop n d) n e)
