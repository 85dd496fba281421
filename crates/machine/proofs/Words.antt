-- Words stored in lists.
use mathlib.Core.Path.{◌≡◌, refl, ap, ◌∙◌}
use mathlib.Core.Logic.{◌⊎◌, inl, inr}
use mathlib.Core.List.{List, [], ◌∷◌, ◌++◌}
use Prim.Native.Nat.{ℕ, zero, suc, ◌+◌, ◌<◌, ◌≤◌}
use native.Mathlib.Omega.{arith}
use lib.ListN.{length, get_or, set, length-set}
use lib.Seq.{sets, get_or-set_same, get_or-set_other}

-- a run of words in two parts
pub sets_more : (w : List ℕ) (p : ℕ) (xs ys : List ℕ) {q : ℕ} → q ≡ p + length xs → sets w p (xs ++ ys) ≡ sets (sets w p xs) q ys
sets_more w p [] ys e = ap (λ (k : ℕ). sets w k ys) (omega arith)
sets_more w p (x ∷ xs) ys e = sets_more (set w p x) (suc p) xs ys (omega arith)

-- words outside the stored run stay
pub sets_out : (vs l : List ℕ) (i j : ℕ) → (j < i) ⊎ (i + length vs ≤ j) → get_or (sets l i vs) j 0 ≡ get_or l j 0
sets_out [] l i j h = refl
sets_out (x ∷ vs) l i j (inl h) = sets_out vs (set l i x) (suc i) j (inl (omega arith)) ∙ get_or-set_other l i j x 0 (λ e. omega arith)
sets_out (x ∷ vs) l i j (inr h) = sets_out vs (set l i x) (suc i) j (inr (omega arith)) ∙ get_or-set_other l i j x 0 (λ e. omega arith)

-- words of the stored run
pub sets_in : (vs l : List ℕ) (i c : ℕ) → c < length vs → i + length vs ≤ length l → get_or (sets l i vs) (i + c) 0 ≡ get_or vs c 0
sets_in [] l i c h r = absurd (omega arith)
sets_in (x ∷ vs) l i zero h r =
    ap (λ (k : ℕ). get_or (sets (set l i x) (suc i) vs) k 0) (omega arith)
    ∙ sets_out vs (set l i x) (suc i) i (inl (omega arith)) ∙ get_or-set_same l i x 0 (omega arith)
sets_in (x ∷ vs) l i (suc c) h r =
    ap (λ (k : ℕ). get_or (sets (set l i x) (suc i) vs) k 0) (omega arith)
    ∙ sets_in vs (set l i x) (suc i) c (omega arith) (omega (arith, length-set l i x))
