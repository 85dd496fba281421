-- Words copied one after another into a lent list. Assumes nothing.
use mathlib.Core.Path.{◌≡◌, refl, sym, ap, ◌∙◌}
use mathlib.Core.List.{List, [], ◌∷◌, ◌++◌, append-nil}
use Prim.Native.Nat.{ℕ, zero, suc, ◌+◌, ◌<◌, ◌≤◌}
use native.Mathlib.Nat.{le_of_suc-le-suc}
use native.Mathlib.Numerals.{add-one}
use native.Mathlib.Omega.{arith}
use lib.ListN.{length, get_or, set, take, drop, replicate, length-take, length-append, length-replicate, drop_of_length-le}
use lib.Seq.{get_or-take, take_all}
use Rattle.report.specs.Report.{fitted}

-- one store more
copied_suc : (n : ℕ) (f d : List ℕ) → length f ≡ length d → n < length d
    → set (take n f ++ drop n d) n (get_or f n 0) ≡ take (suc n) f ++ drop (suc n) d
copied_suc n f [] e l = absurd (omega arith)
copied_suc n [] (x ∷ d) e l = absurd (omega arith)
copied_suc zero (y ∷ f) (x ∷ d) e l = refl
copied_suc (suc n) (y ∷ f) (x ∷ d) e l = ap (λ (t : List ℕ). y ∷ t) (copied_suc n f d (omega arith) (le_of_suc-le-suc l))

zeros_read : (n i : ℕ) → ◌≡◌ {A = ℕ} (get_or (replicate n 0) i 0) 0
zeros_read zero i = refl
zeros_read (suc n) zero = refl
zeros_read (suc n) (suc i) = zeros_read n i

padded_read : (ws : List ℕ) (n i : ℕ) → get_or (ws ++ replicate n 0) i 0 ≡ get_or ws i 0
padded_read [] n i = zeros_read n i
padded_read (x ∷ ws) n zero = refl
padded_read (x ∷ ws) n (suc i) = padded_read ws n i

pub fitted_length : (n : ℕ) (ws : List ℕ) → length (fitted n ws) ≡ n
unfolding fitted
fitted_length n ws = simp (length-take, length-append, length-replicate) (omega arith)

fitted_read : (n : ℕ) (ws : List ℕ) (i : ℕ) → i < n → get_or (fitted n ws) i 0 ≡ get_or ws i 0
unfolding fitted
fitted_read n ws i l = get_or-take n (ws ++ replicate n 0) i 0 l ∙ padded_read ws n i

-- the loop: i words written, one more, and all
pub fit_more : (ws d now : List ℕ) (i x : ℕ) → now ≡ take i (fitted (length d) ws) ++ drop i d → x ≡ get_or ws i 0 → i < length d
    → set now i x ≡ take (i + 1) (fitted (length d) ws) ++ drop (i + 1) d
fit_more ws d now i x e v l =
    let f : List ℕ = fitted (length d) ws in
    ap (λ (t : List ℕ). set t i x) e
    ∙ ap (set (take i f ++ drop i d) i) (v ∙ sym (fitted_read (length d) ws i l))
    ∙ copied_suc i f d (fitted_length (length d) ws) l
    ∙ ap (λ (k : ℕ). take k f ++ drop k d) (sym (add-one i))

pub fit_all : (ws d now : List ℕ) (i : ℕ) → now ≡ take i (fitted (length d) ws) ++ drop i d → length d ≤ i → now ≡ fitted (length d) ws
fit_all ws d now i e l =
    let f : List ℕ = fitted (length d) ws in
    e ∙ ap (λ (t : List ℕ). take i f ++ t) (drop_of_length-le d l) ∙ append-nil (take i f)
    ∙ take_all i f (omega (arith, fitted_length (length d) ws))
