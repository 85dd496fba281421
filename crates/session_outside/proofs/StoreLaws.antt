-- Runs of words stored one after another.
use mathlib.Core.Path.{◌≡◌, refl, sym, ap, ◌∙◌}
use mathlib.Core.List.{List, [], ◌∷◌, ◌++◌}
use Prim.Native.Nat.{ℕ, suc, ◌+◌, ◌*◌, ◌<◌, ◌≤◌}
use native.Mathlib.Omega.{arith}
use native.Mathlib.Numerals.{towards_suc}
use lib.ListN.{length, set, length-append}
use lib.Seq.{sets, set_comm}
use Rattle.machine.proofs.Words.{sets_more}

set_under : (xs w : List ℕ) (i j y : ℕ) → j < i → set (sets w i xs) j y ≡ sets (set w j y) i xs
set_under [] w i j y l = refl
set_under (x ∷ xs) w i j y l =
    set_under xs (set w i x) (suc i) j y (omega arith) ∙ ap (λ (v : List ℕ). sets v (suc i) xs) (set_comm w i j x y (λ e. omega arith))

-- a run below one that is stored already
pub sets_under : (ys xs w : List ℕ) (i j : ℕ) → j + length ys ≤ i → sets (sets w i xs) j ys ≡ sets (sets w j ys) i xs
sets_under [] xs w i j l = refl
sets_under (y ∷ ys) xs w i j l =
    ap (λ (v : List ℕ). sets v (suc j) ys) (set_under xs w i j y (omega arith)) ∙ sets_under ys xs (set w j y) i (suc j) (omega arith)

-- eight words of a row
row_stored : (w : List ℕ) (r a b c d e f : ℕ)
    → set (set (set (set (set (set (set (set w (8 * r + 0) a) (8 * r + 1) b) (8 * r + 2) c) (8 * r + 3) d) (8 * r + 4) e) (8 * r + 5) f) (8 * r + 6) 0) (8 * r + 7) 0
    ≡ sets w (8 * r) (a ∷ b ∷ c ∷ d ∷ e ∷ f ∷ 0 ∷ 0 ∷ [])
row_stored w r a b c d e f =
    let z : 8 * r + 0 ≡ 8 * r = omega arith in rw z (simp towards_suc)

pub row_written_lem : (w : List ℕ) (r a b c d e f : ℕ) {v₁ v₂ v₃ v₄ v₅ v₆ v₇ v₈ : List ℕ} → v₁ ≡ set w (8 * r + 0) a → v₂ ≡ set v₁ (8 * r + 1) b
    → v₃ ≡ set v₂ (8 * r + 2) c → v₄ ≡ set v₃ (8 * r + 3) d → v₅ ≡ set v₄ (8 * r + 4) e → v₆ ≡ set v₅ (8 * r + 5) f → v₇ ≡ set v₆ (8 * r + 6) 0
    → v₈ ≡ set v₇ (8 * r + 7) 0 → v₈ ≡ sets w (8 * r) (a ∷ b ∷ c ∷ d ∷ e ∷ f ∷ 0 ∷ 0 ∷ [])
row_written_lem w r a b c d e f e₁ e₂ e₃ e₄ e₅ e₆ e₇ e₈ =
    e₈ ∙ ap (λ (v : List ℕ). set v (8 * r + 7) 0) (e₇ ∙ ap (λ (v : List ℕ). set v (8 * r + 6) 0) (e₆ ∙ ap (λ (v : List ℕ). set v (8 * r + 5) f)
    (e₅ ∙ ap (λ (v : List ℕ). set v (8 * r + 4) e) (e₄ ∙ ap (λ (v : List ℕ). set v (8 * r + 3) d) (e₃ ∙ ap (λ (v : List ℕ). set v (8 * r + 2) c)
    (e₂ ∙ ap (λ (v : List ℕ). set v (8 * r + 1) b) e₁))))))
    ∙ row_stored w r a b c d e f

-- four runs that stand one after another, the first stored last
pub four_stored : (x h a b c : List ℕ) {i j k : ℕ} → i ≡ length h → j ≡ i + length a → k ≡ j + length b
    → sets (sets (sets (sets x i a) j b) k c) 0 h ≡ sets x 0 (h ++ a ++ b ++ c)
four_stored x h a b c {i} {j} {k} ei ej ek =
    sets_under h c (sets (sets x i a) j b) k 0 (omega arith)
    ∙ ap (λ (v : List ℕ). sets v k c) (sets_under h b (sets x i a) j 0 (omega arith) ∙ ap (λ (v : List ℕ). sets v j b) (sets_under h a x i 0 (omega arith)))
    ∙ sym three
  where
    one : sets x 0 (h ++ a) ≡ sets (sets x 0 h) i a
    one =
        let z : 0 + length h ≡ i = omega arith in
        sets_more x 0 h a refl ∙ ap (λ (n : ℕ). sets (sets x 0 h) n a) z

    two : sets x 0 (h ++ a ++ b) ≡ sets (sets (sets x 0 h) i a) j b
    two =
        let z : 0 + length (h ++ a) ≡ j = omega (arith, length-append h a) in
        sets_more x 0 (h ++ a) b refl ∙ ap (λ (n : ℕ). sets (sets x 0 (h ++ a)) n b) z ∙ ap (λ (v : List ℕ). sets v j b) one

    three : sets x 0 (h ++ a ++ b ++ c) ≡ sets (sets (sets (sets x 0 h) i a) j b) k c
    three =
        let z : 0 + length (h ++ a ++ b) ≡ k = omega (arith, length-append (h ++ a) b, length-append h a) in
        sets_more x 0 (h ++ a ++ b) c refl ∙ ap (λ (n : ℕ). sets (sets x 0 (h ++ a ++ b)) n c) z ∙ ap (λ (v : List ℕ). sets v k c) two
