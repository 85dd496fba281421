-- Comparing names byte by byte.
use mathlib.Core.Path.{◌≡◌, refl, ap, ◌∙◌}
use mathlib.Core.Bool.{Bool, true, false, ◌&&◌}
use mathlib.Core.List.{List, [], ◌∷◌}
use Prim.Native.Nat.{ℕ, zero, suc, ◌-◌, ◌<◌, ◌≤◌}
use native.Mathlib.Omega.{arith}
use lib.Dec.{eqb}
use lib.ListN.{length, get_or, take}
use lib.Seq.{take_all}
use borrow.Author.Tests.{eq-eqb, ne_eqb}
use Rattle.definition.specs.Names.{same_name}
use Rattle.names.proofs.Laws.{and_false}

-- two names up to place i
same_step : (a b : List ℕ) (i : ℕ) → i < length a → i < length b → same_name (take (suc i) a) (take (suc i) b) ≡ (eqb (get_or a i 0) (get_or b i 0) && same_name (take i a) (take i b))
same_step [] b i l k = absurd (omega arith)
same_step (x ∷ a) [] i l k = absurd (omega arith)
same_step (x ∷ a) (y ∷ b) zero l k = refl
same_step (x ∷ a) (y ∷ b) (suc i) l k =
    ap (λ (t : Bool). eqb x y && t) (same_step a b i (omega arith) (omega arith)) ∙ swapped (eqb x y) (eqb (get_or a i 0) (get_or b i 0)) (same_name (take i a) (take i b))
  where
    swapped : (t u v : Bool) → (t && (u && v)) ≡ (u && (t && v))
    swapped true u v = refl
    swapped false true v = refl
    swapped false false v = refl

module _ (a b : List ℕ) (i : ℕ) (some : 0 < i) (inside : i ≤ length a) (also : i ≤ length b) where
  same_last : same_name (take i a) (take i b) ≡ (eqb (get_or a (i - 1) 0) (get_or b (i - 1) 0) && same_name (take (i - 1) a) (take (i - 1) b))
  same_last =
      let e : i ≡ suc (i - 1) = omega arith in
      ap (λ (n : ℕ). same_name (take n a) (take n b)) e ∙ same_step a b (i - 1) (omega arith) (omega arith)

  pub same_not : (get_or a (i - 1) 0 ≡ get_or b (i - 1) 0 → ⊥) → same_name (take i a) (take i b) ≡ false
  same_not f = same_last ∙ ap (λ (t : Bool). t && same_name (take (i - 1) a) (take (i - 1) b)) (ne_eqb _ _ f)

  pub same_so_far : get_or a (i - 1) 0 ≡ get_or b (i - 1) 0 → same_name (take i a) (take i b) ≡ same_name (take (i - 1) a) (take (i - 1) b)
  same_so_far e = same_last ∙ ap (λ (t : Bool). t && same_name (take (i - 1) a) (take (i - 1) b)) (eq-eqb _ _ e)

pub same_whole : (a b : List ℕ) → length a ≡ length b → same_name (take (length a) a) (take (length a) b) ≡ same_name a b
same_whole a b e = rw (take_all (length a) a (omega arith), take_all (length a) b (omega arith))

pub same_end : (a b : List ℕ) (i : ℕ) → i ≤ 0 → same_name (take i a) (take i b) ≡ true
same_end a b i l = let e : i ≡ 0 = omega arith in ap (λ (n : ℕ). same_name (take n a) (take n b)) e

pub same_sized : (a b : List ℕ) → (length a ≡ length b → ⊥) → same_name a b ≡ false
same_sized [] [] h = absurd (h refl)
same_sized [] (y ∷ b) h = refl
same_sized (x ∷ a) [] h = refl
same_sized (x ∷ a) (y ∷ b) h = and_false (eqb x y) (same_sized a b (λ e. h (ap suc e)))

pub same_none : (a : List ℕ) → eqb (length a) 0 ≡ same_name a []
same_none [] = refl
same_none (x ∷ a) = ne_eqb (suc (length a)) 0 (λ (e : suc (length a) ≡ 0). omega arith)
