-- The places of a list's nodes, from its last node back, and the nodes that stand there.
use mathlib.Core.Path.{◌≡◌, refl, sym, ap, ◌∙◌}
use mathlib.Core.Bool.{Bool, true, false, ◌||◌}
use mathlib.Core.List.{List, [], ◌∷◌}
use Prim.Native.Nat.{ℕ, zero, suc, ◌-◌, ◌≤◌}
use native.Mathlib.Omega.{arith}
use lib.Dec.{eqb}
use borrow.Author.Tests.{eqb-true, eqb-false, ne_eqb}
use Rattle.std.specs.List.{list_any}
use Rattle.definition.specs.Basics.{when◌then◌else◌, any}
use Rattle.machine.specs.Machine.{Node, node_at, previous, chain_back, reversed, chain_to}
use Rattle.machine.proofs.Lists.{any_append, eqb_self}
use Rattle.store.specs.Back.{places_back}

module _ (q : List ℕ) where
  back_hit : (n : ℕ) → places_back q (suc n) (suc n) ≡ n ∷ places_back q n (previous q n)
  unfolding places_back
  back_hit n = rw (eqb_self (suc n))

  back_miss : (n p : ℕ) → p ≤ n → places_back q (suc n) p ≡ places_back q n p
  unfolding places_back
  back_miss n p h = rw (ne_eqb p (suc n) (λ e. omega arith))

  -- a larger bound gives the same places
  back_down : (n p : ℕ) → p ≤ n → places_back q n p ≡ places_back q p p
  back_down zero zero h = refl
  back_down zero (suc p) h = absurd (omega arith)
  back_down (suc n) p h = go (eqb p (suc n)) refl (λ l. back_down n p l)
    where
      go : (t : Bool) → eqb p (suc n) ≡ t → (p ≤ n → places_back q n p ≡ places_back q p p) → places_back q (suc n) p ≡ places_back q p p
      go true e i = ap (λ (k : ℕ). places_back q k p) (sym (eqb-true p (suc n) e))
      go false e i = let ne : p ≡ suc n → ⊥ = eqb-false p (suc n) e in let l : p ≤ n = omega arith in back_miss n p l ∙ i l

  -- the end of a list, and its last node
  pub back_end : (p : ℕ) → p ≡ 0 → places_back q p p ≡ []
  unfolding places_back
  back_end p e = rw e

  pub back_one : (p : ℕ) {b : ℕ} → (p ≡ 0 → ⊥) → b ≡ previous q (p - 1) → places_back q p p ≡ (p - 1) ∷ places_back q b b
  back_one zero f e = absurd (f refl)
  back_one (suc n) f e =
      let z : suc n - 1 ≡ n = omega arith in
      rw (e, z) (back_hit n ∙ ap (λ (l : List ℕ). n ∷ l) (back_down n (previous q n) (omega arith)))

  -- the nodes of the list are those at these places
  module _ (test : Node → Bool) (at : ℕ → Bool) (same : (i : ℕ) → at i ≡ test (node_at q i)) where
    any_places : (n p : ℕ) → list_any at (places_back q n p) ≡ any test (chain_back q n p)
    unfolding places_back chain_back
    any_places zero p = refl
    any_places (suc n) p = go (eqb p (suc n)) (any_places n (previous q n)) (any_places n p)
      where
        go : (t : Bool) → list_any at (places_back q n (previous q n)) ≡ any test (chain_back q n (previous q n)) → list_any at (places_back q n p) ≡ any test (chain_back q n p)
            → list_any at (when t then n ∷ places_back q n (previous q n) else places_back q n p) ≡ any test (when t then node_at q n ∷ chain_back q n (previous q n) else chain_back q n p)
        go true e d = rw (same n, e)
        go false e d = d

    any_reversed : (ys : List Node) → any test (reversed ys) ≡ any test ys
    unfolding reversed
    any_reversed [] = refl
    any_reversed (y ∷ ys) =
        any_append test (reversed ys) (y ∷ []) ∙ swapped (test y) (any test (reversed ys)) ∙ ap (λ (t : Bool). test y || t) (any_reversed ys)
      where
        swapped : (u v : Bool) → (v || (u || false)) ≡ (u || v)
        swapped true true = refl
        swapped true false = refl
        swapped false true = refl
        swapped false false = refl

    pub any_back : (p : ℕ) → list_any at (places_back q p p) ≡ any test (chain_to q p)
    unfolding chain_to
    any_back p = any_places p p ∙ sym (any_reversed (chain_back q p p))
