-- One more element at the end of a list.
use mathlib.Core.Path.{◌≡◌, refl, sym, ap, ◌∙◌}
use mathlib.Core.List.{List, [], ◌∷◌, ◌++◌, map}
use mathlib.Core.Bool.{Bool, true, false, not, ◌||◌, ◌&&◌}
use Prim.Native.Nat.{ℕ, suc, max}
use native.Mathlib.Omega.{arith}
use lib.Dec.{eqb}
use borrow.Author.Tests.{eqb-true, eqb-false, eq-eqb, ne_eqb}
use Rattle.definition.specs.Basics.{when◌then◌else◌, filter, any, final, distinct, place, largest}
use Rattle.definition.proofs.Lists.Members.{filter_append}

pub eqb_same : (x y : ℕ) → eqb x y ≡ eqb y x
eqb_same x y = go (eqb x y) refl
  where
    go : (t : Bool) → eqb x y ≡ t → eqb x y ≡ eqb y x
    go true e = e ∙ sym (eq-eqb y x (sym (eqb-true x y e)))
    go false e = e ∙ sym (ne_eqb y x (λ q. eqb-false x y e (sym q)))

pub eqb_self : (x : ℕ) → eqb x x ≡ true
eqb_self x = eq-eqb x x refl

-- one element or none
abbrev pub only {ℓ} : {A : Type ℓ} → Bool → A → List A
only t x = when t then x ∷ [] else []

module _ {A : Type 0} where
  pub any_append : (p : A → Bool) (xs ys : List A) → any p (xs ++ ys) ≡ (any p xs || any p ys)
  any_append p [] ys = refl
  any_append p (x ∷ xs) ys = go (p x) (any_append p xs ys)
    where
      go : (t : Bool) → any p (xs ++ ys) ≡ (any p xs || any p ys) → (t || any p (xs ++ ys)) ≡ (t || any p xs || any p ys)
      go true i = refl
      go false i = i

  pub final_snoc : (xs : List A) (x : A) → final (xs ++ x ∷ []) ≡ x ∷ []
  final_snoc [] x = refl
  final_snoc (y ∷ []) x = refl
  final_snoc (y ∷ z ∷ ys) x = final_snoc (z ∷ ys) x

  -- the place of an element that is there stays
  pub place_append : (p : A → Bool) (xs ys : List A) → any p xs ≡ true → place p (xs ++ ys) ≡ place p xs
  place_append p [] ys h = absurd (eqb-false 0 1 refl (ap (λ (t : Bool). when t then 0 else 1) (sym h)))
  place_append p (x ∷ xs) ys h = go (p x) refl (λ g. place_append p xs ys g)
    where
      go : (t : Bool) → p x ≡ t → (any p xs ≡ true → place p (xs ++ ys) ≡ place p xs) → (when t then 0 else suc (place p (xs ++ ys))) ≡ (when t then 0 else suc (place p xs))
      go true e i = refl
      go false e i = ap suc (i (rw e at h))

  -- one element more among the distinct
  module _ (same : A → A → Bool) where
    pub distinct_snoc : (xs : List A) (x : A) → distinct same (xs ++ x ∷ []) ≡ distinct same xs ++ only (not (any (λ y. same y x) xs)) x
    distinct_snoc [] x = refl
    distinct_snoc (y ∷ xs) x =
        ap (λ (l : List A). y ∷ filter (λ z. not (same y z)) l) (distinct_snoc xs x)
        ∙ ap (λ (l : List A). y ∷ l) (filter_append (λ z. not (same y z)) (distinct same xs) (only (not (any (λ z. same z x) xs)) x) ∙ go (same y x) refl (any (λ z. same z x) xs))
      where
        go : (t : Bool) → same y x ≡ t → (u : Bool)
            → filter (λ z. not (same y z)) (distinct same xs) ++ filter (λ z. not (same y z)) (only (not u) x)
            ≡ filter (λ z. not (same y z)) (distinct same xs) ++ only (not (t || u)) x
        go true e true = refl
        go true e false = rw e
        go false e true = refl
        go false e false = rw e

module _ {A : Type 0} {B : Type 0} where
  pub any_map : (p : B → Bool) (f : A → B) (xs : List A) → any p (map f xs) ≡ any (λ x. p (f x)) xs
  any_map p f [] = refl
  any_map p f (x ∷ xs) = ap (λ (t : Bool). p (f x) || t) (any_map p f xs)

  pub place_map : (p : B → Bool) (f : A → B) (xs : List A) → place p (map f xs) ≡ place (λ x. p (f x)) xs
  place_map p f [] = refl
  place_map p f (x ∷ xs) = ap (λ (t : ℕ). when p (f x) then 0 else suc t) (place_map p f xs)

-- a test by key finds in the distinct what it finds in all
module _ {A : Type 0} (key : A → ℕ) where
  any_filter : (k n : ℕ) (xs : List A) → eqb k n ≡ false → any (λ y. eqb (key y) n) (filter (λ y. not (eqb k (key y))) xs) ≡ any (λ y. eqb (key y) n) xs
  any_filter k n [] h = refl
  any_filter k n (x ∷ xs) h = go (eqb k (key x)) refl (any_filter k n xs h)
    where
      go : (t : Bool) → eqb k (key x) ≡ t → any (λ y. eqb (key y) n) (filter (λ y. not (eqb k (key y))) xs) ≡ any (λ y. eqb (key y) n) xs
          → any (λ y. eqb (key y) n) (when not t then x ∷ filter (λ y. not (eqb k (key y))) xs else filter (λ y. not (eqb k (key y))) xs) ≡ (eqb (key x) n || any (λ y. eqb (key y) n) xs)
      go true e i =
          i ∙ sym (ap (λ (t : Bool). t || any (λ y. eqb (key y) n) xs) (ap (λ (j : ℕ). eqb j n) (sym (eqb-true k (key x) e)) ∙ h))
      go false e i = ap (λ (t : Bool). eqb (key x) n || t) i

  pub any_distinct : (n : ℕ) (xs : List A) → any (λ y. eqb (key y) n) (distinct (λ x y. eqb (key x) (key y)) xs) ≡ any (λ y. eqb (key y) n) xs
  any_distinct n [] = refl
  any_distinct n (x ∷ xs) = go (eqb (key x) n) refl (any_distinct n xs)
    where
      go : (t : Bool) → eqb (key x) n ≡ t → any (λ y. eqb (key y) n) (distinct (λ x y. eqb (key x) (key y)) xs) ≡ any (λ y. eqb (key y) n) xs
          → (t || any (λ y. eqb (key y) n) (filter (λ y. not (eqb (key x) (key y))) (distinct (λ x y. eqb (key x) (key y)) xs))) ≡ (t || any (λ y. eqb (key y) n) xs)
      go true e i = refl
      go false e i = any_filter (key x) n (distinct (λ x y. eqb (key x) (key y)) xs) e ∙ i

  -- one element more, unless its key is there
  pub distinct_key : (xs : List A) (x : A)
      → distinct (λ x y. eqb (key x) (key y)) (xs ++ x ∷ [])
      ≡ distinct (λ x y. eqb (key x) (key y)) xs ++ only (not (any (λ y. eqb (key y) (key x)) (distinct (λ x y. eqb (key x) (key y)) xs))) x
  distinct_key xs x = distinct_snoc (λ x y. eqb (key x) (key y)) xs x ∙ ap (λ (t : Bool). distinct (λ x y. eqb (key x) (key y)) xs ++ only (not t) x) (sym (any_distinct (key x) xs))

pub largest_snoc : (xs : List ℕ) (x : ℕ) → largest (xs ++ x ∷ []) ≡ max (largest xs) x
largest_snoc [] x = omega arith
largest_snoc (y ∷ xs) x = omega (arith, largest_snoc xs x)

module _ {A : Type 0} where
  -- two filters, one element more
  pub filter2_snoc : (p q : A → Bool) (xs : List A) (x : A) → filter p (filter q (xs ++ x ∷ [])) ≡ filter p (filter q xs) ++ only (q x && p x) x
  filter2_snoc p q xs x =
      ap (filter p) (filter_append q xs (x ∷ [])) ∙ filter_append p (filter q xs) (only (q x) x) ∙ ap (λ (l : List A). filter p (filter q xs) ++ l) (go (q x))
    where
      go : (t : Bool) → filter p (only t x) ≡ only (t && p x) x
      go true = refl
      go false = refl
