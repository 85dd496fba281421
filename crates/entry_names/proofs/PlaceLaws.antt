-- The place of a name in a list that is joined of two; a name among those that pass a test.
use mathlib.Core.Path.{◌≡◌, refl, sym, ap, ◌∙◌}
use mathlib.Core.Bool.{Bool, true, false, ◌||◌, true≢false}
use mathlib.Core.List.{List, [], ◌∷◌, ◌++◌}
use Prim.Native.Nat.{suc, ◌+◌}
use native.Mathlib.Omega.{arith}
use lib.ListN.{length}
use Rattle.definition.specs.Basics.{when◌then◌else◌, filter, any, place}
use Rattle.definition.specs.Names.{Name}
use Rattle.session.proofs.NameLaws.{none_here}

module _ (p : Name → Bool) where
  -- a name that the first list has
  pub place_left : (xs ys : List Name) → any p xs ≡ true → place p (xs ++ ys) ≡ place p xs
  place_left [] ys e = absurd (true≢false (sym e))
  place_left (x ∷ xs) ys e = go (p x) e (place_left xs ys)
    where
      go : (t : Bool) → (t || any p xs) ≡ true → (any p xs ≡ true → place p (xs ++ ys) ≡ place p xs)
          → (when t then 0 else suc (place p (xs ++ ys))) ≡ (when t then 0 else suc (place p xs))
      go true e f = refl
      go false e f = ap suc (f e)

  -- and one that it has not
  pub place_right : (xs ys : List Name) → any p xs ≡ false → place p (xs ++ ys) ≡ length xs + place p ys
  place_right [] ys e = omega arith
  place_right (x ∷ xs) ys e =
      let h = none_here p x xs e in
      ap (λ (t : Bool). when t then 0 else suc (place p (xs ++ ys))) h.0 ∙ omega (arith, place_right xs ys h.1)

  -- a name that a list has not is not among those of it that pass a test
  pub none_kept : (q : Name → Bool) (xs : List Name) → any p xs ≡ false → any p (filter q xs) ≡ false
  none_kept q [] e = refl
  none_kept q (x ∷ xs) e =
      let h = none_here p x xs e in go (q x) h.0 (none_kept q xs h.1)
    where
      go : (t : Bool) → p x ≡ false → any p (filter q xs) ≡ false → any p (when t then x ∷ filter q xs else filter q xs) ≡ false
      go true f g = ap (λ (u : Bool). u || any p (filter q xs)) f ∙ g
      go false f g = g

pub filter_append : (q : Name → Bool) (xs ys : List Name) → filter q (xs ++ ys) ≡ filter q xs ++ filter q ys
filter_append q [] ys = refl
filter_append q (x ∷ xs) ys = go (q x) (filter_append q xs ys)
  where
    go : (t : Bool) → filter q (xs ++ ys) ≡ filter q xs ++ filter q ys
        → (when t then x ∷ filter q (xs ++ ys) else filter q (xs ++ ys)) ≡ (when t then x ∷ filter q xs else filter q xs) ++ filter q ys
    go true e = ap (λ (l : List Name). x ∷ l) e
    go false e = e
