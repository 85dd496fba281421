-- The new names of an entry may follow those of the session: sized, without ends, and unlike.
use mathlib.Core.Path.{◌≡◌, refl, sym, ◌∙◌, subst}
use mathlib.Core.Bool.{Bool, true, false, not, ◌&&◌, ◌||◌}
use mathlib.Core.List.{List, [], ◌∷◌, ◌++◌}
use Prim.Native.Nat.{ℕ}
use lib.ListN.{length}
use lib.Dec.{leb, T}
use Rattle.definition.specs.Basics.{when◌then◌else◌, all, any, unlike, filter}
use Rattle.definition.specs.Names.{Name, fixed, listed, same_name, names_few, names_short, names_sized, names_ended, names_unlike, names_fit}
use Rattle.definition.proofs.Lists.Tests.{and_both, and_left, and_right, T_true}
use Rattle.session.specs.Session.{Session, all_names}
use Rattle.session.specs.Entry.{new_names}
use Rattle.session.proofs.NameLaws.{same_turned}
use Rattle.session.proofs.OutsideLaws.{all_filter, apart_filter}
use Rattle.session.proofs.Extended.{all_turned}
use Rattle.session.proofs.ListedNames.{endless, listed_endless}

-- Lists by a test of sameness that may be turned.
module _ {A : Type 0} (same : A → A → Bool) (turned : (x y : A) → same x y ≡ same y x) where
  -- an element that is in neither of two lists
  none_joined : (p : A → Bool) (xs ys : List A) → T (not (any p xs)) → T (not (any p ys)) → T (not (any p (xs ++ ys)))
  none_joined p [] ys h k = k
  none_joined p (x ∷ xs) ys h k = go (p x) h (none_joined p xs ys)
    where
      go : (t : Bool) → T (not (t || any p xs)) → (T (not (any p xs)) → T (not (any p ys)) → T (not (any p (xs ++ ys)))) → T (not (t || any p (xs ++ ys)))
      go true h f = h
      go false h f = f h k

  none_back : (x : A) (ys : List A) → T (all (λ y. not (same y x)) ys) → T (not (any (same x) ys))
  none_back x [] h = tt
  none_back x (y ∷ ys) h = go (same y x) refl (none_back x ys)
    where
      go : (t : Bool) → same y x ≡ t → (T (all (λ y. not (same y x)) ys) → T (not (any (same x) ys))) → T (not (any (same x) (y ∷ ys)))
      go true e f = absurd (and_left false (all (λ y. not (same y x)) ys) (subst (λ (t : Bool). T (not t && all (λ y. not (same y x)) ys)) e h))
      go false e f = subst (λ (t : Bool). T (not (t || any (same x) ys))) (sym (turned x y ∙ e)) (f (and_right (not (same y x)) (all (λ y. not (same y x)) ys) h))

  -- two lists without repeats, and no element in both
  pub apart_joined : (xs ys : List A) → T (unlike same xs) → T (unlike same ys) → T (all (λ y. not (any (same y) xs)) ys) → T (unlike same (xs ++ ys))
  apart_joined [] ys u v h = v
  apart_joined (x ∷ xs) ys u v h =
      and_both (not (any (same x) (xs ++ ys))) (unlike same (xs ++ ys))
      (none_joined (same x) xs ys (and_left (not (any (same x) xs)) (unlike same xs) u)
      (none_back x ys (all_turned (λ y. not (any (same y) (x ∷ xs))) (λ y. not (same y x)) ys (λ y m k. (split y k).0) h)))
      (apart_joined xs ys (and_right (not (any (same x) xs)) (unlike same xs) u) v
      (all_turned (λ y. not (any (same y) (x ∷ xs))) (λ y. not (any (same y) xs)) ys (λ y m k. (split y k).1) h))
    where
      split : (y : A) → T (not (same y x || any (same y) xs)) → T (not (same y x)) × T (not (any (same y) xs))
      split y = go (same y x)
        where
          go : (t : Bool) → T (not (t || any (same y) xs)) → T (not t) × T (not (any (same y) xs))
          go true h = absurd h
          go false h = (tt, h)

module _ {A : Type 0} where
  pub filter_all : (q : A → Bool) (xs : List A) → T (all q (filter q xs))
  filter_all q [] = tt
  filter_all q (x ∷ xs) = go (q x) refl (filter_all q xs)
    where
      go : (t : Bool) → q x ≡ t → T (all q (filter q xs)) → T (all q (when t then x ∷ filter q xs else filter q xs))
      go true e h = and_both (q x) (all q (filter q xs)) (T_true (q x) e) h
      go false e h = h

  apart_last : (same : A → A → Bool) (xs ys : List A) → T (unlike same (xs ++ ys)) → T (unlike same ys)
  apart_last same [] ys h = h
  apart_last same (x ∷ xs) ys h = apart_last same xs ys (and_right (not (any (same x) (xs ++ ys))) (unlike same (xs ++ ys)) h)

module _ (S : Session) (ns : List ℕ) (fit : names_fit ns ≡ true) where
  abbrev new : Name → Bool
  new x = not (any (same_name x) (all_names S))

  pub new_endless : T (all endless (new_names S ns))
  new_endless = all_filter endless new (listed ns) (listed_endless ns)

  pub new_sized : T (all (λ x. leb 1 (length x) && leb (length x) 255) (new_names S ns))
  new_sized =
      let front : Bool = names_few ns && names_short ns in
      all_filter (λ x. leb 1 (length x) && leb (length x) 255) new (listed ns)
      (and_right front (names_sized ns) (and_left (front && names_sized ns) (names_ended ns) (and_left (front && names_sized ns && names_ended ns) (names_unlike ns) (T_true (names_fit ns) fit))))

  pub new_apart : T (unlike same_name (all_names S)) → T (unlike same_name (all_names S ++ new_names S ns))
  new_apart u =
      apart_joined same_name same_turned (all_names S) (new_names S ns) u
      (apart_filter same_name new (listed ns)
      (apart_last same_name fixed (listed ns) (and_right (names_few ns && names_short ns && names_sized ns && names_ended ns) (names_unlike ns) (T_true (names_fit ns) fit))))
      (filter_all new (listed ns))
