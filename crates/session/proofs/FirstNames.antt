-- The first names of a list that passes question 2 pass it, and are the names of the first bytes.
use mathlib.Core.Path.{◌≡◌, sym, ap, ◌∙◌, subst}
use mathlib.Core.Bool.{Bool, true, false, not, ◌&&◌, ◌||◌}
use mathlib.Core.List.{List, [], ◌∷◌, ◌++◌, append_assoc}
use Prim.Native.Nat.{ℕ}
use native.Mathlib.Omega.{arith}
use lib.ListN.{length, take, drop, length-append, take-append-drop}
use lib.Seq.{take_at}
use lib.Dec.{leb, T, leb→le}
use borrow.Author.Tests.{le-leb}
use Rattle.definition.specs.Basics.{all, any, unlike, concat_map}
use Rattle.definition.specs.Names.{Name, fixed, listed, same_name, names_few, names_short, names_sized, names_ended, names_unlike, names_fit}
use Rattle.definition.proofs.Lists.Tests.{and_both, and_left, and_right, T_true, true_of}
use Rattle.session.specs.Words.{ended}
use Rattle.session.proofs.CountLaws.{ended_back}
use Rattle.session.proofs.NewWords.{concat_append}
use Rattle.session.proofs.ListedNames.{endless, listed_endless, listed_back, ended_ends}

module _ {A : Type 0} where
  -- what all elements of a list pass, those of its beginning do
  all_front : (p : A → Bool) (xs ys : List A) → T (all p (xs ++ ys)) → T (all p xs)
  all_front p [] ys h = tt
  all_front p (x ∷ xs) ys h = and_both (p x) (all p xs) (and_left (p x) (all p (xs ++ ys)) h) (all_front p xs ys (and_right (p x) (all p (xs ++ ys)) h))

  none_front : (p : A → Bool) (xs ys : List A) → T (not (any p (xs ++ ys))) → T (not (any p xs))
  none_front p [] ys h = tt
  none_front p (x ∷ xs) ys h = go (p x) h (none_front p xs ys)
    where
      go : (t : Bool) → T (not (t || any p (xs ++ ys))) → (T (not (any p (xs ++ ys))) → T (not (any p xs))) → T (not (t || any p xs))
      go true h f = h
      go false h f = f h

  -- the beginning of a list without repeats has none
  apart_front : (same : A → A → Bool) (xs ys : List A) → T (unlike same (xs ++ ys)) → T (unlike same xs)
  apart_front same [] ys h = tt
  apart_front same (x ∷ xs) ys h =
      let none : Bool = not (any (same x) (xs ++ ys)) in
      and_both (not (any (same x) xs)) (unlike same xs) (none_front (same x) xs ys (and_left none (unlike same (xs ++ ys)) h))
      (apart_front same xs ys (and_right none (unlike same (xs ++ ys)) h))

-- The first k names of the bytes ns.
module _ (ns : List ℕ) (fit : names_fit ns ≡ true) (k : ℕ) where
  abbrev names : List Name
  names = take k (listed ns)

  abbrev rest : List Name
  rest = drop k (listed ns)

  -- their bytes with ends
  abbrev pub first_bytes : List ℕ
  first_bytes = concat_map ended (take k (listed ns))

  -- what question 2 asks of all bytes
  abbrev few : Bool
  few = names_few ns

  abbrev short : Bool
  short = names_few ns && names_short ns

  abbrev sized : Bool
  sized = names_few ns && names_short ns && names_sized ns

  abbrev closed : Bool
  closed = names_few ns && names_short ns && names_sized ns && names_ended ns

  fits : T (names_fit ns)
  fits = T_true (names_fit ns) fit

  fits_closed : T (names_few ns && names_short ns && names_sized ns && names_ended ns)
  fits_closed = and_left closed (names_unlike ns) fits

  fits_sized : T (names_few ns && names_short ns && names_sized ns)
  fits_sized = and_left sized (names_ended ns) fits_closed

  fits_short : T (names_few ns && names_short ns)
  fits_short = and_left short (names_sized ns) fits_sized

  split : names ++ rest ≡ listed ns
  split = take-append-drop k (listed ns)

  pub first_split : ns ≡ first_bytes ++ concat_map ended rest
  first_split =
      sym (ended_back ns (true_of (names_ended ns) (and_right sized (names_ended ns) fits_closed)))
      ∙ ap (concat_map ended) (sym split) ∙ concat_append ended names rest

  -- they stand at the beginning of the bytes,
  pub first_bytes_lem : take (length first_bytes) ns ≡ first_bytes
  first_bytes_lem = ap (take (length first_bytes)) first_split ∙ take_at first_bytes (concat_map ended rest) (length first_bytes) (λ i. length first_bytes)

  endless_all : T (all endless names)
  endless_all = all_front endless names rest (subst (λ (l : List Name). T (all endless l)) (sym split) (listed_endless ns))

  -- are listed there,
  pub first_listed : listed first_bytes ≡ names
  first_listed = listed_back names endless_all

  -- and pass
  pub first_fit : names_fit first_bytes ≡ true
  first_fit =
      true_of (names_fit first_bytes)
      (and_both (names_few first_bytes && names_short first_bytes && names_sized first_bytes && names_ended first_bytes) (names_unlike first_bytes)
      (and_both (names_few first_bytes && names_short first_bytes && names_sized first_bytes) (names_ended first_bytes)
      (and_both (names_few first_bytes && names_short first_bytes) (names_sized first_bytes)
      (and_both (names_few first_bytes) (names_short first_bytes) few_are short_are) sized_are) (ended_ends names)) unlike_are)
    where
      few_are : T (names_few first_bytes)
      few_are =
          T_true (names_few first_bytes) (le-leb (length (listed first_bytes)) 1024
          (omega (arith, ap length first_listed, ap length split, length-append names rest, leb→le (length (listed ns)) 1024 (and_left few (names_short ns) fits_short))))

      short_are : T (names_short first_bytes)
      short_are =
          T_true (names_short first_bytes) (le-leb (length first_bytes) 32768
          (omega (arith, ap length first_split, length-append first_bytes (concat_map ended rest), leb→le (length ns) 32768 (and_right few (names_short ns) fits_short))))

      sized_are : T (names_sized first_bytes)
      sized_are =
          subst (λ (l : List Name). T (all (λ x. leb 1 (length x) && leb (length x) 255) l)) (sym first_listed)
          (all_front (λ x. leb 1 (length x) && leb (length x) 255) names rest
          (subst (λ (l : List Name). T (all (λ x. leb 1 (length x) && leb (length x) 255) l)) (sym split) (and_right short (names_sized ns) fits_sized)))

      unlike_are : T (names_unlike first_bytes)
      unlike_are =
          subst (λ (l : List Name). T (unlike same_name (fixed ++ l))) (sym first_listed)
          (apart_front same_name (fixed ++ names) rest
          (subst (λ (l : List Name). T (unlike same_name l)) (sym (append_assoc fixed names rest ∙ ap (λ (l : List Name). fixed ++ l) split))
          (and_right closed (names_unlike ns) fits)))
