-- A name has one number in a list without repeats.
use mathlib.Core.Path.{◌≡◌, refl, sym, ap, ◌∙◌}
use mathlib.Core.Bool.{Bool, true, false, not, ◌&&◌, ◌||◌, true≢false}
use mathlib.Core.List.{List, [], ◌∷◌, ◌++◌}
use Prim.Native.Nat.{ℕ, zero, suc, ◌-◌, ◌<◌, ◌≤◌}
use native.Mathlib.Omega.{arith}
use lib.ListN.{length, get_or}
use lib.Dec.{eqb, leb}
use borrow.Author.Tests.{eq-eqb, eqb-true, leb-true}
use Rattle.definition.specs.Basics.{when◌then◌else◌, filter, any, unlike, place}
use Rattle.definition.specs.Names.{Name, fixed, listed, same_name, names_few, names_short, names_sized, names_ended, names_fit}
use Rattle.session.specs.Entry.{renumbered}

pub eqb_turned : (x y : ℕ) → eqb x y ≡ eqb y x
eqb_turned x y = go (eqb x y) refl (eqb y x) refl
  where
    go : (t : Bool) → eqb x y ≡ t → (u : Bool) → eqb y x ≡ u → t ≡ u
    go true e true f = refl
    go false e false f = refl
    go true e false f = absurd (true≢false (sym (eq-eqb y x (sym (eqb-true x y e))) ∙ f))
    go false e true f = absurd (true≢false (sym (eq-eqb x y (sym (eqb-true y x f))) ∙ e))

pub same_itself : (x : Name) → same_name x x ≡ true
same_itself [] = refl
same_itself (c ∷ x) = rw (eq-eqb c c refl) (same_itself x)

pub same_turned : (x y : Name) → same_name x y ≡ same_name y x
same_turned [] [] = refl
same_turned [] (d ∷ y) = refl
same_turned (c ∷ x) [] = refl
same_turned (c ∷ x) (d ∷ y) = ap (λ (t : Bool). t && same_name x y) (eqb_turned c d) ∙ ap (λ (t : Bool). eqb d c && t) (same_turned x y)

-- a test that no element passes
pub none_here : (p : Name → Bool) (x : Name) (xs : List Name) → any p (x ∷ xs) ≡ false → (p x ≡ false) × (any p xs ≡ false)
none_here p x xs = go (p x)
  where
    go : (t : Bool) → (t || any p xs) ≡ false → (t ≡ false) × (any p xs ≡ false)
    go true e = absurd (true≢false e)
    go false e = (refl, e)

pub none_at : (p : Name → Bool) (xs : List Name) (i : ℕ) → i < length xs → any p xs ≡ false → p (get_or xs i []) ≡ false
none_at p [] i l e = absurd (omega arith)
none_at p (x ∷ xs) zero l e = (none_here p x xs e).0
none_at p (x ∷ xs) (suc i) l e = none_at p xs i (omega arith) (none_here p x xs e).1

pub none_right : (p : Name → Bool) (xs ys : List Name) → any p (xs ++ ys) ≡ false → any p ys ≡ false
none_right p [] ys e = e
none_right p (x ∷ xs) ys e = none_right p xs ys (none_here p x (xs ++ ys) e).1

-- a list without repeats
pub apart_here : (x : Name) (xs : List Name) → unlike same_name (x ∷ xs) ≡ true → (any (same_name x) xs ≡ false) × (unlike same_name xs ≡ true)
apart_here x xs = go (any (same_name x) xs)
  where
    go : (t : Bool) → (not t && unlike same_name xs) ≡ true → (t ≡ false) × (unlike same_name xs ≡ true)
    go true e = absurd (true≢false (sym e))
    go false e = (refl, e)

pub place_own : (l : List Name) → unlike same_name l ≡ true → (i : ℕ) → i < length l → place (same_name (get_or l i [])) l ≡ i
place_own [] u i h = absurd (omega arith)
place_own (x ∷ xs) u zero h = rw (same_itself x)
place_own (x ∷ xs) u (suc i) h =
    let a = apart_here x xs u in
    let f : same_name (get_or xs i []) x ≡ false = same_turned (get_or xs i []) x ∙ none_at (same_name x) xs i (omega arith) a.0 in
    rw f (ap suc (place_own xs a.1 i (omega arith)))

-- so a number stays where the lists are the same
pub renumbered_same : (l : List Name) → unlike same_name l ≡ true → (n : ℕ) → renumbered l l n ≡ n
renumbered_same l u n = go (leb 1 n) refl (leb n (length l)) refl
  where
    go : (t : Bool) → leb 1 n ≡ t → (v : Bool) → leb n (length l) ≡ v → (when t && v then suc (place (same_name (get_or l (n - 1) [])) l) else n) ≡ n
    go true e true f =
        let p : 1 ≤ n = leb-true 1 n e in
        let q : n ≤ length l = leb-true n (length l) f in
        omega (arith, place_own l u (n - 1) (omega arith))
    go true e false f = refl
    go false e v f = refl

-- names that a list does not have are all of those beside it
pub none_in : (k l : List Name) → unlike same_name (k ++ l) ≡ true → (i : ℕ) → i < length l → any (same_name (get_or l i [])) k ≡ false
none_in [] l u i h = refl
none_in (x ∷ k) l u i h =
    let a = apart_here x (k ++ l) u in
    let f : same_name (get_or l i []) x ≡ false = same_turned (get_or l i []) x ∙ none_at (same_name x) l i h (none_right (same_name x) k l a.0) in
    rw f (none_in k l a.1 i h)

all_kept : (p : Name → Bool) (l : List Name) → ((i : ℕ) → i < length l → p (get_or l i []) ≡ true) → filter p l ≡ l
all_kept p [] h = refl
all_kept p (x ∷ xs) h = rw (h 0 (omega arith)) (ap (λ (r : List Name). x ∷ r) (all_kept p xs (λ i l. h (suc i) (omega arith))))

pub all_new : (k l : List Name) → unlike same_name (k ++ l) ≡ true → filter (λ x. not (any (same_name x) k)) l ≡ l
all_new k l u = all_kept (λ x. not (any (same_name x) k)) l (λ i h. ap not (none_in k l u i h))

and_last : (a b : Bool) → (a && b) ≡ true → b ≡ true
and_last true b e = e
and_last false b e = absurd (true≢false (sym e))

-- no two names of a list past question 2 are the same
pub names_apart_lem : (ns : List ℕ) → names_fit ns ≡ true → unlike same_name (fixed ++ listed ns) ≡ true
names_apart_lem ns e = and_last (names_few ns && names_short ns && names_sized ns && names_ended ns) (unlike same_name (fixed ++ listed ns)) e
