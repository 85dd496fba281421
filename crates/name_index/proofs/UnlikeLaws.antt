-- Question 2 through the index: no two names are the same exactly if each is absent when it is entered.
use mathlib.Core.Path.{◌≡◌, refl, sym, ap, ◌∙◌, subst}
use mathlib.Core.Bool.{Bool, true, false, not, ◌&&◌, ◌||◌}
use mathlib.Core.List.{List, [], ◌∷◌, ◌++◌, append_assoc}
use Prim.Native.Nat.{ℕ, zero, suc, ◌+◌, ◌-◌, ◌<◌, ◌≤◌}
use native.Mathlib.Omega.{arith}
use native.Mathlib.Numerals.{add-one}
use lib.ListN.{length, get_or, take, drop, length-append, get_or-append}
use lib.Seq.{length-take-le, take-suc, split_at}
use Rattle.definition.specs.Basics.{any, unlike}
use Rattle.definition.specs.Names.{Name, same_name}
use Rattle.names.proofs.Laws.{and_false}
use Rattle.name_index.specs.Index.{place_of, turned, enter, index_of, walk, searched}
use Rattle.name_index.proofs.IndexLaws.{Entered, entered_index, index_next, same_equal, same_itself, found_low, found_same, absent_none}

-- sameness either way round
same_turned : (a b : Name) (t : Bool) → same_name a b ≡ t → same_name b a ≡ t
same_turned a b true e = subst (λ (n : Name). same_name n a ≡ true) (same_equal a b e) (same_itself a)
same_turned a b false e = go (same_name b a) refl
  where
    go : (u : Bool) → same_name b a ≡ u → u ≡ false
    go false same = refl
    go true same = sym (subst (λ (n : Name). same_name a n ≡ true) (sym (same_equal b a same)) (same_itself a)) ∙ e

-- tests of a list with y in it
any_there : {A : Type 0} (p : A → Bool) (xs : List A) (y : A) (ys : List A) → p y ≡ true → any p (xs ++ y ∷ ys) ≡ true
any_there p [] y ys e = ap (λ (t : Bool). t || any p ys) e
any_there p (x ∷ xs) y ys e = ap (λ (t : Bool). p x || t) (any_there p xs y ys e) ∙ or_true (p x)
  where
    or_true : (t : Bool) → (t || true) ≡ true
    or_true true = refl
    or_true false = refl

any_last : {A : Type 0} (p : A → Bool) (xs : List A) (y : A) → p y ≡ false → any p (xs ++ y ∷ []) ≡ any p xs
any_last p [] y e = ap (λ (t : Bool). t || false) e
any_last p (x ∷ xs) y e = ap (λ (t : Bool). p x || t) (any_last p xs y e)

pub unlike_not : (xs : List Name) (y : Name) (ys : List Name) (i : ℕ) → i < length xs → same_name (get_or xs i []) y ≡ true
    → unlike same_name (xs ++ y ∷ ys) ≡ false
unlike_not [] y ys i h e = absurd (omega arith)
unlike_not (x ∷ xs) y ys zero h e = ap (λ (t : Bool). not t && unlike same_name (xs ++ y ∷ ys)) (any_there (same_name x) xs y ys e)
unlike_not (x ∷ xs) y ys (suc i) h e = and_false (not (any (same_name x) (xs ++ y ∷ ys))) (unlike_not xs y ys i (omega arith) e)

unlike_last : (xs : List Name) (y : Name) → ((i : ℕ) → i < length xs → same_name (get_or xs i []) y ≡ false)
    → unlike same_name (xs ++ y ∷ []) ≡ unlike same_name xs
unlike_last [] y f = refl
unlike_last (x ∷ xs) y f =
    ap (λ (t : Bool). not t && unlike same_name (xs ++ y ∷ [])) (any_last (same_name x) xs y (f 0 (omega arith)))
    ∙ ap (λ (t : Bool). not (any (same_name x) xs) && t) (unlike_last xs y (λ i h. f (suc i) (omega arith)))

-- name y is looked for among the names before it
module _ (xs : List Name) (y : Name) (ys : List Name) (room : length xs ≤ 2048) where
  entered : Entered (xs ++ y ∷ ys) (length xs) (index_of xs)
  entered = entered_index xs (y ∷ ys) room

  pub found_twice : ((searched (xs ++ y ∷ ys) (index_of xs) y).0 ≡ 0 → ⊥) → unlike same_name (xs ++ y ∷ ys) ≡ false
  found_twice f =
      let n = (searched (xs ++ y ∷ ys) (index_of xs) y).0 in
      let some : (n ≡ 0 → ⊥) = f in
      let inside : n - 1 < length xs = omega (arith, found_low entered y) in
      let same : same_name y (get_or xs (n - 1) []) ≡ true =
      ap (same_name y) (sym (get_or-append xs (y ∷ ys) [] (n - 1) inside)) ∙ found_same entered y f in
      unlike_not xs y ys (n - 1) inside (same_turned y (get_or xs (n - 1) []) true same)

  pub absent_unlike : (searched (xs ++ y ∷ ys) (index_of xs) y).0 ≡ 0 → unlike same_name (xs ++ y ∷ []) ≡ unlike same_name xs
  absent_unlike none =
      unlike_last xs y
      (λ i h. same_turned y (get_or xs i []) false
      (ap (same_name y) (sym (get_or-append xs (y ∷ ys) [] i h)) ∙ absent_none entered y none i (omega arith)))

-- name y stands at place k of the list L, whose names are entered after those of F
module _ (F L : List Name) (k : ℕ) (inside : k < length L) {y : Name} (here : y ≡ get_or L k []) where
  so_far : F ++ take (k + 1) L ≡ (F ++ take k L) ++ y ∷ []
  so_far =
      ap (λ (n : ℕ). F ++ take n L) (add-one k) ∙ ap (λ (l : List Name). F ++ l) (take-suc L k [] inside)
      ∙ ap (λ (n : Name). F ++ (take k L ++ n ∷ [])) (sym here) ∙ sym (append_assoc F (take k L) (y ∷ []))

  whole : F ++ L ≡ (F ++ take k L) ++ y ∷ drop (suc k) L
  whole =
      ap (λ (l : List Name). F ++ l) (split_at L k [] inside)
      ∙ ap (λ (n : Name). F ++ (take k L ++ n ∷ drop (suc k) L)) (sym here) ∙ sym (append_assoc F (take k L) (y ∷ drop (suc k) L))

  size : length (F ++ take k L) ≡ length F + k
  size = length-append F (take k L) ∙ ap (λ (n : ℕ). length F + n) (length-take-le k L (omega arith))

  -- it is entered under its number,
  pub entered_one : {t : List ℕ} {p n : ℕ} → t ≡ index_of (F ++ take k L) → p ≡ place_of y → n ≡ length F + k + 1
      → enter t p n ≡ index_of (F ++ take (k + 1) L)
  entered_one {t} {p} {n} table first number =
      let m : n ≡ suc (length (F ++ take k L)) = omega (arith, number, size) in
      ap (enter t p) m ∙ ap (λ (q : ℕ). enter t q (suc (length (F ++ take k L)))) first
      ∙ ap (λ (v : List ℕ). enter v (place_of y) (suc (length (F ++ take k L)))) table
      ∙ sym (index_next (F ++ take k L) y) ∙ sym (ap index_of so_far)

  -- after n was found where it was looked for
  module _ (room : length F + length L ≤ 2048) {t : List ℕ} {p n : ℕ} (table : t ≡ index_of (F ++ take k L)) (first : p ≡ place_of y)
      (found : n ≡ (walk (F ++ L) y (turned p t)).0) where
    looked : n ≡ (searched ((F ++ take k L) ++ y ∷ drop (suc k) L) (index_of (F ++ take k L)) y).0
    looked =
        found ∙ ap (λ (q : ℕ). (walk (F ++ L) y (turned q t)).0) first ∙ ap (λ (v : List ℕ). (searched (F ++ L) v y).0) table
        ∙ ap (λ (l : List Name). (searched l (index_of (F ++ take k L)) y).0) whole

    pub named_twice : (n ≡ 0 → ⊥) → unlike same_name (F ++ L) ≡ false
    named_twice f =
        ap (unlike same_name) whole
        ∙ found_twice (F ++ take k L) y (drop (suc k) L) (omega (arith, size)) (λ z. f (looked ∙ z))

    pub named_once : n ≡ 0 → unlike same_name (F ++ take (k + 1) L) ≡ unlike same_name (F ++ take k L)
    named_once z = ap (unlike same_name) so_far ∙ absent_unlike (F ++ take k L) y (drop (suc k) L) (omega (arith, size)) (sym looked ∙ z)
