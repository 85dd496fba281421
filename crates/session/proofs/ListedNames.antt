-- Names with their ends, listed again: a name that holds no end comes back.
use mathlib.Core.Path.{◌≡◌, refl, sym, ap, ◌∙◌, subst}
use mathlib.Core.Bool.{Bool, true, false, not}
use mathlib.Core.List.{List, [], ◌∷◌, ◌++◌, append-nil, append_assoc}
use Prim.Native.Nat.{ℕ, ◌+◌, ◌-◌, ◌<◌}
use native.Mathlib.Omega.{arith}
use lib.ListN.{length, get_or, length-append}
use lib.Seq.{get_or-append-add}
use lib.Dec.{eqb, T}
use Rattle.definition.specs.Basics.{when◌then◌else◌, all, concat_map}
use Rattle.definition.specs.Names.{Name, lead, listed, names_ended}
use Rattle.definition.proofs.Lists.Tests.{and_both, and_left, and_right, if_false, eqb_of}
use Rattle.session.specs.Words.{ended}
use Rattle.session.proofs.CountLaws.{ended_back}

-- does a name hold no end?
abbrev pub endless : Name → Bool
endless x = all (λ c. not (eqb c 10)) x

-- no listed name does
pub listed_endless : (ns : List ℕ) → T (all endless (listed ns))
listed_endless [] = tt
listed_endless (c ∷ ns) = go (eqb c 10) refl (listed_endless ns)
  where
    led : (l : List Name) → T (not (eqb c 10)) → T (all endless l) → T (all endless (lead c l))
    led [] h k = and_both (endless (c ∷ [])) true (and_both (not (eqb c 10)) true h tt) tt
    led (x ∷ l) h k =
        and_both (endless (c ∷ x)) (all endless l) (and_both (not (eqb c 10)) (endless x) h (and_left (endless x) (all endless l) k)) (and_right (endless x) (all endless l) k)

    go : (t : Bool) → eqb c 10 ≡ t → T (all endless (listed ns)) → T (all endless (when t then [] ∷ listed ns else lead c (listed ns)))
    go true q k = k
    go false q k = led (listed ns) (subst (λ (t : Bool). T (not t)) (sym q) tt) k

-- a name and its end
listed_one : (x : Name) → T (endless x) → (ns : List ℕ) → listed (ended x ++ ns) ≡ x ∷ listed ns
listed_one [] h ns = refl
listed_one (c ∷ x) h ns =
    if_false (eqb c 10) ([] ∷ listed (ended x ++ ns)) (lead c (listed (ended x ++ ns))) (and_left (not (eqb c 10)) (endless x) h)
    ∙ ap (lead c) (listed_one x (and_right (not (eqb c 10)) (endless x) h) ns)

-- and names and their ends
pub listed_ended : (l : List Name) → T (all endless l) → (ns : List ℕ) → listed (concat_map ended l ++ ns) ≡ l ++ listed ns
listed_ended [] h ns = refl
listed_ended (x ∷ l) h ns =
    ap listed (append_assoc (ended x) (concat_map ended l) ns) ∙ listed_one x (and_left (endless x) (all endless l) h) (concat_map ended l ++ ns)
    ∙ ap (λ (r : List Name). x ∷ r) (listed_ended l (and_right (endless x) (all endless l) h) ns)

pub listed_back : (l : List Name) → T (all endless l) → listed (concat_map ended l) ≡ l
listed_back l h = ap listed (sym (append-nil (concat_map ended l))) ∙ listed_ended l h [] ∙ append-nil l

-- a list of bytes that ends with an end, with more names after it
pub listed_more : (ns : List ℕ) → names_ended ns ≡ true → (l : List Name) → T (all endless l) → listed (ns ++ concat_map ended l) ≡ listed ns ++ l
listed_more ns e l h =
    ap (λ (b : List ℕ). listed (b ++ concat_map ended l)) (sym (ended_back ns e))
    ∙ listed_ended (listed ns) (listed_endless ns) (concat_map ended l) ∙ ap (λ (r : List Name). listed ns ++ r) (listed_back l h)

-- names with their ends end with one
pub ended_ends : (l : List Name) → T (names_ended (concat_map ended l))
ended_ends [] = tt
ended_ends (x ∷ l) = go l (ended_ends l)
  where
    last_is : (xs ys : List ℕ) → 0 < length ys → get_or (xs ++ ys) (length (xs ++ ys) - 1) 10 ≡ get_or ys (length ys - 1) 10
    last_is xs ys h =
        let q : length (xs ++ ys) - 1 ≡ length xs + (length ys - 1) = omega (arith, length-append xs ys) in
        ap (λ (k : ℕ). get_or (xs ++ ys) k 10) q ∙ get_or-append-add xs ys (length ys - 1) 10

    long : (y : Name) (l : List Name) → 0 < length (concat_map ended (y ∷ l))
    long y l = omega (arith, length-append (ended y) (concat_map ended l), length-append y (10 ∷ []))

    go : (l : List Name) → T (names_ended (concat_map ended l)) → T (names_ended (ended x ++ concat_map ended l))
    go [] h = eqb_of _ 10 (ap (λ (z : List ℕ). get_or z (length z - 1) 10) (append-nil (ended x)) ∙ last_is x (10 ∷ []) (omega arith))
    go (y ∷ l) h = subst (λ (k : ℕ). T (eqb k 10)) (sym (last_is (ended x) (concat_map ended (y ∷ l)) (long y l))) h
