-- A table read by a match on a number: the last arm by a test over the whole table.
use mathlib.Core.Path.{◌≡◌}
use mathlib.Core.Logic.{◌⊎◌, inl, inr}
use mathlib.Core.Bool.{◌||◌}
use mathlib.Core.List.{List, [], ◌∷◌}
use Prim.Native.Nat.{ℕ, ◌<◌, ◌≤◌}
use native.Mathlib.Omega.{arith}
use lib.Dec.{eqb, T, eqb→eq}
use Rattle.definition.specs.Basics.{all, from, any}
use Rattle.definition.proofs.Lists.Tests.{or_cases, ℕ-trichotomy}
use Rattle.definition.proofs.Lists.Counts.{all_below}

-- n is one of an arm's numbers: k or one of ks
abbrev pub OneOf : ℕ → ℕ → List ℕ → Type 0
OneOf n k [] = n ≡ k
OneOf n k (j ∷ ks) = (n ≡ k) ⊎ OneOf n j ks

-- n is the number of no arm; the last arm comes first, as the fact about a match has it
abbrev pub Outside : ℕ → List (List ℕ) → Type 0
Outside n [] = Unit
Outside n ([] ∷ arms) = Outside n arms
Outside n ((k ∷ ks) ∷ arms) = Outside n arms × (OneOf n k ks → ⊥)

one_of : (n k : ℕ) (ks : List ℕ) → T (any (eqb n) (k ∷ ks)) → OneOf n k ks
one_of n k [] h = go (or_cases (eqb n k) (any (eqb n) []) h)
  where
    go : T (eqb n k) ⊎ T (any (eqb n) []) → n ≡ k
    go (inl x) = eqb→eq n k x
    go (inr x) = absurd x
one_of n k (j ∷ ks) h = go (or_cases (eqb n k) (any (eqb n) (j ∷ ks)) h) (one_of n j ks)
  where
    go : T (eqb n k) ⊎ T (any (eqb n) (j ∷ ks)) → (T (any (eqb n) (j ∷ ks)) → OneOf n j ks) → (n ≡ k) ⊎ OneOf n j ks
    go (inl x) up = inl (eqb→eq n k x)
    go (inr x) up = inr (up x)

nowhere : (arms : List (List ℕ)) (n : ℕ) → T (any (any (eqb n)) arms) → Outside n arms → ⊥
nowhere [] n h o = h
nowhere ([] ∷ arms) n h o = nowhere arms n h o
nowhere ((k ∷ ks) ∷ arms) n h o = go (or_cases (any (eqb n) (k ∷ ks)) (any (any (eqb n)) arms) h) (nowhere arms n)
  where
    go : T (any (eqb n) (k ∷ ks)) ⊎ T (any (any (eqb n)) arms) → (T (any (any (eqb n)) arms) → Outside n arms → ⊥) → ⊥
    go (inl x) up = o.1 (one_of n k ks x)
    go (inr x) up = up x o.0

pub none_of : (p : ℕ → ℕ) (m : ℕ) (arms : List (List ℕ)) → T (all (λ k. eqb (p k) 0 || any (any (eqb k)) arms) (from 0 m)) → ((k : ℕ) → m ≤ k → p k ≡ 0)
    → (n : ℕ) → Outside n arms → p n ≡ 0
none_of p m arms h beyond n o = go (ℕ-trichotomy n m)
  where
    inside : T (eqb (p n) 0) ⊎ T (any (any (eqb n)) arms) → p n ≡ 0
    inside (inl x) = eqb→eq (p n) 0 x
    inside (inr x) = absurd (nowhere arms n x o)

    go : (n < m) ⊎ ((n ≡ m) ⊎ (m < n)) → p n ≡ 0
    go (inl l) = inside (or_cases (eqb (p n) 0) (any (any (eqb n)) arms) (all_below (λ k. eqb (p k) 0 || any (any (eqb k)) arms) m h n l))
    go (inr (inl e)) = beyond n (omega arith)
    go (inr (inr l)) = beyond n (omega arith)
