-- A circle that is answered is one: its class is an ancestor of itself.
use mathlib.Core.Path.{◌≡◌, refl, sym, ap, subst, ◌∙◌}
use mathlib.Core.Bool.{Bool, true, false, ◌||◌}
use mathlib.Core.List.{List, [], ◌∷◌}
use Prim.Native.Nat.{ℕ, zero, suc}
use native.Mathlib.Omega.{arith}
use lib.Dec.{T, eqb, ltb}
use lib.ListN.{get_or}
use borrow.Author.Tests.{eqb-true}
use Rattle.definition.specs.Basics.{◌∈?◌}
use Rattle.std.specs.Prelude.{Ok, Err}
use Rattle.climb.specs.declared.ClimbError.TheVariants.{Circle, NoRecord}
use Rattle.climb.specs.Process.{Ending, lacks_record, climb_from}
use Rattle.climb.proofs.StepLaws.{chosen}

-- the n-th parent up from class c
abbrev pub ancestor : List ℕ → ℕ → ℕ → ℕ
ancestor parents zero c = c
ancestor parents (suc n) c = ancestor parents n (get_or parents c 0)

ancestor_last : (parents : List ℕ) (n c : ℕ) → get_or parents (ancestor parents n c) 0 ≡ ancestor parents (suc n) c
ancestor_last parents zero c = refl
ancestor_last parents (suc n) c = ancestor_last parents n (get_or parents c 0)

-- class c is above all of a lineage
abbrev Above : List ℕ → List ℕ → ℕ → Type 0
Above parents lineage c = (j : ℕ) → (j ∈? lineage) ≡ true → (k : ℕ) × (ancestor parents (suc k) j ≡ c)

above_more : (parents lineage : List ℕ) (c : ℕ) → Above parents lineage c → Above parents (c ∷ lineage) (get_or parents c 0)
above_more parents lineage c h j d = go (eqb j c) refl
  where
    go : (t : Bool) → eqb j c ≡ t → (k : ℕ) × (ancestor parents (suc k) j ≡ get_or parents c 0)
    go true e = (0, ap (λ (i : ℕ). get_or parents i 0) (eqb-true j c e))
    go false e =
        let x = h j (sym (ap (λ (t : Bool). t || (j ∈? lineage)) e) ∙ d) in
        (suc x.0, sym (ancestor_last parents (suc x.0) j) ∙ ap (λ (i : ℕ). get_or parents i 0) x.1)

back : (parents : List ℕ) (size n : ℕ) (lineage : List ℕ) (b c : ℕ) → Above parents lineage b → climb_from parents size n lineage b ≡ Err (Circle c)
    → (k : ℕ) × (ancestor parents (suc k) c ≡ c)
back parents size zero lineage b c h e = let z : ◌≡◌ {A = ℕ} 0 1 = cc in absurd (omega arith)
back parents size (suc n) lineage b c h e =
    go (ltb b size) (b ∈? lineage) refl (lacks_record parents b) e
    (back parents size n (b ∷ lineage) (get_or parents b 0) c (above_more parents lineage b h))
  where
    up : Ending
    up = climb_from parents size n (b ∷ lineage) (get_or parents b 0)

    go : (t u : Bool) → (b ∈? lineage) ≡ u → (v : Bool) → chosen (Ok tt) (Err (Circle b)) (Err (NoRecord b)) up t u v ≡ Err (Circle c)
        → (up ≡ Err (Circle c) → (k : ℕ) × (ancestor parents (suc k) c ≡ c)) → (k : ℕ) × (ancestor parents (suc k) c ≡ c)
    go false u d v f later = let z : ◌≡◌ {A = ℕ} 0 1 = cc in absurd (omega arith)
    go true true d v f later =
        let same : b ≡ c = cc in
        let x = h b d in
        (x.0, subst (λ (i : ℕ). ancestor parents (suc x.0) i ≡ i) same x.1)
    go true false d true f later = let z : ◌≡◌ {A = ℕ} 0 1 = cc in absurd (omega arith)
    go true false d false f later = later f

pub circle_comes_back : (parents : List ℕ) (size n start : ℕ) {c : ℕ} → climb_from parents size n [] start ≡ Err (Circle c)
    → (k : ℕ) × (ancestor parents (suc k) c ≡ c)
circle_comes_back parents size n start {c} e = back parents size n [] start c (λ j d. absurd (subst T (sym d) tt)) e
