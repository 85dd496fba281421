-- How many values code and values of a declaration have, and a fourth value beside them.
use mathlib.Core.Path.{◌≡◌, refl, sym, ap, ◌∙◌, subst}
use mathlib.Core.List.{List, [], ◌∷◌}
use mathlib.Core.Bool.{Bool, true, false, not, ◌&&◌}
use Prim.Native.Nat.{ℕ, ◌≤◌}
use native.Mathlib.Omega.{arith}
use lib.ListN.{length, get_or}
use lib.Dec.{eqb, leb, T}
use borrow.Author.Tests.{leb-true}
use Rattle.definition.specs.Basics.{when◌then◌else◌, place, bit}
use Rattle.definition.specs.Sheet.{Sheet, b, is, kids_of, holder, function_of}
use Rattle.definition.specs.Meaning.{Meaning, nothing, function, class, global, toplevel, variable, owner_of, is_variable}
use Rattle.definition.specs.Scope.{Moment}
use Rattle.definition.specs.Slots.{is_mutable, code}
use Rattle.definition.specs.Capture.{Use, same, captures, seen_from}
use Rattle.definition.specs.Answer.{eight, with_fourth}
use Rattle.definition.specs.Claims.{Row, rows_for, Follows, ends, steps}

-- a code and at most three values
abbrev pub short : List ℕ → Bool
short vs = leb (length vs) 4

pub code_short : (s : Sheet) (h : List Moment) (d : Meaning) (k : ℕ) → short (code s h d k) ≡ true
code_short s h nothing k = refl
code_short s h (function f) k = refl
code_short s h (class c) k = refl
code_short s h (global g m) k = refl
code_short s h (toplevel r) k = refl
code_short s h (variable r f) k = go (is s 11 r)
  where
    go : (t : Bool) → short (when t then 4 ∷ place (eqb r) (kids_of s 11 f) ∷ f ∷ [] else 5 ∷ k ∷ f ∷ bit (eqb (b s r) 1) ∷ []) ≡ true
    go true = refl
    go false = refl

pub seen_short : (s : Sheet) (h : List Moment) (f : ℕ) (u : Use) → short (seen_from s h f u) ≡ true
seen_short s h f u = go (is_variable u.means && not (eqb (owner_of u.means) f))
  where
    go : (t : Bool) → short (when t then 6 ∷ place (same u) (captures s h f) ∷ 0 ∷ bit (is_mutable s u.means) ∷ [] else code s h u.means u.slot) ≡ true
    go true = refl
    go false = code_short s h u.means u.slot

-- a fourth value of 0 changes nothing
pub no_fourth : (r : ℕ) (vs : List ℕ) → short vs ≡ true → eight (r ∷ with_fourth 0 vs) ≡ eight (r ∷ vs)
no_fourth r [] h = refl
no_fourth r (x ∷ []) h = refl
no_fourth r (x ∷ y ∷ []) h = refl
no_fourth r (x ∷ y ∷ z ∷ []) h = refl
no_fourth r (x ∷ y ∷ z ∷ w ∷ []) h = refl
no_fourth r (x ∷ y ∷ z ∷ w ∷ v ∷ vs) h =
    let l : length (x ∷ y ∷ z ∷ w ∷ v ∷ vs) ≤ 4 = leb-true (length (x ∷ y ∷ z ∷ w ∷ v ∷ vs)) 4 h in absurd (omega arith)

-- any other leaves code and first value
fourth_code : (r n : ℕ) (vs : List ℕ) → get_or (eight (r ∷ with_fourth n vs)) 1 0 ≡ get_or (eight (r ∷ vs)) 1 0
fourth_code r n [] = refl
fourth_code r n (x ∷ vs) = refl

fourth_first : (r n : ℕ) (vs : List ℕ) → get_or (eight (r ∷ with_fourth n vs)) 2 0 ≡ get_or (eight (r ∷ vs)) 2 0
fourth_first r n [] = refl
fourth_first r n (x ∷ []) = refl
fourth_first r n (x ∷ y ∷ vs) = refl

-- following reads code and first value alone, and ends at the row itself
follows_as : {s : Sheet} {out : List Row} {x x' y : Row} {n : ℕ} → (n ≡ 0 → x ≡ x') → get_or x' 0 0 ≡ get_or x 0 0 → get_or x' 1 0 ≡ get_or x 1 0 → get_or x' 2 0 ≡ get_or x 2 0
    → Follows s out x n y → Follows s out x' n y
follows_as {s} {out} e e₀ e₁ e₂ (ends {x} c) = subst (λ (z : Row). Follows s out z 0 x) (e refl) (ends c)
follows_as {s} {out} {x} {x'} e e₀ e₁ e₂ (steps {y = y} {n} c t f) =
    steps (e₁ ∙ c) (subst (λ (j : ℕ). T (is s 52 (holder s (function_of s j)))) (sym e₀) t)
    (subst (λ (z : Row). Follows s out z n y)
    (sym (ap (λ (j : ℕ). get_or (rows_for out (holder s (function_of s j))) (get_or x' 2 0) []) e₀
    ∙ ap (λ (i : ℕ). get_or (rows_for out (holder s (function_of s (get_or x 0 0)))) i []) e₂)) f)

-- so a row whose fourth value is the number of steps leads where it leads without it
pub fourth_follows : {s : Sheet} {out : List Row} (r n : ℕ) (vs : List ℕ) {y : Row} → short vs ≡ true
    → Follows s out (eight (r ∷ vs)) n y → Follows s out (eight (r ∷ with_fourth n vs)) n y
fourth_follows r n vs h f =
    follows_as (λ e. sym (ap (λ (k : ℕ). eight (r ∷ with_fourth k vs)) e ∙ no_fourth r vs h)) refl (fourth_code r n vs) (fourth_first r n vs) f
