-- Question 2 part by part, and names by number.
use mathlib.Core.Path.{◌≡◌, refl, sym, ap, ◌∙◌}
use mathlib.Core.Bool.{Bool, true, false, ◌&&◌}
use mathlib.Core.List.{List, [], ◌++◌}
use Prim.Native.Nat.{ℕ, ◌+◌, ◌-◌, ◌<◌, ◌≤◌}
use native.Mathlib.Omega.{arith}
use lib.ListN.{length, get_or, get_or-append, get_or-eq_default}
use lib.Seq.{get_or-append-add}
use borrow.Author.Tests.{le-leb, lt-leb, leb-true}
use Rattle.definition.specs.Names.{fixed, listed, names_few, names_short, names_sized, names_ended, names_unlike, names_fit}
use Rattle.definition.proofs.Lists.Tests.{T_true}
use Rattle.names.specs.Listed.{starts, numbered, named}
use Rattle.names.proofs.Laws.{and_false, table_size}

-- the name of a number, fixed and listed
pub fixed_named : (w : List ℕ) (n : ℕ) → n < 25 → 0 < n → get_or fixed (n - 1) [] ≡ named (numbered w) n
fixed_named w n h some = sym (get_or-append fixed (listed w) [] (n - 1) (omega arith))

pub listed_named : (w : List ℕ) (n : ℕ) → 25 ≤ n → get_or (listed w) (n - 25) [] ≡ named (numbered w) n
listed_named w n h =
    let e : 24 + (n - 25) ≡ n - 1 = omega arith in
    sym (get_or-append-add fixed (listed w) (n - 25) []) ∙ ap (λ (k : ℕ). get_or (fixed ++ listed w) k []) e

pub none_named : (w : List ℕ) {t : List ℕ} → t ≡ starts w → (n : ℕ) → 25 ≤ n → length t ≤ n - 25 + 1 → named (numbered w) n ≡ []
none_named w table n h out = sym (listed_named w n h) ∙ get_or-eq_default (listed w) [] (omega (arith, table_size w table))

sizes_no : (f s z e u : Bool) → (f && z) ≡ false → (f && s && z && e && u) ≡ false
sizes_no false s z e u p = refl
sizes_no true s z e u p = ap (λ (t : Bool). t && e && u) (and_false s p)

sizes_yes : (f s z e u : Bool) → s ≡ true → e ≡ true → (f && z) ≡ true → (f && s && z && e && u) ≡ u
sizes_yes true s z e u p q r = rw (p, q, r)
sizes_yes false s z e u p q r = absurd (T_true false r)

left_true : (f z : Bool) → (f && z) ≡ true → f ≡ true
left_true true z e = refl
left_true false z e = e

right_true : (f z : Bool) → (f && z) ≡ true → z ≡ true
right_true true z e = e
right_true false z e = absurd (T_true false e)

module _ (w : List ℕ) where
  pub few_of : (names_few w && names_sized w) ≡ true → length (listed w) ≤ 1024
  few_of e = leb-true (length (listed w)) 1024 (left_true (names_few w) (names_sized w) e)

  pub unfit_long : 32768 < length w → names_fit w ≡ false
  unfit_long h = ap (λ (t : Bool). t && names_sized w && names_ended w && names_unlike w) (and_false (names_few w) (lt-leb (length w) 32768 h))

  pub unfit_open : names_ended w ≡ false → names_fit w ≡ false
  unfit_open e = ap (λ (t : Bool). t && names_unlike w) (and_false (names_few w && names_short w && names_sized w) e)

  pub unfit_sizes : (names_few w && names_sized w) ≡ false → names_fit w ≡ false
  unfit_sizes e = sizes_no (names_few w) (names_short w) (names_sized w) (names_ended w) (names_unlike w) e

  pub fit_rest : length w ≤ 32768 → names_ended w ≡ true → (names_few w && names_sized w) ≡ true → names_fit w ≡ names_unlike w
  fit_rest h e f = sizes_yes (names_few w) (names_short w) (names_sized w) (names_ended w) (names_unlike w) (le-leb (length w) 32768 h) e f

  -- what passes question 2 is small
  pub fit_small : names_fit w ≡ true → (length (listed w) ≤ 1024) × (length w ≤ 32768)
  fit_small e =
      let ended = left_true (names_few w && names_short w && names_sized w && names_ended w) (names_unlike w) e in
      let all_sized = left_true (names_few w && names_short w && names_sized w) (names_ended w) ended in
      let short = left_true (names_few w && names_short w) (names_sized w) all_sized in
      (leb-true (length (listed w)) 1024 (left_true (names_few w) (names_short w) short), leb-true (length w) 32768 (right_true (names_few w) (names_short w) short))

  -- and its names are unlike
  pub fit_unlike : names_fit w ≡ true → names_unlike w ≡ true
  fit_unlike = right_true (names_few w && names_short w && names_sized w && names_ended w) (names_unlike w)
