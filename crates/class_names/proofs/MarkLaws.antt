-- The marks of the classes that have children, one sheet row at a time.
use mathlib.Core.Path.{◌≡◌, refl, sym, ap, ◌∙◌}
use mathlib.Core.Bool.{Bool, true, false, not, ◌&&◌, ◌||◌}
use mathlib.Core.List.{List}
use Prim.Native.Nat.{ℕ, suc, ◌+◌, ◌-◌, ◌<◌, ◌≤◌}
use native.Mathlib.Omega.{arith}
use lib.Dec.{eqb, leb}
use lib.ListN.{length, get_or, set}
use lib.Seq.{get_or-set_same, get_or-set_other}
use borrow.Author.Tests.{ne_eqb, eqb-true, eqb-false, leb-true, leb-false}
use Rattle.definition.specs.Basics.{when◌then◌else◌, any, from}
use Rattle.definition.specs.Sheet.{Sheet, rows, is}
use Rattle.machine.specs.Machine.{cell}
use Rattle.after.specs.Inherited.{has_children_in}
use Rattle.class_names.specs.Names.{ParentMarks, mark_parent}
use Rattle.class_names.proofs.NameLaws.{or_false}

or_true : (t : Bool) → (t || true) ≡ true
or_true true = refl
or_true false = refl

or_assoc : (u v w : Bool) → ((u || v) || w) ≡ (u || (v || w))
or_assoc true v w = refl
or_assoc false v w = refl

-- is class 256 + j the parent of one of the n rows from i on?
abbrev parent_of_some : Sheet → List ℕ → ℕ → ℕ → ℕ → Bool
parent_of_some s t j i n = any (λ r. is s 4 r && eqb (cell t r 1) (256 + j)) (from i n)

-- The marked rows and the rows from i on tell all parents.
abbrev pub MarkedTo : Sheet → List ℕ → List ℕ → ℕ → Type 0
MarkedTo s t marks i = (j : ℕ) → j < rows s → (not (eqb (get_or marks j 0) 0) || parent_of_some s t j i (rows s - i)) ≡ parent_of_some s t j 0 (rows s)

-- one row more
mark_one : (s : Sheet) (t marks : List ℕ) (i j : ℕ) → j < length marks
    → not (eqb (get_or (mark_parent s t i marks) j 0) 0) ≡ (not (eqb (get_or marks j 0) 0) || (is s 4 i && eqb (cell t i 1) (256 + j)))
unfolding mark_parent
mark_one s t marks i j l = by_kind (is s 4 i)
  where
    by_place : (u : Bool) → eqb (cell t i 1) (256 + j) ≡ u → 256 ≤ cell t i 1 → not (eqb (get_or (set marks (cell t i 1 - 256) 1) j 0) 0) ≡ (not (eqb (get_or marks j 0) 0) || u)
    by_place true e b =
        let h : cell t i 1 ≡ 256 + j = eqb-true (cell t i 1) (256 + j) e in
        let g : cell t i 1 - 256 ≡ j = omega arith in
        rw (g, get_or-set_same marks j 1 0 l) (sym (or_true (not (eqb (get_or marks j 0) 0))))
    by_place false e b =
        let h : (cell t i 1 ≡ 256 + j → ⊥) = eqb-false (cell t i 1) (256 + j) e in
        rw (get_or-set_other marks (cell t i 1 - 256) j 1 0 (λ g. h (omega arith))) (sym (or_false (not (eqb (get_or marks j 0) 0))))

    by_number : (u : Bool) → leb 256 (cell t i 1) ≡ u
        → not (eqb (get_or (when u then set marks (cell t i 1 - 256) 1 else marks) j 0) 0) ≡ (not (eqb (get_or marks j 0) 0) || eqb (cell t i 1) (256 + j))
    by_number true e = by_place (eqb (cell t i 1) (256 + j)) refl (leb-true 256 (cell t i 1) e)
    by_number false e =
        let b : cell t i 1 < 256 = leb-false 256 (cell t i 1) e in
        rw (ne_eqb (cell t i 1) (256 + j) (λ h. omega arith)) (sym (or_false (not (eqb (get_or marks j 0) 0))))

    by_kind : (u : Bool) → not (eqb (get_or (when u && leb 256 (cell t i 1) then set marks (cell t i 1 - 256) 1 else marks) j 0) 0)
        ≡ (not (eqb (get_or marks j 0) 0) || (u && eqb (cell t i 1) (256 + j)))
    by_kind true = by_number (leb 256 (cell t i 1)) refl
    by_kind false = sym (or_false (not (eqb (get_or marks j 0) 0)))

pub marked_next : (s : Sheet) (t marks : List ℕ) (i : ℕ) {after : List ℕ} → i < rows s → rows s ≤ length marks → after ≡ mark_parent s t i marks → MarkedTo s t marks i → MarkedTo s t after (i + 1)
marked_next s t marks i {after} l b e h j g =
    let k : j < length marks = omega arith in
    ap (λ (u : List ℕ). not (eqb (get_or u j 0) 0) || parent_of_some s t j (i + 1) (rows s - (i + 1))) e
    ∙ ap (λ (u : Bool). u || parent_of_some s t j (i + 1) (rows s - (i + 1))) (mark_one s t marks i j k)
    ∙ or_assoc (not (eqb (get_or marks j 0) 0)) (is s 4 i && eqb (cell t i 1) (256 + j)) (parent_of_some s t j (i + 1) (rows s - (i + 1)))
    ∙ ap (λ (u : Bool). not (eqb (get_or marks j 0) 0) || u) rest
    ∙ h j g
  where
    rest : ((is s 4 i && eqb (cell t i 1) (256 + j)) || parent_of_some s t j (i + 1) (rows s - (i + 1))) ≡ parent_of_some s t j i (rows s - i)
    rest =
        let n : rows s - i ≡ suc (rows s - (i + 1)) = omega arith in
        let o : i + 1 ≡ suc i = omega arith in
        sym (ap (parent_of_some s t j i) n ∙ ap (λ (x : ℕ). (is s 4 i && eqb (cell t i 1) (256 + j)) || parent_of_some s t j x (rows s - (i + 1))) (sym o))

pub marked_end : (s : Sheet) (t marks : List ℕ) (i : ℕ) → rows s ≤ i → rows s ≤ length marks → MarkedTo s t marks i → ParentMarks s t marks
unfolding has_children_in
marked_end s t marks i l b h =
    record {
      room = b;
      told =
          λ o q j g. sym (or_false (not (eqb (get_or marks j 0) 0)))
          ∙ ap (λ (n : ℕ). not (eqb (get_or marks j 0) 0) || parent_of_some s t j i n) (sym none)
          ∙ h j g;
    }
  where
    none : rows s - i ≡ 0
    none = omega arith
