-- The clauses of question 23 by the parts that the routines ask.
use Rattle.ast.specs.Code.{code_number}
use Rattle.ast.specs.declared.code.Code.{Code}
use Rattle.ast.specs.declared.code.Code.TheVariants.{Fun, Class, Global}
use mathlib.Core.Path.{◌≡◌, refl, sym, ap, ◌∙◌}
use mathlib.Core.Bool.{Bool, true, false, not, ◌&&◌, ◌||◌}
use mathlib.Core.List.{List, []}
use Prim.Native.Nat.{ℕ, zero, suc, ◌+◌, ◌/◌, ◌≤◌}
use native.Mathlib.Omega.{arith}
use lib.Dec.{eqb, leb, ltb, eqb→eq}
use lib.ListN.{get_or}
use borrow.Author.Tests.{eqb-true, ne_eqb, not-false}
use Rattle.definition.specs.Basics.{when◌then◌else◌, all, any, from, total}
use Rattle.definition.proofs.Lists.Tests.{T_true, and_right}
use Rattle.session.specs.Words.{whole, laid_place, part_of, fields_in, methods_in, members_before, is_function_up_to, is_name_up_to, laid_fits}
use Rattle.session_rows.specs.Rows.{after, number_of}
use Rattle.session_check.specs.Clauses.{last_name, means_right, class_right, classes_right, entry_right}
use Rattle.session_rows.proofs.RunLaws.{total_more}

or_false : (x : Bool) → (x || false) ≡ x
or_false true = refl
or_false false = refl

-- a declaration by its code
means_by : (k : ℕ) (F G M A L N : Bool)
    → ((eqb k 1 && F && G && M) || (eqb k 2 && A && M) || (eqb k 3 && L && N)) ≡ (when eqb k 1 then F && G && M else when eqb k 2 then A && M else when eqb k 3 then L && N else false)
means_by k F G M A L N = go (eqb k 1) refl (eqb k 2) refl (eqb k 3) refl
  where
    go : (a : Bool) → eqb k 1 ≡ a → (b : Bool) → eqb k 2 ≡ b → (c : Bool) → eqb k 3 ≡ c
        → ((a && F && G && M) || (b && A && M) || (c && L && N)) ≡ (when a then F && G && M else when b then A && M else when c then L && N else false)
    go true x true y c z = absurd (omega (arith, eqb-true k 1 x, eqb-true k 2 y))
    go true x false y true z = absurd (omega (arith, eqb-true k 1 x, eqb-true k 3 z))
    go true x false y false z = or_false (F && G && M || false) ∙ or_false (F && G && M)
    go false x true y true z = absurd (omega (arith, eqb-true k 2 y, eqb-true k 3 z))
    go false x true y false z = or_false (A && M)
    go false x false y true z = refl
    go false x false y false z = refl

module _ (w : List ℕ) (e i : ℕ) where
  abbrev p : ℕ
  p = laid_place whole i

  laid_means : laid_fits whole w [] e i
      ≡ (is_name_up_to whole w [] e (get_or w p 0) && means_right w e (get_or w (p + 1) 0) (get_or w (p + 2) 0) (get_or w (p + 3) 0))
  unfolding means_right
  laid_means =
      ap (λ (t : Bool). is_name_up_to whole w [] e (get_or w p 0) && t)
      (means_by (get_or w (p + 1) 0) (is_function_up_to whole w [] e (get_or w (p + 2) 0)) (eqb (get_or w (p + 2) 0 / 2048) e) (eqb (get_or w (p + 3) 0) 0)
      (any (λ j. eqb (number_of w j) (get_or w (p + 2) 0)) (part_of whole w [] e 3)) (ltb (get_or w (p + 2) 0) (get_or w 0 0)) (leb (get_or w (p + 3) 0) 1))

  name_is : {a l : ℕ} {t : Bool} → a ≡ get_or w p 0 → l ≡ last_name w e → t ≡ (leb 1 a && leb a l) → t ≡ is_name_up_to whole w [] e (get_or w p 0)
  name_is {a} q r s = s ∙ ap (λ (x : ℕ). leb 1 a && leb a x) r ∙ ap (λ (x : ℕ). leb 1 x && leb x (last_name w e)) q

  pub laid_yes : {a l k x m : ℕ} {t u : Bool} → a ≡ get_or w p 0 → l ≡ last_name w e → t ≡ (leb 1 a && leb a l) → not t ≡ false
      → k ≡ get_or w (p + 1) 0 → x ≡ get_or w (p + 2) 0 → m ≡ get_or w (p + 3) 0 → u ≡ means_right w e k x m → u ≡ laid_fits whole w [] e i
  laid_yes {k = k} {x = x} {m = m} {t = t} q r s n a b c d =
      d ∙ ap (λ (y : ℕ). means_right w e y x m) a ∙ ap (λ (y : ℕ). means_right w e (get_or w (p + 1) 0) y m) b
      ∙ ap (λ (y : ℕ). means_right w e (get_or w (p + 1) 0) (get_or w (p + 2) 0) y) c
      ∙ ap (λ (y : Bool). y && means_right w e (get_or w (p + 1) 0) (get_or w (p + 2) 0) (get_or w (p + 3) 0)) (sym (not-false t n) ∙ name_is q r s) ∙ sym laid_means

-- members up to a class more
pub members_more : (w : List ℕ) (i : ℕ) {x y : ℕ} → x ≡ members_before whole w [] i → y ≡ fields_in whole w [] i + methods_in whole w [] i → x + y ≡ members_before whole w [] (i + 1)
members_more w i {x} {y} a b =
    let f : ℕ → ℕ = λ j. fields_in whole w [] j + methods_in whole w [] j in
    let s : suc i ≡ i + 1 = omega arith in
    let z : zero + i ≡ i = omega arith in
    let t : total f (from 0 i) + f (zero + i) ≡ total f (from 0 i) + f i = ap (λ (k : ℕ). total f (from 0 i) + f k) z in
    let u : x + y ≡ total f (from 0 i) + f i = ap (λ (k : ℕ). k + y) a ∙ ap (λ (k : ℕ). total f (from 0 i) + k) b in
    u ∙ sym t ∙ sym (total_more f 0 i) ∙ ap (λ (k : ℕ). total f (from 0 k)) s

-- the classes of an entry and its members
module _ (w : List ℕ) (e : ℕ) where
  pub classes_no : false ≡ all (class_right w e) (part_of whole w [] e 3) → false ≡ classes_right w e
  unfolding classes_right
  classes_no a = ap (λ (t : Bool). t && eqb (members_before whole w [] (after w (suc e) 3)) (after w (suc e) 4)) a

  pub classes_end : {i n m k : ℕ} → true ≡ all (class_right w e) (part_of whole w [] e 3) → n ≡ after w (suc e) 3 → i ≤ n → n ≤ i → m ≡ members_before whole w [] i
      → k ≡ after w (suc e) 4 → eqb m k ≡ classes_right w e
  unfolding classes_right
  classes_end {i} {n} {m} {k} a b l h c d =
      let q : i ≡ after w (suc e) 3 = omega arith in
      ap (eqb m) d ∙ ap (λ (x : ℕ). eqb x (after w (suc e) 4)) (c ∙ ap (members_before whole w []) q)
      ∙ ap (λ (t : Bool). t && eqb (members_before whole w [] (after w (suc e) 3)) (after w (suc e) 4)) a

-- one entry more
pub after_next : (w : List ℕ) (e c : ℕ) → after w (e + 1) c ≡ after w (suc e) c
after_next w e c = let s : e + 1 ≡ suc e = omega arith in ap (λ (k : ℕ). after w k c) s

pub entry_members : (w : List ℕ) (e : ℕ) {x : Bool} → x ≡ entry_right w e → x ≡ true → members_before whole w [] (after w (e + 1) 3) ≡ after w (e + 1) 4
unfolding entry_right classes_right
entry_members w e a b =
    let t = T_true (entry_right w e) (sym a ∙ b) in
    let c = and_right (all (laid_fits whole w [] e) (part_of whole w [] e 2)) (classes_right w e) t in
    let m = and_right (all (class_right w e) (part_of whole w [] e 3)) (eqb (members_before whole w [] (after w (suc e) 3)) (after w (suc e) 4)) c in
    ap (members_before whole w []) (after_next w e 3) ∙ eqb→eq (members_before whole w [] (after w (suc e) 3)) (after w (suc e) 4) m ∙ sym (after_next w e 4)

-- a number that is no code means nothing
pub means_nothing : (w : List ℕ) (e : ℕ) {c : ℕ} (x m : ℕ) → ((y : Code) → c ≡ code_number y → ⊥) → false ≡ means_right w e c x m
unfolding means_right
means_nothing w e {c} x m f = rw (ne_eqb c 1 (f Fun), ne_eqb c 2 (f Class), ne_eqb c 3 (f Global))
