-- Words that differ in their counts alone: every row reads the same, and the tests of declarations and classes are the same.
use mathlib.Core.Path.{◌≡◌, ap, ◌∙◌}
use mathlib.Core.Bool.{Bool, ◌||◌}
use mathlib.Core.List.{List, map}
use Prim.Native.Nat.{ℕ, suc, ◌+◌, ◌-◌, ◌≤◌}
use native.Mathlib.Omega.{arith}
use lib.ListN.{get_or}
use lib.Dec.{eqb}
use Rattle.definition.specs.Basics.{when◌then◌else◌, any, every, from}
use Rattle.definition.specs.Outside.{is_recorded, core}
use Rattle.definition.proofs.Lists.Members.{map_same}
use Rattle.session.specs.Session.{Class}
use Rattle.session.specs.Words.{Room, entry_place, laid_place, class_place, member_place, count_after, part_of, laid_in, fields_in, methods_in, members_before, class_in}
use Rattle.session.specs.Words.{is_class_up_to, laid_fits, class_fits}
use Rattle.session.proofs.Extended.{method_from, total_same, any_same, class_list}

module _ (R : Room) (w n v : List ℕ) (globals : get_or v 0 0 ≡ get_or w 0 0) (later : (p : ℕ) → 8 ≤ p → get_or v p 0 ≡ get_or w p 0) where
  pub count_same : (e c : ℕ) → count_after R v n e c ≡ count_after R w n e c
  count_same e c = ap (λ (x : ℕ). when eqb e 0 then 0 else x) (later (entry_place R (e - 1) + c) (omega arith))

  pub part_same : (e c : ℕ) → part_of R v n e c ≡ part_of R w n e c
  part_same e c = rw (count_same e c, count_same (suc e) c)

  pub laid_same : (i : ℕ) → laid_in R v n i ≡ laid_in R w n i
  laid_same i =
      let p : ℕ = laid_place R i in
      rw (later p (omega arith), later (p + 1) (omega arith), later (p + 2) (omega arith), later (p + 3) (omega arith))

  pub before_same : (i : ℕ) → members_before R v n i ≡ members_before R w n i
  before_same i =
      total_same (λ j. fields_in R v n j + methods_in R v n j) (λ j. fields_in R w n j + methods_in R w n j) 0 i
      (λ j h. omega (arith, later (class_place R j + 3) (omega arith), later (class_place R j + 4) (omega arith)))

  pub class_same : (i : ℕ) → class_in R v n i ≡ class_in R w n i
  class_same i =
      let p : ℕ = class_place R i in
      rw (
        later p (omega arith),
        later (p + 1) (omega arith),
        later (p + 2) (omega arith),
        later (p + 3) (omega arith),
        later (p + 4) (omega arith),
        before_same i,
        names_same (from (members_before R w n i) (fields_in R w n i)),
        methods_same (from (members_before R w n i + fields_in R w n i) (methods_in R w n i)),
      )
    where
      names_same : (js : List ℕ) → map (λ j. get_or v (member_place R j) 0) js ≡ map (λ j. get_or w (member_place R j) 0) js
      names_same js = map_same (λ j. get_or v (member_place R j) 0) (λ j. get_or w (member_place R j) 0) js (λ j m. later (member_place R j) (omega arith))

      methods_same : (js : List ℕ) → map (method_from R v) js ≡ map (method_from R w) js
      methods_same js =
          map_same (method_from R v) (method_from R w) js (λ j m.
          let p : ℕ = member_place R j in
          rw (later p (omega arith), later (p + 1) (omega arith), later (p + 2) (omega arith)))

  number_same : (js : List ℕ) (c : ℕ) → any (λ j. eqb (get_or v (class_place R j) 0) c) js ≡ any (λ j. eqb (get_or w (class_place R j) 0) c) js
  number_same js c =
      any_same (λ j. eqb (get_or v (class_place R j) 0) c) (λ j. eqb (get_or w (class_place R j) 0) c) js
      (λ j m. ap (λ (z : ℕ). eqb z c) (later (class_place R j) (omega arith)))

  -- the tests of a declaration
  pub laid_fits_same : (e i : ℕ) → laid_fits R v n e i ≡ laid_fits R w n e i
  laid_fits_same e i =
      let p : ℕ = laid_place R i in
      rw (
        later p (omega arith),
        later (p + 1) (omega arith),
        later (p + 2) (omega arith),
        later (p + 3) (omega arith),
        count_same (suc e) 0,
        globals,
        part_same e 3,
        number_same (part_of R w n e 3) (get_or w (laid_place R i + 2) 0),
      )

  known_same : (e c : ℕ) → is_class_up_to R v n e c ≡ is_class_up_to R w n e c
  known_same e c =
      ap (λ (k : ℕ). any (λ j. eqb (get_or v (class_place R j) 0) c) (from 0 k) || is_recorded core c) (count_same (suc e) 3)
      ∙ ap (λ (z : Bool). z || is_recorded core c) (number_same (from 0 (count_after R w n (suc e) 3)) c)

  -- and of a class
  pub class_fits_same : (e i : ℕ) → class_fits R v n e i ≡ class_fits R w n e i
  class_fits_same e i =
      ap (λ (c : Class). every (class_list e (count_after R v n (suc e) 0) (eqb i (count_after R v n e 3)) (before v) (is_class_up_to R v n e c.parent) c)) (class_same i)
      ∙ ap (λ (z : Bool). every (class_list e (count_after R v n (suc e) 0) (eqb i (count_after R v n e 3)) (before v) z class)) (known_same e class.parent)
      ∙ ap (λ (z : ℕ). every (class_list e (count_after R v n (suc e) 0) (eqb i (count_after R v n e 3)) z known class)) (later (class_place R (i - 1)) (omega arith))
      ∙ ap (λ (z : ℕ). every (class_list e (count_after R v n (suc e) 0) (eqb i z) (before w) known class)) (count_same e 3)
      ∙ ap (λ (z : ℕ). every (class_list e z (eqb i (count_after R w n e 3)) (before w) known class)) (count_same (suc e) 0)
    where
      class : Class
      class = class_in R w n i

      before : List ℕ → ℕ
      before u = get_or u (class_place R (i - 1)) 0

      known : Bool
      known = is_class_up_to R w n e class.parent
