-- Question 23 by the passes: each clause of every entry, class and member is asked in one of them.
use mathlib.Core.Path.{◌≡◌, refl, sym, ap, ◌∙◌}
use mathlib.Core.Bool.{Bool, true, false, not, ◌&&◌, ◌||◌}
use mathlib.Core.List.{List, [], ◌∷◌, map}
use Prim.Native.Nat.{ℕ, suc, ◌+◌, ◌-◌, ◌/◌, ◌≤◌}
use native.Mathlib.Omega.{arith}
use lib.Dec.{eqb, leb, ltb, T, leb→le}
use lib.ListN.{length, get_or}
use borrow.Author.Tests.{not-true, not-false}
use Rattle.definition.specs.Basics.{all, every, unlike, from}
use Rattle.definition.specs.Outside.{Method}
use Rattle.definition.proofs.Lists.Counts.{all_below}
use Rattle.definition.proofs.Lists.Members.{map_map}
use Rattle.definition.proofs.Lists.Tests.{T_true, and_right, pick}
use Rattle.session.specs.Words.{whole, class_place, member_place, part_of, fields_in, methods_in, members_before, counts_fit, session_names_fit, bytes_of, row_fits}
use Rattle.session.specs.Words.{is_function_up_to, is_name_up_to, is_class_up_to, laid_fits, class_fits, entry_numbers_fit, numbers_fit, runs_fit, shown_fits, session_fits}
use Rattle.session_outside.specs.Written.{visible_names}
use Rattle.session_outside.proofs.WholeLaws.{names_shown_lem}
use Rattle.session_rows.proofs.RunLaws.{and_true, all_map}
use Rattle.session_rows.specs.Rows.{after, count_rises, counts_rise, row_right, rows_right, last_right, number_of, number_rises, numbers_rise, all_rise, order_right, Limited}
use Rattle.session_check.specs.Clauses.{member_name, names_apart, method_right, methods_right, last_name, members_right, parent_right, class_right, classes_right, entry_right}
use Rattle.session_check.specs.Clauses.{entries_right, numbers_right}

module _ {A : Type 0} where
  all_and : (p q : A → Bool) (xs : List A) → all (λ x. p x && q x) xs ≡ (all p xs && all q xs)
  all_and p q [] = refl
  all_and p q (x ∷ xs) = ap (λ (t : Bool). p x && q x && t) (all_and p q xs) ∙ four (p x) (q x) (all p xs) (all q xs)
    where
      four : (a b c d : Bool) → (a && b && (c && d)) ≡ (a && c && (b && d))
      four true true c d = refl
      four true false true d = refl
      four true false false d = refl
      four false b c d = refl

  all_same : (p q : A → Bool) (xs : List A) → ((x : A) → p x ≡ q x) → all p xs ≡ all q xs
  all_same p q [] f = refl
  all_same p q (x ∷ xs) f = ap (λ (t : Bool). t && all p xs) (f x) ∙ ap (λ (t : Bool). q x && t) (all_same p q xs f)

assoc : (a b c : Bool) → (a && b && c) ≡ (a && (b && c))
assoc true b c = refl
assoc false b c = refl

-- A class: its number, and the rest.
module _ (w : List ℕ) (e i : ℕ) where
  abbrev x : ℕ
  x = members_before whole w [] i

  abbrev k : ℕ
  k = fields_in whole w [] i

  abbrev m : ℕ
  m = methods_in whole w [] i

  abbrev is_name : ℕ → Bool
  is_name j = is_name_up_to whole w [] e (member_name w j)

  abbrev method : ℕ → Method
  method j = record { name = member_name w j; fun = get_or w (member_place whole j + 1) 0; params = get_or w (member_place whole j + 2) 0 }

  -- the names of fields and of methods
  names_by : (a b : ℕ) → (all (is_name_up_to whole w [] e) (map (member_name w) (from a b)) && unlike eqb (map (member_name w) (from a b))) ≡ names_apart w (last_name w e) a (a + b)
  unfolding names_apart
  names_by a b =
      let s : b ≡ a + b - a = omega arith in
      ap (λ (t : Bool). t && unlike eqb (map (member_name w) (from a b))) (all_map (is_name_up_to whole w [] e) (member_name w) (from a b))
      ∙ ap (λ (j : ℕ). all is_name (from a j) && unlike eqb (map (member_name w) (from a j))) s

  methods_by : (a b : ℕ)
      → (all (λ (y : Method). is_name_up_to whole w [] e y.name && is_function_up_to whole w [] e y.fun && leb y.params 2047) (map method (from a b))
      && unlike eqb (map (λ (y : Method). y.name) (map method (from a b))))
      ≡ (names_apart w (last_name w e) a (a + b) && methods_right w e a (a + b))
  unfolding methods_right method_right
  methods_by a b =
      let s : b ≡ a + b - a = omega arith in
      let N : ℕ → Bool = is_name in
      let F : ℕ → Bool = λ j. is_function_up_to whole w [] e (get_or w (member_place whole j + 1) 0) in
      let L : ℕ → Bool = λ j. leb (get_or w (member_place whole j + 2) 0) 2047 in
      let u : Bool = unlike eqb (map (member_name w) (from a b)) in
      ap (λ (t : Bool). t && unlike eqb (map (λ (y : Method). y.name) (map method (from a b))))
      (all_map (λ (y : Method). is_name_up_to whole w [] e y.name && is_function_up_to whole w [] e y.fun && leb y.params 2047) method (from a b))
      ∙ ap (λ (l : List ℕ). all (λ j. N j && F j && L j) (from a b) && unlike eqb l) (map_map (λ (y : Method). y.name) method (from a b))
      ∙ ap (λ (t : Bool). t && u) (all_same (λ j. N j && F j && L j) (λ j. N j && (F j && L j)) (from a b) (λ j. assoc (N j) (F j) (L j)) ∙ all_and N (λ j. F j && L j) (from a b))
      ∙ swap (all N (from a b)) (all (λ j. F j && L j) (from a b)) u
      ∙ ap (λ (t : Bool). t && u && all (λ j. F j && L j) (from a b)) (sym (all_map (is_name_up_to whole w [] e) (member_name w) (from a b)))
      ∙ ap (λ (t : Bool). t && all (λ j. F j && L j) (from a b)) (names_by a b) ∙ ap (λ (j : ℕ). names_apart w (last_name w e) a (a + b) && all (λ j. F j && L j) (from a j)) s
    where
      swap : (a b c : Bool) → (a && b && c) ≡ (a && c && b)
      swap true true true = refl
      swap true true false = refl
      swap true false true = refl
      swap true false false = refl
      swap false b c = refl

  regroup : (a b c d p q r s t f g h : Bool) → (q && r) ≡ f → (s && t) ≡ (g && h)
      → (a && (b && (c && (d && (p && (q && (r && (s && (t && true))))))))) ≡ (a && b && c && (d && (p && (f && (g && h)))))
  regroup false b c d p q r s t f g h u v = refl
  regroup true false c d p q r s t f g h u v = refl
  regroup true true false d p q r s t f g h u v = refl
  regroup true true true false p q r s t f g h u v = refl
  regroup true true true true false q r s t f g h u v = refl
  regroup true true true true true false r s t f g h u v = ap (λ (y : Bool). y && (g && h)) u
  regroup true true true true true true false s t f g h u v = ap (λ (y : Bool). y && (g && h)) u
  regroup true true true true true true true false t f g h u v = v ∙ ap (λ (y : Bool). y && (g && h)) u
  regroup true true true true true true true true false f g h u v = v ∙ ap (λ (y : Bool). y && (g && h)) u
  regroup true true true true true true true true true f g h u v = v ∙ ap (λ (y : Bool). y && (g && h)) u

  class_split : class_fits whole w [] e i ≡ (number_rises w e (after w e 3) i && class_right w e i)
  unfolding number_rises class_right parent_right members_right
  class_split =
      regroup (is_function_up_to whole w [] e (number_of w i - 256)) (eqb ((number_of w i - 256) / 2048) e)
      (eqb i (after w e 3) || ltb (number_of w (i - 1)) (number_of w i))
      (is_name_up_to whole w [] e (get_or w (class_place whole i + 1) 0))
      (eqb (get_or w (class_place whole i + 2) 0) 0 || is_class_up_to whole w [] e (get_or w (class_place whole i + 2) 0) && not (eqb (get_or w (class_place whole i + 2) 0) (number_of w i)))
      (all (is_name_up_to whole w [] e) (map (member_name w) (from x k))) (unlike eqb (map (member_name w) (from x k)))
      (all (λ (y : Method). is_name_up_to whole w [] e y.name && is_function_up_to whole w [] e y.fun && leb y.params 2047) (map method (from (x + k) m)))
      (unlike eqb (map (λ (y : Method). y.name) (map method (from (x + k) m))))
      (names_apart w (last_name w e) x (x + k)) (names_apart w (last_name w e) (x + k) (x + k + m)) (methods_right w e (x + k) (x + k + m)) (names_by x k) (methods_by (x + k) m)

-- Entries, where the table has the bytes before each listed name.
module _ (w n t : List ℕ) (starts : (j : ℕ) → j ≤ get_or w 3 0 → get_or t j 0 ≡ bytes_of whole w n j) where
  row_same : (e : ℕ) → row_fits whole w n e ≡ row_right w t e
  unfolding row_right counts_rise
  row_same e = go (all (count_rises w e) (from 0 5)) refl
    where
      go : (u : Bool) → all (count_rises w e) (from 0 5) ≡ u → row_fits whole w n e ≡ row_right w t e
      go true z =
          ap (λ (y : ℕ). all (count_rises w e) (from 0 5) && eqb (after w (suc e) 1) y)
          (sym (starts (after w (suc e) 0) (leb→le (after w (suc e) 0) (get_or w 3 0)
          (and_right (leb (after w e 0) (after w (suc e) 0)) (leb (after w (suc e) 0) (get_or w 3 0)) (all_below (count_rises w e) 5 (T_true (all (count_rises w e) (from 0 5)) z) 0 (omega arith))))))
      go false z =
          ap (λ (u : Bool). u && eqb (after w (suc e) 1) (bytes_of whole w n (after w (suc e) 0))) z
          ∙ sym (ap (λ (u : Bool). u && eqb (after w (suc e) 1) (get_or t (after w (suc e) 0) 0)) z)

  entry_split : (e : ℕ) → entry_numbers_fit whole w n e ≡ (row_right w t e && (numbers_rise w e && entry_right w e))
  unfolding numbers_rise entry_right classes_right
  entry_split e =
      let A : Bool = all (laid_fits whole w [] e) (part_of whole w [] e 2) in
      let B : Bool = all (class_fits whole w [] e) (part_of whole w [] e 3) in
      let C : Bool = eqb (members_before whole w [] (after w (suc e) 3)) (after w (suc e) 4) in
      let N : ℕ → Bool = number_rises w e (after w e 3) in
      ap (λ (u : Bool). u && (A && (B && (C && true)))) (row_same e)
      ∙ ap (λ (u : Bool). row_right w t e && (A && (u && (C && true))))
      (all_same (class_fits whole w [] e) (λ i. N i && class_right w e i) (part_of whole w [] e 3) (class_split w e) ∙ all_and N (class_right w e) (part_of whole w [] e 3))
      ∙ five (row_right w t e) A (all N (part_of whole w [] e 3)) (all (class_right w e) (part_of whole w [] e 3)) C
    where
      five : (r a b d c : Bool) → (r && (a && (b && d && (c && true)))) ≡ (r && (b && (a && (d && c))))
      five false a b d c = refl
      five true true true true true = refl
      five true true true true false = refl
      five true true true false c = refl
      five true true false d c = refl
      five true false true d c = refl
      five true false false d c = refl

  numbers_same : numbers_fit whole w n ≡ numbers_right w t
  unfolding numbers_right order_right rows_right last_right all_rise entries_right
  numbers_same =
      let es : List ℕ = from 0 (get_or w 1 0) in
      let L : Bool = all (λ c. eqb (after w (get_or w 1 0) c) (get_or w (3 + c) 0)) (from 0 5) in
      ap (λ (u : Bool). u && L)
      (all_same (entry_numbers_fit whole w n) (λ e. row_right w t e && (numbers_rise w e && entry_right w e)) es entry_split
      ∙ all_and (row_right w t) (λ e. numbers_rise w e && entry_right w e) es
      ∙ ap (λ (u : Bool). all (row_right w t) es && u) (all_and (numbers_rise w) (entry_right w) es))
      ∙ turn (all (row_right w t) es) (all (numbers_rise w) es) (all (entry_right w) es) L
    where
      turn : (r x y l : Bool) → (r && (x && y) && l) ≡ (r && (l && x) && y)
      turn false x y l = refl
      turn true true true true = refl
      turn true true true false = refl
      turn true true false true = refl
      turn true true false false = refl
      turn true false y true = refl
      turn true false y false = refl

-- The whole question, by its three parts.
module _ (w n : List ℕ) where
  pub counts_refuse : {x : Bool} → x ≡ counts_fit whole w n → not x ≡ true → runs_fit whole w n ≡ false
  counts_refuse {x} e m = ap (λ (u : Bool). u && (session_names_fit whole w n && (numbers_fit whole w n && true))) (sym e ∙ not-true x m)

  past_counts : {x : Bool} → x ≡ counts_fit whole w n → not x ≡ false → runs_fit whole w n ≡ (session_names_fit whole w n && (numbers_fit whole w n && true))
  past_counts {x} e m = ap (λ (u : Bool). u && (session_names_fit whole w n && (numbers_fit whole w n && true))) (sym e ∙ not-false x m)

  pub names_refuse : {x : Bool} → x ≡ counts_fit whole w n → not x ≡ false → session_names_fit whole w n ≡ false → runs_fit whole w n ≡ false
  names_refuse e m a = past_counts e m ∙ ap (λ (u : Bool). u && (numbers_fit whole w n && true)) a

  pub numbers_decide : {x : Bool} → x ≡ counts_fit whole w n → not x ≡ false → session_names_fit whole w n ≡ true
      → (t : List ℕ) → ((j : ℕ) → j ≤ get_or w 3 0 → get_or t j 0 ≡ bytes_of whole w n j) → runs_fit whole w n ≡ numbers_right w t
  numbers_decide e m a t s =
      past_counts e m ∙ ap (λ (u : Bool). u && (numbers_fit whole w n && true)) a ∙ and_true (numbers_fit whole w n) ∙ numbers_same w n t s

  abbrev tests : List Bool
  tests =
      leb (get_or w 0 0) 1002048 ∷ leb (get_or w 1 0) 1000 ∷ leb (get_or w 3 0) 1024 ∷ leb (get_or w 4 0) 32768 ∷ leb (get_or w 5 0) 4096
      ∷ leb (get_or w 6 0) 1024 ∷ leb (get_or w 7 0) 8192 ∷ leb 51088 (length w) ∷ leb 32936 (length n) ∷ []

  passed : {x : Bool} → x ≡ counts_fit whole w n → not x ≡ false → T (every tests)
  passed {x} e m = T_true (counts_fit whole w n) (sym e ∙ not-false x m)

  pub limited : {x : Bool} → x ≡ counts_fit whole w n → not x ≡ false → Limited w
  limited e m =
      record {
        entries = leb→le (get_or w 1 0) 1000 (pick tests (passed e m) 1);
        names = leb→le (get_or w 3 0) 1024 (pick tests (passed e m) 2);
        laid = leb→le (get_or w 5 0) 4096 (pick tests (passed e m) 4);
        classes = leb→le (get_or w 6 0) 1024 (pick tests (passed e m) 5);
        members = leb→le (get_or w 7 0) 8192 (pick tests (passed e m) 6);
      }

  pub room : {x : Bool} → x ≡ counts_fit whole w n → not x ≡ false → (get_or w 4 0 ≤ 32768) × (32936 ≤ length n)
  room e m = (leb→le (get_or w 4 0) 32768 (pick tests (passed e m) 3), leb→le 32936 (length n) (pick tests (passed e m) 8))

  -- The names on show, by what is counted.
  pub shown_decide : {x : Bool} → runs_fit whole w n ≡ true → x ≡ eqb (get_or w 2 0) (length (visible_names w)) → session_fits whole w n ≡ x
  shown_decide {x} runs e =
      ap (λ (u : Bool). u && shown_fits whole w n) runs ∙ sym (e ∙ ap (eqb (get_or w 2 0)) (names_shown_lem w n runs))

  pub runs_refuse : runs_fit whole w n ≡ false → session_fits whole w n ≡ false
  runs_refuse f = ap (λ (u : Bool). u && shown_fits whole w n) f
