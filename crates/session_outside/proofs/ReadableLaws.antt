-- Session words with good runs are readable, and then few names are visible.
use mathlib.Core.Path.{◌≡◌, refl, sym, ap, ◌∙◌}
use mathlib.Core.Logic.{◌⊎◌, inl, inr, ⊎_elim}
use mathlib.Core.Bool.{Bool, true, not, ◌&&◌, ◌||◌}
use mathlib.Core.List.{List, [], map, Memᴰ as Mem}
use Prim.Native.Nat.{ℕ, zero, suc, ◌+◌, ◌-◌, ◌*◌, ◌/◌, ◌<◌, ◌≤◌, min}
use native.Mathlib.Omega.{arith}
use lib.ListN.{length, get_or}
use lib.Dec.{eqb, leb, ltb, T, eqb→eq}
use borrow.Author.Tests.{leb-true, ltb-true}
use Rattle.definition.specs.Basics.{any, from}
use Rattle.definition.specs.Outside.{Outside, Method, based}
use Rattle.definition.proofs.Lists.Tests.{and_left, and_right, or_cases, true_of, T_true, pick, ℕ-trichotomy}
use Rattle.definition.proofs.Lists.Members.{any_mem, mem_map, mem_from}
use Rattle.outside.specs.Words.{over}
use Rattle.session.specs.Session.{outside_of}
use Rattle.session.specs.Words.{whole, laid_place, class_place, member_place, count_after, part_of, fields_in, methods_in, members_before, session_in}
use Rattle.session.specs.Words.{is_function_up_to, is_name_up_to, laid_fits, class_tests, class_fits, runs_fit, session_fits}
use Rattle.session.proofs.SessionLaws.{all_mem, runs_of, limits, clauses, last_are, entry_tests, rises, few_laid, few_members}
use Rattle.session_outside.specs.Readable.{Readable}
use Rattle.session_outside.proofs.VisibleLaws.{names_few_lem}
use Rattle.session_outside.proofs.WholeLaws.{session_outside}

le_of : (x y : ℕ) → T (leb x y) → x ≤ y
le_of x y h = leb-true x y (true_of (leb x y) h)

module _ (w n : List ℕ) (fit : T (runs_fit whole w n)) where
  abbrev after : ℕ → ℕ → ℕ
  after e c = count_after whole w n e c

  limit : (i : ℕ) → T (get_or (limits whole w n fit) i true)
  limit i = pick (limits whole w n fit) (clauses whole w n fit 0) i

  few_globals : get_or w 0 0 ≤ 1002048
  few_globals = le_of (get_or w 0 0) 1002048 (limit 0)

  few_entries : get_or w 1 0 ≤ 1000
  few_entries = le_of (get_or w 1 0) 1000 (limit 1)

  few_names : get_or w 3 0 ≤ 1024
  few_names = le_of (get_or w 3 0) 1024 (limit 2)

  few_classes : get_or w 6 0 ≤ 1024
  few_classes = le_of (get_or w 6 0) 1024 (limit 5)

  -- Entry e has place i of the run of count c.
  record HasPlace (c i e : ℕ) : Type 0 where
    entry : e < get_or w 1 0
    begun : after e c ≤ i
    within : i < after (suc e) c

  entry_of : (c i : ℕ) → c < 5 → i < get_or w (3 + c) 0 → (e : ℕ) × HasPlace c i e
  entry_of c i h l = go (get_or w 1 0) (omega arith) (omega (arith, last_are whole w n fit c h))
    where
      last : (k : ℕ) → k < get_or w 1 0 → i < after (suc k) c → (i < after k c → (e : ℕ) × HasPlace c i e)
          → (i < after k c) ⊎ ((i ≡ after k c) ⊎ (after k c < i)) → (e : ℕ) × HasPlace c i e
      last k b a f (inl q) = f q
      last k b a f (inr (inl q)) = (k, record { entry = b; begun = omega arith; within = a })
      last k b a f (inr (inr q)) = (k, record { entry = b; begun = omega arith; within = a })

      go : (k : ℕ) → k ≤ get_or w 1 0 → i < after k c → (e : ℕ) × HasPlace c i e
      go zero b a = absurd (omega arith)
      go (suc k) b a = last k b a (go k (omega arith)) (ℕ-trichotomy i (after k c))

  in_part : {c i e : ℕ} → HasPlace c i e → Mem i (part_of whole w n e c)
  in_part {c} {i} {e} r = mem_from i (after e c) (after (suc e) c - after e c) r.begun (omega (arith, r.begun, r.within))

  -- numbers of functions and names of an entry
  function_low : (e f : ℕ) → e < get_or w 1 0 → T (is_function_up_to whole w n e f) → f < 2048000
  function_low e f l h = omega (arith, few_entries, le_of (f / 2048) e (and_left (leb (f / 2048) e) (not (eqb f (2048 * (f / 2048)))) h))

  name_low : (e x : ℕ) → e < get_or w 1 0 → T (is_name_up_to whole w n e x) → (1 ≤ x) × (x ≤ 1048)
  name_low e x l h = (
    le_of 1 x (and_left (leb 1 x) (leb x (24 + after (suc e) 0)) h),
    omega (arith, few_names, rises whole w n fit e 0 l (omega arith), le_of x (24 + after (suc e) 0) (and_right (leb 1 x) (leb x (24 + after (suc e) 0)) h)),
  )

  class_test : (e i : ℕ) → e < get_or w 1 0 → Mem i (part_of whole w n e 3) → (k : ℕ) → T (get_or (class_tests whole w n e i) k true)
  class_test e i l m k = pick (class_tests whole w n e i) (all_mem (class_fits whole w n e) (part_of whole w n e 3) i (entry_tests whole w n fit e l 2) m) k

  number_low : (e i : ℕ) → e < get_or w 1 0 → Mem i (part_of whole w n e 3) → get_or w (class_place whole i) 0 < 4294965248
  number_low e i l m = omega (arith, function_low e (get_or w (class_place whole i) 0 - 256) l (class_test e i l m 0))

  laid_test_lem : {i e : ℕ} → HasPlace 2 i e → T (laid_fits whole w n e i)
  laid_test_lem {i} {e} r = all_mem (laid_fits whole w n e) (part_of whole w n e 2) i (entry_tests whole w n fit e r.entry 1) (in_part r)

  -- a declaration's name and number
  module _ {i e : ℕ} (r : HasPlace 2 i e) where
    p : ℕ
    p = laid_place whole i

    x : ℕ
    x = get_or w (p + 2) 0

    is_name_lem : Bool
    is_name_lem = is_name_up_to whole w n e (get_or w p 0)

    is_function_lem : Bool
    is_function_lem = eqb (get_or w (p + 1) 0) 1 && is_function_up_to whole w n e x && eqb (x / 2048) e && eqb (get_or w (p + 3) 0) 0

    is_class_lem : Bool
    is_class_lem = eqb (get_or w (p + 1) 0) 2 && any (λ j. eqb (get_or w (class_place whole j) 0) x) (part_of whole w n e 3) && eqb (get_or w (p + 3) 0) 0

    is_global : Bool
    is_global = eqb (get_or w (p + 1) 0) 3 && ltb x (get_or w 0 0) && leb (get_or w (p + 3) 0) 1

    laid_named : (1 ≤ get_or w (laid_place whole i) 0) × (get_or w (laid_place whole i) 0 ≤ 1048)
    unfolding p x is_name_lem is_function_lem is_class_lem is_global
    laid_named = name_low e (get_or w p 0) r.entry (and_left is_name_lem (is_function_lem || is_class_lem || is_global) (laid_test_lem r))

    laid_number : get_or w (laid_place whole i + 2) 0 < 4294965248
    unfolding p x is_name_lem is_function_lem is_class_lem is_global
    laid_number =
        ⊎_elim (λ h. ⊎_elim of_function of_class_lem (or_cases is_function_lem is_class_lem h)) of_global
        (or_cases (is_function_lem || is_class_lem) is_global (and_right is_name_lem (is_function_lem || is_class_lem || is_global) (laid_test_lem r)))
      where
        f : Bool
        f = is_function_up_to whole w n e x

        t : ℕ → Bool
        t k = eqb (get_or w (p + 1) 0) k

        z : Bool
        z = eqb (get_or w (p + 3) 0) 0

        same : ℕ → Bool
        same j = eqb (get_or w (class_place whole j) 0) x

        of_function : T is_function_lem → x < 4294965248
        of_function h = omega (arith, function_low e x r.entry (and_right (t 1) f (and_left (t 1 && f) (eqb (x / 2048) e) (and_left (t 1 && f && eqb (x / 2048) e) z h))))

        of_class_lem : T is_class_lem → x < 4294965248
        of_class_lem h =
            let m = any_mem same (part_of whole w n e 3) (and_right (t 2) (any same (part_of whole w n e 3)) (and_left (t 2 && any same (part_of whole w n e 3)) z h)) in
            omega (arith, number_low e m.0 r.entry m.1, eqb→eq (get_or w (class_place whole m.0) 0) x m.2)

        of_global : T is_global → x < 4294965248
        of_global h =
            let l : Bool = ltb x (get_or w 0 0) in
            omega (arith, few_globals, ltb-true x (get_or w 0 0) (true_of l (and_right (t 3) l (and_left (t 3 && l) (leb (get_or w (p + 3) 0) 1) h))))

  -- the members are those of the classes
  counted : members_before whole w [] (get_or w 6 0) ≤ get_or w 7 0
  counted = go (get_or w 1 0) refl
    where
      go : (k : ℕ) → get_or w 1 0 ≡ k → members_before whole w [] (get_or w 6 0) ≤ get_or w 7 0
      go zero q =
          let none : get_or w 6 0 ≡ 0 = sym (last_are whole w n fit 3 (omega arith)) ∙ ap (λ (e : ℕ). after e 3) q in
          omega (arith, ap (members_before whole w []) none)
      go (suc e) q =
          let a : after (suc e) 3 ≡ get_or w 6 0 = ap (λ (e : ℕ). after e 3) (sym q) ∙ last_are whole w n fit 3 (omega arith) in
          let b : after (suc e) 4 ≡ get_or w 7 0 = ap (λ (e : ℕ). after e 4) (sym q) ∙ last_are whole w n fit 4 (omega arith) in
          omega (
            arith,
            ap (members_before whole w []) a,
            eqb→eq (members_before whole w [] (after (suc e) 3)) (after (suc e) 4) (entry_tests whole w n fit e (omega arith) 3),
          )

  method_function : (i j : ℕ) → i < get_or w 6 0 → members_before whole w [] i + fields_in whole w [] i ≤ j
      → j < members_before whole w [] i + fields_in whole w [] i + methods_in whole w [] i → get_or w (member_place whole j + 1) 0 < 4294965248
  method_function i j l a b =
      let q = entry_of 3 i (omega arith) l in
      let x : Bool = is_name_up_to whole w n q.0 (g j).name in
      let y : Bool = is_function_up_to whole w n q.0 (g j).fun in
      let h : T (test q.0 (g j)) = all_mem (test q.0) (map g js) (g j) (class_test q.0 i q.1.entry (in_part q.1) 7) (mem_map g j js (mem_from j first count a b)) in
      omega (arith, function_low q.0 (g j).fun q.1.entry (and_right x y (and_left (x && y) (leb (g j).params 2047) h)))
    where
      first : ℕ
      first = members_before whole w [] i + fields_in whole w [] i

      count : ℕ
      count = methods_in whole w [] i

      js : List ℕ
      js = from first count

      test : ℕ → Method → Bool
      test e m = is_name_up_to whole w n e m.name && is_function_up_to whole w n e m.fun && leb m.params 2047

      g : ℕ → Method
      g j = record { name = get_or w (member_place whole j) 0; fun = get_or w (member_place whole j + 1) 0; params = get_or w (member_place whole j + 2) 0 }

-- words with good runs can be read,
pub runs_readable : (w n : List ℕ) → runs_fit whole w n ≡ true → Readable w
runs_readable w n runs =
    let fits : T (runs_fit whole w n) = T_true (runs_fit whole w n) runs in
    record {
      few_laid = few_laid whole w n fits;
      few_classes = few_classes w n fits;
      few_members = few_members whole w n fits;
      members_counted = counted w n fits;
      named = λ i l. laid_named w n fits (entry_of w n fits 2 i (omega arith) l).1;
      laid_low = λ i l. laid_number w n fits (entry_of w n fits 2 i (omega arith) l).1;
      class_low = λ i l. let q = entry_of w n fits 3 i (omega arith) l in number_low w n fits q.0 i q.1.entry (in_part w n fits q.1);
      method_low = method_function w n fits;
    }

-- so those of a session past question 23
pub readable : (w n : List ℕ) → session_fits whole w n ≡ true → Readable w
readable w n fit = runs_readable w n (runs_of whole w n fit)

-- the names in words that hold them: no more than numbers, and no more than declarations and core names
pub over_few : (w n x : List ℕ) → session_fits whole w n ≡ true → over x ≡ based (outside_of (session_in whole w n)) 0
    → length (over x).names ≤ min (get_or w 5 0 + 9) 1048
over_few w n x fit e =
    omega (
      arith,
      ap (λ (O : Outside). length O.names) e,
      ap (λ (O : Outside). length O.names) (session_outside w n (runs_of whole w n fit)),
      names_few_lem (readable w n fit),
    )
