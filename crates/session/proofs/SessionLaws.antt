-- Words and bytes past question 23 hold an orderly session.
use mathlib.Core.Path.{◌≡◌, refl, sym, ap, ◌∙◌, subst}
use mathlib.Core.Logic.{◌⊎◌, inl, inr}
use mathlib.Core.Bool.{Bool, true, false, ◌&&◌}
use mathlib.Core.List.Memᴰ.{head as here}
use mathlib.Core.List.Memᴰ.{tail as there}
use mathlib.Core.List.{List, [], ◌∷◌, ◌++◌, map, Memᴰ as Mem}
use Prim.Native.Nat.{ℕ, zero, suc, ◌+◌, ◌-◌, ◌<◌, ◌≤◌}
use native.Mathlib.Omega.{arith}
use lib.ListN.{length, get_or, length-append, length-map}
use lib.Dec.{eqb, leb, T, eqb→eq}
use borrow.Author.Tests.{le-leb, leb-true}
use Rattle.definition.specs.Basics.{when◌then◌else◌, all, unlike, from, concat_map, total}
use Rattle.definition.specs.Meaning.{Named, function, class, global}
use Rattle.definition.specs.Outside.{is_outward}
use Rattle.definition.proofs.Lists.Tests.{and_both, and_left, and_right, T_true, true_of, pick, eqb_of, ℕ-trichotomy}
use Rattle.definition.proofs.Lists.Members.{from_mem}
use Rattle.definition.proofs.Lists.Counts.{all_below}
use Rattle.session.specs.Session.{Class, names_shown, all_laid, all_classes}
use Rattle.session.specs.Words.{Room, fixed_bytes, laid_place, member_place, session_size, count_after, part_of, laid_in, fields_in, methods_in, members_before, class_in, entry_in, session_in}
use Rattle.session.specs.Words.{counts_fit, session_names_fit, bytes_of, row_fits, laid_fits, class_tests, class_fits, entry_numbers_fit, numbers_fit, runs_fit, shown_fits, session_fits}
use Rattle.session.proofs.OutsideLaws.{Orderly, all_append}

pub from_length : (i k : ℕ) → length (from i k) ≡ k
from_length i zero = refl
from_length i (suc k) = ap suc (from_length (suc i) k)

module _ {A : Type 0} where
  -- a test of all that the numbers of a list give
  all_each : (p : A → Bool) (f : ℕ → A) (xs : List ℕ) → ((x : ℕ) → Mem x xs → T (p (f x))) → T (all p (map f xs))
  all_each p f [] h = tt
  all_each p f (x ∷ xs) h = and_both (p (f x)) (all p (map f xs)) (h x (here refl)) (all_each p f xs (λ y q. h y (there q)))

  pub all_mem : (p : A → Bool) (xs : List A) (x : A) → T (all p xs) → Mem x xs → T (p x)
  all_mem p [] x h x4 = elim x4 [ ]
  all_mem p (y ∷ ys) x h (here q) = subst (λ (z : A). T (p z)) (sym q) (and_left (p y) (all p ys) h)
  all_mem p (y ∷ ys) x h (there q) = all_mem p ys x (and_right (p y) (all p ys) h) q

  all_joined : (p : A → Bool) (f : ℕ → List A) (i k : ℕ) → ((x : ℕ) → x < i + k → T (all p (f x))) → T (all p (concat_map f (from i k)))
  all_joined p f i zero h = tt
  all_joined p f i (suc k) h = all_append p (f i) (concat_map f (from (suc i) k)) (h i (omega arith)) (all_joined p f (suc i) k (λ x l. h x (omega arith)))

  pub joined_map : {B : Type 0} (f : B → List A) (g : ℕ → B) (xs : List ℕ) → concat_map f (map g xs) ≡ concat_map (λ x. f (g x)) xs
  joined_map f g [] = refl
  joined_map f g (x ∷ xs) = ap (λ (l : List A). f (g x) ++ l) (joined_map f g xs)

-- a sum over more numbers
pub sum_more : (f : ℕ → ℕ) (j i k : ℕ) → total f (from j i) ≤ total f (from j (i + k))
sum_more f j zero k = omega arith
sum_more f j (suc i) k =
    let q : suc i + k ≡ suc (i + k) = omega arith in
    subst (λ (x : ℕ). f j + total f (from (suc j) i) ≤ total f (from j x)) (sym q) (omega (arith, sum_more f (suc j) i k))

-- the part of the sum at a place
sum_part : (f : ℕ → ℕ) (j k i : ℕ) → j ≤ i → i < j + k → f i ≤ total f (from j k)
sum_part f j zero i l h = absurd (omega arith)
sum_part f j (suc k) i l h = go (ℕ-trichotomy j i) (λ q. sum_part f (suc j) k i (omega arith) (omega arith))
  where
    go : (j < i) ⊎ ((j ≡ i) ⊎ (i < j)) → (j < i → f i ≤ total f (from (suc j) k)) → f i ≤ f j + total f (from (suc j) k)
    go (inl q) below = omega (arith, below q)
    go (inr (inl q)) below = omega (arith, ap f q)
    go (inr (inr q)) below = absurd (omega arith)

-- Question 23: all but the names on show, and these.
module _ (R : Room) (w n : List ℕ) where
  pub runs_of : session_fits R w n ≡ true → runs_fit R w n ≡ true
  runs_of fit = true_of (runs_fit R w n) (and_left (runs_fit R w n) (shown_fits R w n) (T_true (session_fits R w n) fit))

  -- the word is the number that a full recount finds
  pub shown_is : session_fits R w n ≡ true → get_or w 2 0 ≡ names_shown (session_in R w n)
  shown_is fit = eqb→eq (get_or w 2 0) (names_shown (session_in R w n)) (and_right (runs_fit R w n) (shown_fits R w n) (T_true (session_fits R w n) fit))

  pub shown_fits_lem : runs_fit R w n ≡ true → get_or w 2 0 ≡ names_shown (session_in R w n) → session_fits R w n ≡ true
  shown_fits_lem runs shown =
      true_of (session_fits R w n)
      (and_both (runs_fit R w n) (shown_fits R w n) (T_true (runs_fit R w n) runs) (eqb_of (get_or w 2 0) (names_shown (session_in R w n)) shown))

module _ (R : Room) (w n : List ℕ) (fit : T (runs_fit R w n)) where
  -- how many entries there are, and count c after the first e of them
  abbrev pub E : ℕ
  E = get_or w 1 0

  abbrev pub after : ℕ → ℕ → ℕ
  after e c = count_after R w n e c

  pub clauses : (i : ℕ) → T (get_or (counts_fit R w n ∷ session_names_fit R w n ∷ numbers_fit R w n ∷ []) i true)
  clauses i = pick (counts_fit R w n ∷ session_names_fit R w n ∷ numbers_fit R w n ∷ []) fit i

  abbrev last_row : Bool
  last_row = all (λ c. eqb (after E c) (get_or w (3 + c) 0)) (from 0 5)

  pub last_are : (c : ℕ) → c < 5 → after E c ≡ get_or w (3 + c) 0
  last_are c h = eqb→eq (after E c) (get_or w (3 + c) 0) (all_below (λ c. eqb (after E c) (get_or w (3 + c) 0)) 5 (and_right (all (entry_numbers_fit R w n) (from 0 E)) last_row (clauses 2)) c h)

  abbrev pub tests : ℕ → List Bool
  tests e = row_fits R w n e ∷ all (laid_fits R w n e) (part_of R w n e 2) ∷ all (class_fits R w n e) (part_of R w n e 3) ∷ eqb (members_before R w n (after (suc e) 3)) (after (suc e) 4) ∷ []

  pub entry_tests : (e : ℕ) → e < E → (i : ℕ) → T (get_or (tests e) i true)
  entry_tests e l i = pick (tests e) (all_below (entry_numbers_fit R w n) E (and_left (all (entry_numbers_fit R w n) (from 0 E)) last_row (clauses 2)) e l) i

  -- no count falls, and none is past the session's
  pub rises : (e c : ℕ) → e < E → c < 5 → (after e c ≤ after (suc e) c) × (after (suc e) c ≤ get_or w (3 + c) 0)
  rises e c l h =
      let x : Bool = leb (after e c) (after (suc e) c) in
      let y : Bool = leb (after (suc e) c) (get_or w (3 + c) 0) in
      let p : ℕ → Bool = λ c. leb (after e c) (after (suc e) c) && leb (after (suc e) c) (get_or w (3 + c) 0) in
      let f : T (x && y) = all_below p 5 (and_left (all p (from 0 5)) (eqb (after (suc e) 1) (bytes_of R w n (after (suc e) 0))) (entry_tests e l 0)) c h in
      (leb-true (after e c) (after (suc e) c) (true_of x (and_left x y f)), leb-true (after (suc e) c) (get_or w (3 + c) 0) (true_of y (and_right x y f)))

  -- the declarations of entries i to i + k are those between the counts
  laid_length : (i k : ℕ) → i + k ≤ E → length (concat_map (λ e. map (laid_in R w n) (part_of R w n e 2)) (from i k)) + after i 2 ≡ after (i + k) 2
  laid_length i zero l = let q : i ≡ i + 0 = omega arith in omega (arith, ap (λ (j : ℕ). after j 2) q)
  laid_length i (suc k) l =
      let q : suc i + k ≡ i + suc k = omega arith in
      omega (
        arith,
        rises i 2 (omega arith) (omega arith),
        length-append (map (laid_in R w n) (part_of R w n i 2)) (concat_map (λ e. map (laid_in R w n) (part_of R w n e 2)) (from (suc i) k)),
        length-map (part_of R w n i 2) (laid_in R w n),
        from_length (after i 2) (after (suc i) 2 - after i 2),
        laid_length (suc i) k (omega arith),
        ap (λ (j : ℕ). after j 2) q,
      )

  -- a test of every class of the session, by its entry and its place
  pub each_class : (p : Class → Bool) → ((e i : ℕ) → e < E → i < after (suc e) 3 → T (class_fits R w n e i) → T (p (class_in R w n i))) → T (all p (all_classes (session_in R w n)))
  each_class p h =
      subst (λ (l : List Class). T (all p l)) (sym (joined_map (λ x. x.classes) (entry_in R w n) (from 0 E)))
      (all_joined p (λ e. map (class_in R w n) (part_of R w n e 3)) 0 E
      (λ e l. all_each p (class_in R w n) (part_of R w n e 3) (λ i q.
      let m = from_mem i (after e 3) (after (suc e) 3 - after e 3) q in
      h e i (omega (arith, l)) (omega (arith, m.1, (rises e 3 (omega (arith, l)) (omega arith)).0))
      (all_mem (class_fits R w n e) (part_of R w n e 3) i (entry_tests e (omega (arith, l)) 2) q))))

  abbrev pub limits : List Bool
  limits =
      leb (get_or w 0 0) 1002048 ∷ leb (get_or w 1 0) R.entries ∷ leb (get_or w 3 0) 1024 ∷ leb (get_or w 4 0) R.bytes ∷ leb (get_or w 5 0) R.laid
      ∷ leb (get_or w 6 0) R.classes ∷ leb (get_or w 7 0) R.members ∷ leb (session_size R) (length w) ∷ leb (length fixed_bytes + R.bytes) (length n) ∷ []

  pub few_laid : get_or w 5 0 ≤ R.laid
  few_laid = leb-true (get_or w 5 0) R.laid (true_of (leb (get_or w 5 0) R.laid) (pick limits (clauses 0) 4))

  pub few_members : get_or w 7 0 ≤ R.members
  few_members = leb-true (get_or w 7 0) R.members (true_of (leb (get_or w 7 0) R.members) (pick limits (clauses 0) 6))

  -- a class has no more members than the session
  members_below : (e i : ℕ) → e < E → i < after (suc e) 3 → fields_in R w n i + methods_in R w n i ≤ R.members
  members_below e i l h =
      omega (
        arith,
        sum_part (λ j. fields_in R w n j + methods_in R w n j) 0 (after (suc e) 3) i (omega arith) (omega (arith, h)),
        eqb→eq (members_before R w n (after (suc e) 3)) (after (suc e) 4) (entry_tests e l 3),
        (rises e 4 l (omega arith)).1,
        few_members,
      )

  pub fields_length : (i : ℕ) → length (class_in R w n i).fields ≡ fields_in R w n i
  fields_length i = length-map (from (members_before R w n i) (fields_in R w n i)) (λ j. get_or w (member_place R j) 0) ∙ from_length (members_before R w n i) (fields_in R w n i)

  pub methods_length : (i : ℕ) → length (class_in R w n i).methods ≡ methods_in R w n i
  methods_length i =
      length-map (from (members_before R w n i + fields_in R w n i) (methods_in R w n i))
      (λ j. record { name = get_or w (member_place R j) 0; fun = get_or w (member_place R j + 1) 0; params = get_or w (member_place R j + 2) 0 })
      ∙ from_length (members_before R w n i + fields_in R w n i) (methods_in R w n i)

  laid_outward : (i : ℕ) → T (is_outward (laid_in R w n i).means)
  laid_outward i = go (eqb (get_or w (laid_place R i + 1) 0) 1) (eqb (get_or w (laid_place R i + 1) 0) 2)
    where
      x : ℕ
      x = get_or w (laid_place R i + 2) 0

      go : (t u : Bool) → T (is_outward (when t then function x else when u then class x else global x (get_or w (laid_place R i + 3) 0)))
      go true u = tt
      go false true = tt
      go false false = tt

  joined : all_laid (session_in R w n) ≡ concat_map (λ e. map (laid_in R w n) (part_of R w n e 2)) (from 0 E)
  joined = joined_map (λ x. x.laid) (entry_in R w n) (from 0 E)

  pub orderly_in : R.laid ≤ 4096 → R.members ≤ 8192 → Orderly (session_in R w n)
  orderly_in few many =
      record {
        outward =
            subst (λ (l : List Named). T (all (λ x. is_outward x.means) l)) (sym joined)
            (all_joined (λ x. is_outward x.means) (λ e. map (laid_in R w n) (part_of R w n e 2)) 0 E
            (λ e l. all_each (λ x. is_outward x.means) (laid_in R w n) (part_of R w n e 2) (λ i q. laid_outward i)));
        few =
            let z : 0 + E ≡ E = omega arith in
            omega (arith, ap length joined, laid_length 0 E (omega arith), ap (λ (j : ℕ). after j 2) z, last_are 2 (omega arith), few_laid, few);
        few_fields = each_class (λ c. leb (length c.fields) 8192)
            (λ e i l h f. T_true (leb (length (class_in R w n i).fields) 8192) (le-leb (length (class_in R w n i).fields) 8192 (omega (arith, fields_length i, members_below e i l h, many))));
        few_methods = each_class (λ c. leb (length c.methods) 8192)
            (λ e i l h f. T_true (leb (length (class_in R w n i).methods) 8192) (le-leb (length (class_in R w n i).methods) 8192 (omega (arith, methods_length i, members_below e i l h, many))));
        methods_apart = each_class (λ c. unlike eqb (map (λ m. m.name) c.methods)) (λ e i l h f. pick (class_tests R w n e i) f 8);
      }
