-- Words and bytes that hold a session's runs, and perhaps more after them: its entries read the same there, and pass question 23 as before.
use mathlib.Core.Path.{◌≡◌, refl, sym, ap, ◌∙◌, subst}
use mathlib.Core.Bool.{Bool, true, false, not, ◌&&◌, ◌||◌}
use mathlib.Core.List.Memᴰ.{head as here}
use mathlib.Core.List.Memᴰ.{tail as there}
use mathlib.Core.List.{List, [], ◌∷◌, ◌++◌, map, Memᴰ as Mem}
use Prim.Native.Nat.{ℕ, zero, suc, ◌+◌, ◌-◌, ◌*◌, ◌/◌, ◌<◌, ◌≤◌}
use native.Mathlib.Omega.{arith}
use native.Mathlib.Nat.{add-zero}
use lib.ListN.{length, get_or, take, get_or-append}
use lib.Seq.{take-append-le}
use lib.Dec.{eqb, leb, ltb, T}
use borrow.Author.Tests.{eqb-false, le-leb, lt-ltb, ltb-true}
use Rattle.definition.specs.Basics.{when◌then◌else◌, all, any, every, unlike, from, concat_map, total}
use Rattle.definition.specs.Names.{Name, listed}
use Rattle.definition.specs.Outside.{Method, is_recorded, core}
use Rattle.definition.proofs.Lists.Tests.{and_both, and_left, and_right, T_true, true_of}
use Rattle.definition.proofs.Lists.Members.{from_mem, map_same, total_append}
use Rattle.session.specs.Session.{Class}
use Rattle.session.specs.Words.{Room, ended, entry_place, laid_place, class_place, member_place, count_after, part_of, name_bytes, laid_in, fields_in, methods_in, members_before, class_in, entry_in}
use Rattle.session.specs.Words.{bytes_of, row_fits, is_class_up_to, laid_fits, class_fits, entry_numbers_fit, runs_fit}
use Rattle.session.proofs.SessionLaws.{entry_tests, rises, sum_more}
use Rattle.session.proofs.HeldRuns.{from_split, names_listed}
use Rattle.session.proofs.CountLaws.{members_all}

pub record Extends (R : Room) (w n w' n' : List ℕ) : Type 0 where
  pub globals : get_or w 0 0 ≤ get_or w' 0 0
  pub counts : (c : ℕ) → c < 5 → get_or w (3 + c) 0 ≤ get_or w' (3 + c) 0
  -- the rows that the session has
  pub entry_rows : (i k : ℕ) → i < get_or w 1 0 → k < 5 → get_or w' (entry_place R i + k) 0 ≡ get_or w (entry_place R i + k) 0
  pub laid_rows : (i k : ℕ) → i < get_or w 5 0 → k < 4 → get_or w' (laid_place R i + k) 0 ≡ get_or w (laid_place R i + k) 0
  pub class_rows_lem : (i k : ℕ) → i < get_or w 6 0 → k < 5 → get_or w' (class_place R i + k) 0 ≡ get_or w (class_place R i + k) 0
  pub member_rows : (i k : ℕ) → i < get_or w 7 0 → k < 3 → get_or w' (member_place R i + k) 0 ≡ get_or w (member_place R i + k) 0
  -- its names, and those after them
  pub more : List Name
  pub listed_more : listed (name_bytes R w' n') ≡ listed (name_bytes R w n) ++ more

-- the method whose words stand at member j
abbrev pub method_from : Room → List ℕ → ℕ → Method
method_from R w j = record { name = get_or w (member_place R j) 0; fun = get_or w (member_place R j + 1) 0; params = get_or w (member_place R j + 2) 0 }

-- sums of numbers that agree
pub total_same : (f g : ℕ → ℕ) (j k : ℕ) → ((i : ℕ) → i < j + k → f i ≡ g i) → total f (from j k) ≡ total g (from j k)
total_same f g j zero h = refl
total_same f g j (suc k) h = omega (arith, h j (omega arith), total_same f g (suc j) k (λ i l. h i (omega arith)))

pub total_snoc : (f : ℕ → ℕ) (k : ℕ) → total f (from 0 (k + 1)) ≡ total f (from 0 k) + f k
total_snoc f k =
    let q : 0 + k ≡ k = omega arith in
    ap (total f) (from_split 0 k 1) ∙ total_append f (from 0 k) (from (0 + k) 1) ∙ ap (λ (i : ℕ). total f (from 0 k) + (f i + 0)) q
    ∙ ap (λ (i : ℕ). total f (from 0 k) + i) (add-zero (f k))

module _ {A : Type 0} where
  pub all_turned : (p q : A → Bool) (xs : List A) → ((x : A) → Mem x xs → T (p x) → T (q x)) → T (all p xs) → T (all q xs)
  all_turned p q [] h k = tt
  all_turned p q (x ∷ xs) h k = and_both (q x) (all q xs) (h x (here refl) (and_left (p x) (all p xs) k)) (all_turned p q xs (λ y m. h y (there m)) (and_right (p x) (all p xs) k))

  pub any_same : (p q : A → Bool) (xs : List A) → ((x : A) → Mem x xs → p x ≡ q x) → any p xs ≡ any q xs
  any_same p q [] h = refl
  any_same p q (x ∷ xs) h = ap (λ (t : Bool). t || any p xs) (h x (here refl)) ∙ ap (λ (t : Bool). q x || t) (any_same p q xs (λ y m. h y (there m)))

-- the tests of a declaration, by its four words: an entry e with N names up to it, G globals; `own`: is it a class of the entry?
abbrev pub laid_test : (e N G : ℕ) (own : Bool) (x c f m : ℕ) → Bool
laid_test e N G own x c f m =
    leb 1 x && leb x (24 + N)
    && ((eqb c 1 && (leb (f / 2048) e && not (eqb f (2048 * (f / 2048)))) && eqb (f / 2048) e && eqb m 0) || (eqb c 2 && own && eqb m 0) || (eqb c 3 && ltb f G && leb m 1))

-- the tests of a class: the number before its own, `first`: is it the entry's first? `known`: has its parent a record?
abbrev pub class_list : (e N : ℕ) (first : Bool) (before : ℕ) (known : Bool) → Class → List Bool
class_list e N first before known c =
    (leb ((c.number - 256) / 2048) e && not (eqb (c.number - 256) (2048 * ((c.number - 256) / 2048)))) ∷ eqb ((c.number - 256) / 2048) e
    ∷ (first || ltb before c.number)
    ∷ (leb 1 c.name && leb c.name (24 + N)) ∷ (eqb c.parent 0 || known && not (eqb c.parent c.number))
    ∷ all (λ x. leb 1 x && leb x (24 + N)) c.fields ∷ unlike eqb c.fields
    ∷ all (λ m. leb 1 m.name && leb m.name (24 + N) && (leb (m.fun / 2048) e && not (eqb m.fun (2048 * (m.fun / 2048)))) && leb m.params 2047) c.methods
    ∷ unlike eqb (map (λ m. m.name) c.methods)
    ∷ []

-- more globals refuse no declaration
laid_more : (e N G H : ℕ) (own : Bool) (x c f m : ℕ) → G ≤ H → T (laid_test e N G own x c f m) → T (laid_test e N H own x c f m)
laid_more e N G H own x c f m l =
    some (leb 1 x && leb x (24 + N)) (eqb c 1 && (leb (f / 2048) e && not (eqb f (2048 * (f / 2048)))) && eqb (f / 2048) e && eqb m 0) (eqb c 2 && own && eqb m 0)
    (eqb c 3 && ltb f G && leb m 1) (eqb c 3 && ltb f H && leb m 1)
    (both (eqb c 3) (ltb f G) (ltb f H) (leb m 1) (λ t. T_true (ltb f H) (lt-ltb f H (omega (arith, ltb-true f G (true_of (ltb f G) t), l)))))
  where
    some : (x p q r k : Bool) → (T r → T k) → T (x && (p || q || r)) → T (x && (p || q || k))
    some false p q r k u t = t
    some true true q r k u t = tt
    some true false true r k u t = tt
    some true false false r k u t = u t

    both : (c g h m : Bool) → (T g → T h) → T (c && g && m) → T (c && h && m)
    both false g h m u t = t
    both true false h m u t = absurd t
    both true true true m u t = t
    both true true false m u t = absurd (u tt)

module _ (R : Room) (w n w' n' : List ℕ) (fit : runs_fit R w n ≡ true) (x : Extends R w n w' n') where
  fits : T (runs_fit R w n)
  fits = T_true (runs_fit R w n) fit

  pub count_same : (e c : ℕ) → e ≤ get_or w 1 0 → c < 5 → count_after R w' n' e c ≡ count_after R w n e c
  count_same e c l h = by (eqb e 0) refl
    where
      by : (t : Bool) → eqb e 0 ≡ t → (when t then 0 else get_or w' (entry_place R (e - 1) + c) 0) ≡ (when t then 0 else get_or w (entry_place R (e - 1) + c) 0)
      by true q = refl
      by false q = let z = eqb-false e 0 q in x.entry_rows (e - 1) c (omega arith) h

  part_same : (e c : ℕ) → e < get_or w 1 0 → c < 5 → part_of R w' n' e c ≡ part_of R w n e c
  part_same e c l h = rw (count_same e c (omega arith) h, count_same (suc e) c l h)

  -- what lies in an entry's part
  below : (e c i : ℕ) → e < get_or w 1 0 → c < 5 → Mem i (part_of R w n e c) → i < count_after R w n (suc e) c × (i < get_or w (3 + c) 0)
  below e c i l h m =
      let r = rises R w n fits e c l h in
      let q = from_mem i (count_after R w n e c) (count_after R w n (suc e) c - count_after R w n e c) m in
      (omega (arith, r.0, q.1), omega (arith, r.0, r.1, q.1))

  laid_word : (i : ℕ) → i < get_or w 5 0 → get_or w' (laid_place R i) 0 ≡ get_or w (laid_place R i) 0
  laid_word i l =
      let z : laid_place R i + 0 ≡ laid_place R i = omega arith in
      ap (λ (k : ℕ). get_or w' k 0) (sym z) ∙ x.laid_rows i 0 l (omega arith) ∙ ap (λ (k : ℕ). get_or w k 0) z

  class_word : (i : ℕ) → i < get_or w 6 0 → get_or w' (class_place R i) 0 ≡ get_or w (class_place R i) 0
  class_word i l =
      let z : class_place R i + 0 ≡ class_place R i = omega arith in
      ap (λ (k : ℕ). get_or w' k 0) (sym z) ∙ x.class_rows_lem i 0 l (omega arith) ∙ ap (λ (k : ℕ). get_or w k 0) z

  member_word : (i : ℕ) → i < get_or w 7 0 → get_or w' (member_place R i) 0 ≡ get_or w (member_place R i) 0
  member_word i l =
      let z : member_place R i + 0 ≡ member_place R i = omega arith in
      ap (λ (k : ℕ). get_or w' k 0) (sym z) ∙ x.member_rows i 0 l (omega arith) ∙ ap (λ (k : ℕ). get_or w k 0) z

  method_word : (i : ℕ) → i < get_or w 7 0 → method_from R w' i ≡ method_from R w i
  method_word i l = rw (member_word i l, x.member_rows i 1 l (omega arith), x.member_rows i 2 l (omega arith))

  pub laid_same : (i : ℕ) → i < get_or w 5 0 → laid_in R w' n' i ≡ laid_in R w n i
  laid_same i l = rw (laid_word i l, x.laid_rows i 1 l (omega arith), x.laid_rows i 2 l (omega arith), x.laid_rows i 3 l (omega arith))

  fields_same : (i : ℕ) → i < get_or w 6 0 → fields_in R w' n' i ≡ fields_in R w n i
  fields_same i l = x.class_rows_lem i 3 l (omega arith)

  methods_same : (i : ℕ) → i < get_or w 6 0 → methods_in R w' n' i ≡ methods_in R w n i
  methods_same i l = x.class_rows_lem i 4 l (omega arith)

  pub before_same : (i : ℕ) → i ≤ get_or w 6 0 → members_before R w' n' i ≡ members_before R w n i
  before_same i l =
      total_same (λ j. fields_in R w' n' j + methods_in R w' n' j) (λ j. fields_in R w n j + methods_in R w n j) 0 i
      (λ j h. omega (arith, fields_same j (omega arith), methods_same j (omega arith)))

  -- the members of a class stand among the session's
  members_in : (i : ℕ) → i < get_or w 6 0 → members_before R w n i + fields_in R w n i + methods_in R w n i ≤ get_or w 7 0
  members_in i l =
      let f : ℕ → ℕ = λ j. fields_in R w n j + methods_in R w n j in
      let q : (i + 1) + (get_or w 6 0 - (i + 1)) ≡ get_or w 6 0 = omega arith in
      omega (arith, total_snoc f i, sum_more f 0 (i + 1) (get_or w 6 0 - (i + 1)), ap (λ (k : ℕ). total f (from 0 k)) q, members_all R w n fit)

  pub class_same : (i : ℕ) → i < get_or w 6 0 → class_in R w' n' i ≡ class_in R w n i
  class_same i l =
      rw (
        class_word i l,
        x.class_rows_lem i 1 l (omega arith),
        x.class_rows_lem i 2 l (omega arith),
        x.class_rows_lem i 3 l (omega arith),
        x.class_rows_lem i 4 l (omega arith),
        before_same i (omega arith),
        names_same,
        methods_read,
      )
    where
      names_same : map (λ j. get_or w' (member_place R j) 0) (from (members_before R w n i) (fields_in R w n i))
          ≡ map (λ j. get_or w (member_place R j) 0) (from (members_before R w n i) (fields_in R w n i))
      names_same =
          map_same (λ j. get_or w' (member_place R j) 0) (λ j. get_or w (member_place R j) 0) (from (members_before R w n i) (fields_in R w n i)) (λ j m.
          member_word j (omega (arith, members_in i l, from_mem j (members_before R w n i) (fields_in R w n i) m)))

      methods_read : map (method_from R w') (from (members_before R w n i + fields_in R w n i) (methods_in R w n i))
          ≡ map (method_from R w) (from (members_before R w n i + fields_in R w n i) (methods_in R w n i))
      methods_read =
          map_same (method_from R w') (method_from R w) (from (members_before R w n i + fields_in R w n i) (methods_in R w n i)) (λ j m.
          method_word j (omega (arith, members_in i l, from_mem j (members_before R w n i + fields_in R w n i) (methods_in R w n i) m)))

  name_same : (i : ℕ) → i < get_or w 3 0 → get_or (listed (name_bytes R w' n')) i [] ≡ get_or (listed (name_bytes R w n)) i []
  name_same i l =
      ap (λ (z : List Name). get_or z i []) x.listed_more
      ∙ get_or-append (listed (name_bytes R w n)) x.more [] i (omega (arith, names_listed R w n fit))

  bytes_same : (k : ℕ) → k ≤ get_or w 3 0 → bytes_of R w' n' k ≡ bytes_of R w n k
  bytes_same k l =
      ap (λ (z : List Name). length (concat_map ended z))
      (ap (take k) x.listed_more ∙ take-append-le k (listed (name_bytes R w n)) x.more (omega (arith, names_listed R w n fit)))

  pub entry_same : (e : ℕ) → e < get_or w 1 0 → entry_in R w' n' e ≡ entry_in R w n e
  entry_same e l = rw (part_same e 0 l (omega arith), part_same e 2 l (omega arith), part_same e 3 l (omega arith), names, laid, classes)
    where
      names : map (λ i. get_or (listed (name_bytes R w' n')) i []) (part_of R w n e 0) ≡ map (λ i. get_or (listed (name_bytes R w n)) i []) (part_of R w n e 0)
      names = map_same _ _ _ (λ i m. name_same i (below e 0 i l (omega arith) m).1)

      laid : map (laid_in R w' n') (part_of R w n e 2) ≡ map (laid_in R w n) (part_of R w n e 2)
      laid = map_same _ _ _ (λ i m. laid_same i (below e 2 i l (omega arith) m).1)

      classes : map (class_in R w' n') (part_of R w n e 3) ≡ map (class_in R w n) (part_of R w n e 3)
      classes = map_same _ _ _ (λ i m. class_same i (below e 3 i l (omega arith) m).1)

  -- its tests
  row_kept : (e : ℕ) → e < get_or w 1 0 → T (row_fits R w' n' e)
  row_kept e l =
      and_both (all p' (from 0 5)) (eqb (count_after R w' n' (suc e) 1) (bytes_of R w' n' (count_after R w' n' (suc e) 0)))
      (all_turned p p' (from 0 5) (λ c m t. counted c (omega (arith, from_mem c 0 5 m)) t) (and_left (all p (from 0 5)) bytes old))
      (rw (count_same (suc e) 1 l (omega arith), count_same (suc e) 0 l (omega arith), bytes_same (count_after R w n (suc e) 0) (rises R w n fits e 0 l (omega arith)).1)
      (and_right (all p (from 0 5)) bytes old))
    where
      p : ℕ → Bool
      p c = leb (count_after R w n e c) (count_after R w n (suc e) c) && leb (count_after R w n (suc e) c) (get_or w (3 + c) 0)

      p' : ℕ → Bool
      p' c = leb (count_after R w' n' e c) (count_after R w' n' (suc e) c) && leb (count_after R w' n' (suc e) c) (get_or w' (3 + c) 0)

      bytes : Bool
      bytes = eqb (count_after R w n (suc e) 1) (bytes_of R w n (count_after R w n (suc e) 0))

      old : T (row_fits R w n e)
      old = entry_tests R w n fits e l 0

      counted : (c : ℕ) → c < 5 → T (p c) → T (p' c)
      counted c h t =
          rw (count_same e c (omega arith) h, count_same (suc e) c l h)
          (and_both (leb (count_after R w n e c) (count_after R w n (suc e) c)) (leb (count_after R w n (suc e) c) (get_or w' (3 + c) 0))
          (and_left (leb (count_after R w n e c) (count_after R w n (suc e) c)) (leb (count_after R w n (suc e) c) (get_or w (3 + c) 0)) t)
          (T_true (leb (count_after R w n (suc e) c) (get_or w' (3 + c) 0)) (le-leb (count_after R w n (suc e) c) (get_or w' (3 + c) 0) (omega (arith, (rises R w n fits e c l h).1, x.counts c h)))))

  laid_kept : (e : ℕ) → e < get_or w 1 0 → (i : ℕ) → Mem i (part_of R w n e 2) → T (laid_fits R w n e i) → T (laid_fits R w' n' e i)
  laid_kept e l i m t = subst T (sym same) (laid_more e N (get_or w 0 0) (get_or w' 0 0) own x₀ x₁ x₂ x₃ x.globals t)
    where
      q : i < get_or w 5 0
      q = (below e 2 i l (omega arith) m).1

      N : ℕ
      N = count_after R w n (suc e) 0

      x₀ : ℕ
      x₀ = get_or w (laid_place R i) 0

      x₁ : ℕ
      x₁ = get_or w (laid_place R i + 1) 0

      x₂ : ℕ
      x₂ = get_or w (laid_place R i + 2) 0

      x₃ : ℕ
      x₃ = get_or w (laid_place R i + 3) 0

      own : Bool
      own = any (λ j. eqb (get_or w (class_place R j) 0) x₂) (part_of R w n e 3)

      own_same : any (λ j. eqb (get_or w' (class_place R j) 0) x₂) (part_of R w' n' e 3) ≡ own
      own_same =
          ap (any (λ j. eqb (get_or w' (class_place R j) 0) x₂)) (part_same e 3 l (omega arith))
          ∙ any_same (λ j. eqb (get_or w' (class_place R j) 0) x₂) (λ j. eqb (get_or w (class_place R j) 0) x₂) (part_of R w n e 3)
          (λ j k. ap (λ (z : ℕ). eqb z x₂) (class_word j (below e 3 j l (omega arith) k).1))

      same : laid_fits R w' n' e i ≡ laid_test e N (get_or w' 0 0) own x₀ x₁ x₂ x₃
      same =
          rw (laid_word i q, x.laid_rows i 1 q (omega arith), x.laid_rows i 2 q (omega arith), x.laid_rows i 3 q (omega arith), count_same (suc e) 0 l (omega arith), own_same)

  class_kept : (e : ℕ) → e < get_or w 1 0 → (i : ℕ) → Mem i (part_of R w n e 3) → T (class_fits R w n e i) → T (class_fits R w' n' e i)
  class_kept e l i m t = subst T (sym same) t
    where
      q : i < get_or w 6 0
      q = (below e 3 i l (omega arith) m).1

      prev : get_or w' (class_place R (i - 1)) 0 ≡ get_or w (class_place R (i - 1)) 0
      prev = class_word (i - 1) (omega (arith, q))

      known : (c : ℕ) → is_class_up_to R w' n' e c ≡ is_class_up_to R w n e c
      known c =
          ap (λ (k : ℕ). any (λ j. eqb (get_or w' (class_place R j) 0) c) (from 0 k) || is_recorded core c) (count_same (suc e) 3 l (omega arith))
          ∙ ap (λ (z : Bool). z || is_recorded core c)
          (any_same (λ j. eqb (get_or w' (class_place R j) 0) c) (λ j. eqb (get_or w (class_place R j) 0) c) (from 0 (count_after R w n (suc e) 3))
          (λ j k. ap (λ (z : ℕ). eqb z c) (class_word j (omega (arith, from_mem j 0 (count_after R w n (suc e) 3) k, (rises R w n fits e 3 l (omega arith)).1)))))

      same : class_fits R w' n' e i ≡ class_fits R w n e i
      same =
          ap (λ (c : Class). every (class_list e (count_after R w' n' (suc e) 0) (eqb i (count_after R w' n' e 3)) (get_or w' (class_place R (i - 1)) 0) (is_class_up_to R w' n' e c.parent) c))
          (class_same i q)
          ∙ ap (λ (z : Bool). every (class_list e (count_after R w' n' (suc e) 0) (eqb i (count_after R w' n' e 3)) (get_or w' (class_place R (i - 1)) 0) z (class_in R w n i)))
          (known (class_in R w n i).parent)
          ∙ ap (λ (z : ℕ). every (class_list e (count_after R w' n' (suc e) 0) (eqb i (count_after R w' n' e 3)) z (is_class_up_to R w n e (class_in R w n i).parent) (class_in R w n i))) prev
          ∙ ap (λ (z : ℕ). every (class_list e (count_after R w' n' (suc e) 0) (eqb i z) (get_or w (class_place R (i - 1)) 0) (is_class_up_to R w n e (class_in R w n i).parent) (class_in R w n i)))
          (count_same e 3 (omega arith) (omega arith))
          ∙ ap (λ (z : ℕ). every (class_list e z (eqb i (count_after R w n e 3)) (get_or w (class_place R (i - 1)) 0) (is_class_up_to R w n e (class_in R w n i).parent) (class_in R w n i)))
          (count_same (suc e) 0 l (omega arith))

  pub entry_fits_lem : (e : ℕ) → e < get_or w 1 0 → T (entry_numbers_fit R w' n' e)
  entry_fits_lem e l =
      and_both (row_fits R w' n' e) (every (laids ∷ classes ∷ members ∷ [])) (row_kept e l)
      (and_both laids (every (classes ∷ members ∷ []))
      (rw (part_same e 2 l (omega arith)) (all_turned (laid_fits R w n e) (laid_fits R w' n' e) (part_of R w n e 2) (laid_kept e l) (entry_tests R w n fits e l 1)))
      (and_both classes (members && true)
      (rw (part_same e 3 l (omega arith)) (all_turned (class_fits R w n e) (class_fits R w' n' e) (part_of R w n e 3) (class_kept e l) (entry_tests R w n fits e l 2)))
      (and_both members true
      (rw (count_same (suc e) 3 l (omega arith), count_same (suc e) 4 l (omega arith), before_same (count_after R w n (suc e) 3) (rises R w n fits e 3 l (omega arith)).1)
      (entry_tests R w n fits e l 3)) tt)))
    where
      laids : Bool
      laids = all (laid_fits R w' n' e) (part_of R w' n' e 2)

      classes : Bool
      classes = all (class_fits R w' n' e) (part_of R w' n' e 3)

      members : Bool
      members = eqb (members_before R w' n' (count_after R w' n' (suc e) 3)) (count_after R w' n' (suc e) 4)
