-- An entry that may follow a session: with its words and bytes after those that are there, question 23 gets a yes again.
use mathlib.Core.Path.{◌≡◌, refl, sym, ap, ◌∙◌, subst}
use mathlib.Core.Logic.{◌⊎◌, inl, inr}
use mathlib.Core.Bool.{Bool, true, false, not, ◌&&◌, ◌||◌}
use mathlib.Core.List.{List, [], ◌∷◌, ◌++◌, map, append_assoc}
use Prim.Native.Nat.{ℕ, zero, suc, ◌+◌, ◌-◌, ◌*◌, ◌/◌, ◌<◌, ◌≤◌}
use native.Mathlib.Omega.{arith}
use lib.ListN.{length, get_or, take, length-append}
use lib.Seq.{take_all}
use lib.Dec.{eqb, leb, ltb, T}
use borrow.Author.Tests.{le-leb, lt-ltb}
use Rattle.definition.specs.Basics.{all, any, every, unlike, from, concat_map}
use Rattle.definition.specs.Names.{Name, fixed, listed, same_name, names_few, names_short, names_sized, names_ended, names_unlike, names_fit}
use Rattle.definition.specs.Meaning.{Meaning, Named, named, nothing, function, class, global, toplevel, variable}
use Rattle.definition.specs.Outside.{is_outward, is_recorded, core}
use Rattle.definition.proofs.Lists.Tests.{and_both, and_left, and_right, or_cases, or_left, or_right, T_true, true_of, pick, eqb_of, ℕ-trichotomy}
use Rattle.definition.proofs.Lists.Members.{mem_any, any_mem, map_mem, from_mem, mem_from}
use Rattle.session.specs.Session.{Class, Accepted, all_classes}
use Rattle.session.specs.Words.{Room, ended, fixed_bytes, laid_place, class_place, session_size, count_after, part_of, name_bytes, members_before, class_in, session_in}
use Rattle.session.specs.Words.{counts_fit, session_names_fit, bytes_of, row_fits, is_class_up_to, laid_fits, class_fits, entry_numbers_fit, numbers_fit, runs_fit, laid_words, counts_with}
use Rattle.session.proofs.OutsideLaws.{all_append}
use Rattle.session.proofs.SessionLaws.{clauses}
use Rattle.session.proofs.HeldRuns.{held_classes, names_listed}
use Rattle.session.proofs.CountLaws.{concat_length, list_fits, names_end, ended_back, bytes_listed}
use Rattle.session.proofs.Renaming.{all_from, AllPass, all_none, all_some, every_passes}
use Rattle.session.proofs.Extended.{Extends, laid_test, class_list, entry_fits_lem}
use Rattle.session.proofs.NewWords.{no_named, no_class, concat_append}
use Rattle.session.proofs.Added.{Added}
use Rattle.session.proofs.ListedNames.{endless, ended_ends}
use Rattle.session.proofs.ReadBack.{all_at, class_at, listed_with, extends, count_before, count_new, part_new, stored_new, members_new}

-- the number of a name, where there are N listed
abbrev pub is_name : ℕ → ℕ → Bool
is_name N x = leb 1 x && leb x (24 + N)

-- the number of a function of an entry up to E
abbrev pub is_function : ℕ → ℕ → Bool
is_function E f = leb (f / 2048) E && not (eqb f (2048 * (f / 2048)))

-- may entry E of N names, classes cs and G globals lay this over?
abbrev pub laid_good : (E N G : ℕ) → List Class → Named → Bool
laid_good E N G cs x = is_name N x.name && go x.means
  where
    go : Meaning → Bool
    go nothing = false
    go (function f) = is_function E f && eqb (f / 2048) E
    go (class c) = any (λ k. eqb k.number c) cs
    go (global v m) = ltb v G && leb m 1
    go (toplevel r) = false
    go (variable r f) = false

-- may it have this class, where `known` tells which classes have a record?
abbrev pub class_good : (E N : ℕ) → (ℕ → Bool) → Class → Bool
class_good E N known c = every (class_list E N true 0 (known c.parent) c)

-- the classes with a record: of a list, or 100 to 102
abbrev pub known_in : List Class → ℕ → Bool
known_in cs c = any (λ k. eqb k.number c) cs || is_recorded core c

-- What is asked of entry e, with global count g after it, to follow the session of words w and bytes n.
pub record MayFollow (R : Room) (w n : List ℕ) (g : ℕ) (e : Accepted) : Type 0 where
  -- the global count does not fall, and is within its limit
  pub rises : get_or w 0 0 ≤ g
  pub few : g ≤ 1002048
  -- the names are of 1 to 255 bytes, without ends, new and unlike
  pub endless : T (all endless e.names)
  pub sized : T (all (λ x. leb 1 (length x) && leb (length x) 255) e.names)
  pub apart : T (unlike same_name (fixed ++ listed (name_bytes R w n) ++ e.names))
  -- the declarations and classes
  pub laid : T (all (laid_good (get_or w 1 0) (get_or w 3 0 + length e.names) g e.classes) e.laid)
  pub classes : T (all (class_good (get_or w 1 0) (get_or w 3 0 + length e.names) (known_in (all_classes (session_in R w n) ++ e.classes))) e.classes)
  pub rising : (j : ℕ) → suc j < length e.classes → (get_or e.classes j no_class).number < (get_or e.classes (suc j) no_class).number

-- a place where a test passes
any_place : {A : Type 0} (p : A → Bool) (d : A) (xs : List A) → T (any p xs) → (j : ℕ) × (j < length xs) × T (p (get_or xs j d))
any_place p d [] h = absurd h
any_place p d (x ∷ xs) h = go (or_cases (p x) (any p xs) h) (any_place p d xs)
  where
    go : T (p x) ⊎ T (any p xs) → (T (any p xs) → (j : ℕ) × (j < length xs) × T (p (get_or xs j d))) → (j : ℕ) × (j < suc (length xs)) × T (p (get_or (x ∷ xs) j d))
    go (inl t) f = (0, omega arith, t)
    go (inr t) f = let r = f t in (suc r.0, omega (arith, r.1), r.2)

pub any_append : {A : Type 0} (p : A → Bool) (xs ys : List A) → T (any p (xs ++ ys)) → T (any p xs) ⊎ T (any p ys)
any_append p [] ys h = inr h
any_append p (x ∷ xs) ys h = go (or_cases (p x) (any p (xs ++ ys)) h) (any_append p xs ys)
  where
    go : T (p x) ⊎ T (any p (xs ++ ys)) → (T (any p (xs ++ ys)) → T (any p xs) ⊎ T (any p ys)) → T (p x || any p xs) ⊎ T (any p ys)
    go (inl t) f = inl (or_left (p x) (any p xs) t)
    go (inr t) f = later (f t)
      where
        later : T (any p xs) ⊎ T (any p ys) → T (p x || any p xs) ⊎ T (any p ys)
        later (inl u) = inl (or_right (p x) (any p xs) u)
        later (inr u) = inr u

module _ (E N G : ℕ) (cs : List Class) where
  -- such declarations are read back
  pub laid_outward : (x : Named) → T (laid_good E N G cs x) → T (is_outward x.means)
  laid_outward x h = go x.means h
    where
      go : (d : Meaning) → T (laid_good E N G cs (named x.name d)) → T (is_outward d)
      go nothing h = and_right (is_name N x.name) false h
      go (function f) h = tt
      go (class c) h = tt
      go (global g m) h = tt
      go (toplevel r) h = and_right (is_name N x.name) false h
      go (variable r f) h = and_right (is_name N x.name) false h

  -- and their words pass
  laid_passes : (x : Named) (own : ℕ → Bool) → ((c : ℕ) → T (any (λ k. eqb k.number c) cs) → T (own c)) → T (laid_good E N G cs x)
      → T (laid_test E N G (own (get_or (laid_words x) 2 0)) (get_or (laid_words x) 0 0) (get_or (laid_words x) 1 0) (get_or (laid_words x) 2 0) (get_or (laid_words x) 3 0))
  laid_passes x own k h = go x.means h
    where
      n : Bool
      n = is_name N x.name

      go : (d : Meaning) → T (laid_good E N G cs (named x.name d))
          → T (laid_test E N G (own (get_or (laid_words (named x.name d)) 2 0)) (get_or (laid_words (named x.name d)) 0 0) (get_or (laid_words (named x.name d)) 1 0)
          (get_or (laid_words (named x.name d)) 2 0) (get_or (laid_words (named x.name d)) 3 0))
      go nothing h = absurd (and_right n false h)
      go (function f) h =
          let t : Bool = is_function E f && eqb (f / 2048) E in
          and_both n ((t && true) || false || false) (and_left n t h)
          (or_left ((t && true) || false) false (or_left (t && true) false (and_both t true (and_right n t h) tt)))
      go (class c) h =
          let t : Bool = any (λ k. eqb k.number c) cs in
          and_both n ((own c && true) || false) (and_left n t h) (or_left (own c && true) false (and_both (own c) true (k c (and_right n t h)) tt))
      go (global g m) h = h
      go (toplevel r) h = absurd (and_right n false h)
      go (variable r f) h = absurd (and_right n false h)

-- the limits of the counts
abbrev limit_list : Room → List ℕ → List ℕ → List Bool
limit_list R w n =
    leb (get_or w 0 0) 1002048 ∷ leb (get_or w 1 0) R.entries ∷ leb (get_or w 3 0) 1024 ∷ leb (get_or w 4 0) R.bytes ∷ leb (get_or w 5 0) R.laid
    ∷ leb (get_or w 6 0) R.classes ∷ leb (get_or w 7 0) R.members ∷ leb (session_size R) (length w) ∷ leb (length fixed_bytes + R.bytes) (length n) ∷ []

-- a class that passes, also after another, and where more classes have a record
class_more : (E N : ℕ) (first : Bool) (before : ℕ) (u v : Bool) (c : Class) → (T u → T v) → T (first || ltb before c.number)
    → T (every (class_list E N true 0 u c)) → T (every (class_list E N first before v c))
class_more E N first before u v c f g h =
    let fact : (i : ℕ) → T (get_or (class_list E N true 0 u c) i true) = pick (class_list E N true 0 u c) h in
    let passes : AllPass (class_list E N first before v c) =
    all_some _ (fact 0) (all_some _ (fact 1) (all_some _ g (all_some _ (fact 3)
    (all_some _ (more (eqb c.parent 0) (not (eqb c.parent c.number)) (fact 4))
    (all_some _ (fact 5) (all_some _ (fact 6) (all_some _ (fact 7) (all_some _ (fact 8) all_none)))))))) in
    every_passes passes
  where
    more : (p q : Bool) → T (p || u && q) → T (p || v && q)
    more true q t = tt
    more false q t = and_both v q (f (and_left u q t)) (and_right u q t)

-- the tests of numbers from a place on
all_places : (p : ℕ → Bool) (i k : ℕ) → ((j : ℕ) → j < k → T (p (i + j))) → T (all p (from i k))
all_places p i zero h = tt
all_places p i (suc k) h =
    let z : i + 0 ≡ i = omega arith in
    and_both (p i) (all p (from (suc i) k)) (subst (λ (r : ℕ). T (p r)) z (h 0 (omega arith)))
    (all_places p (suc i) k (λ j l. let q : i + suc j ≡ suc i + j = omega arith in subst (λ (r : ℕ). T (p r)) q (h (suc j) (omega arith))))

module _ (R : Room) (w n w' n' : List ℕ) (g : ℕ) (e : Accepted) (fit : runs_fit R w n ≡ true) (x : Added R w n w' n' g e)
    (ok : MayFollow R w n g e) (short : R.bytes ≤ 32768) where
  fits : T (runs_fit R w n)
  fits = T_true (runs_fit R w n) fit

  abbrev E : ℕ
  E = get_or w 1 0

  abbrev N : ℕ
  N = get_or w 3 0 + length e.names

  abbrev C : ℕ
  C = get_or w 6 0

  abbrev K : ℕ
  K = length e.classes

  ex : Extends R w n w' n'
  ex = extends R w n w' n' g e fit x ok.rises ok.endless

  listed_are : listed (name_bytes R w' n') ≡ listed (name_bytes R w n) ++ e.names
  listed_are = listed_with R w n w' n' g e fit x ok.rises ok.endless

  before : (c : ℕ) → c < 5 → count_after R w' n' E c ≡ get_or w (3 + c) 0
  before = count_before R w n w' n' g e fit x ok.rises ok.endless

  after : (c : ℕ) → c < 5 → count_after R w' n' (suc E) c ≡ get_or (counts_with w e) c 0
  after = count_new R w n w' n' g e fit x ok.rises ok.endless

  part : (c k : ℕ) → c < 5 → get_or (counts_with w e) c 0 ≡ get_or w (3 + c) 0 + k → part_of R w' n' E c ≡ from (get_or w (3 + c) 0) k
  part = part_new R w n w' n' g e fit x ok.rises ok.endless

  -- the numbers of its classes
  number_word : (j : ℕ) → j < K → get_or w' (class_place R (C + j)) 0 ≡ (get_or e.classes j no_class).number
  number_word j l =
      let z : class_place R (C + j) ≡ class_place R (C + j) + 0 = omega arith in
      ap (λ (k : ℕ). get_or w' k 0) z ∙ x.class_new j 0 l (omega arith)

  own_class : (c : ℕ) → T (any (λ k. eqb k.number c) e.classes) → T (any (λ i. eqb (get_or w' (class_place R i) 0) c) (from C K))
  own_class c h =
      let r = any_place (λ k. eqb k.number c) no_class e.classes h in
      mem_any (λ i. eqb (get_or w' (class_place R i) 0) c) (C + r.0) (from C K) (subst (λ (k : ℕ). T (eqb k c)) (sym (number_word r.0 r.1)) r.2)
      (mem_from (C + r.0) C K (omega arith) (omega (arith, r.1)))

  laid_fits_lem : (j : ℕ) → j < length e.laid → T (laid_fits R w' n' E (get_or w 5 0 + j))
  laid_fits_lem j l = subst T (sym same) (laid_passes E N g e.classes d (λ c. any (λ i. eqb (get_or w' (class_place R i) 0) c) (from C K)) own_class
      (all_at (laid_good E N g e.classes) no_named e.laid ok.laid j l))
    where
      d : Named
      d = get_or e.laid j no_named

      p : ℕ
      p = laid_place R (get_or w 5 0 + j)

      z : p ≡ p + 0
      z = omega arith

      same : laid_fits R w' n' E (get_or w 5 0 + j)
          ≡ laid_test E N g (any (λ i. eqb (get_or w' (class_place R i) 0) (get_or (laid_words d) 2 0)) (from C K))
          (get_or (laid_words d) 0 0) (get_or (laid_words d) 1 0) (get_or (laid_words d) 2 0) (get_or (laid_words d) 3 0)
      same =
          rw (
            ap (λ (k : ℕ). get_or w' k 0) z ∙ x.laid_new j 0 l (omega arith),
            x.laid_new j 1 l (omega arith),
            x.laid_new j 2 l (omega arith),
            x.laid_new j 3 l (omega arith),
            after 0 (omega arith),
            part 3 K (omega arith) refl,
            x.globals_is,
          )

  -- the classes with a record
  known_class : (c : ℕ) → T (known_in (all_classes (session_in R w n) ++ e.classes) c) → T (is_class_up_to R w' n' E c)
  known_class c h = go (or_cases (any p (all_classes (session_in R w n) ++ e.classes)) (is_recorded core c) h)
    where
      p : Class → Bool
      p k = eqb k.number c

      q : ℕ → Bool
      q i = eqb (get_or w' (class_place R i) 0) c

      counted : from 0 (count_after R w' n' (suc E) 3) ≡ from 0 (C + K)
      counted = ap (from 0) (after 3 (omega arith))

      found : (i : ℕ) → i < C + K → T (q i) → T (is_class_up_to R w' n' E c)
      found i l t =
          or_left (any q (from 0 (count_after R w' n' (suc E) 3))) (is_recorded core c)
          (subst (λ (l : List ℕ). T (any q l)) (sym counted) (mem_any q i (from 0 (C + K)) t (mem_from i 0 (C + K) (omega arith) (omega (arith, l)))))

      in_old : T (any p (all_classes (session_in R w n))) → T (is_class_up_to R w' n' E c)
      in_old t =
          let r = any_mem p (map (class_in R w n) (from 0 C)) (subst (λ (l : List Class). T (any p l)) (held_classes R w n fit) t) in
          let m = map_mem (class_in R w n) r.0 (from 0 C) r.1 in
          let b = from_mem m.0 0 C m.1 in
          let z : class_place R m.0 ≡ class_place R m.0 + 0 = omega arith in
          let v : get_or w' (class_place R m.0) 0 ≡ get_or w (class_place R m.0) 0 =
          ap (λ (k : ℕ). get_or w' k 0) z ∙ x.class_old m.0 0 (omega (arith, b.1)) (omega arith) ∙ ap (λ (k : ℕ). get_or w k 0) (sym z) in
          let u : r.0.number ≡ get_or w (class_place R m.0) 0 = ap (λ (k : Class). k.number) m.2 in
          found m.0 (omega (arith, b.1)) (subst (λ (k : ℕ). T (eqb k c)) (u ∙ sym v) r.2)

      in_new : T (any p e.classes) → T (is_class_up_to R w' n' E c)
      in_new t = let r = any_place p no_class e.classes t in found (C + r.0) (omega (arith, r.1)) (subst (λ (k : ℕ). T (eqb k c)) (sym (number_word r.0 r.1)) r.2)

      in_either : T (any p (all_classes (session_in R w n))) ⊎ T (any p e.classes) → T (is_class_up_to R w' n' E c)
      in_either (inl t) = in_old t
      in_either (inr t) = in_new t

      go : T (any p (all_classes (session_in R w n) ++ e.classes)) ⊎ T (is_recorded core c) → T (is_class_up_to R w' n' E c)
      go (inl t) = in_either (any_append p (all_classes (session_in R w n)) e.classes t)
      go (inr t) = or_right (any q (from 0 (count_after R w' n' (suc E) 3))) (is_recorded core c) t

  class_fits_lem : (j : ℕ) → j < K → T (class_fits R w' n' E (C + j))
  class_fits_lem j l = subst T (sym same) (class_more E N (eqb (C + j) C) (get_or w' (class_place R (C + j - 1)) 0) (known_in all_classes_lem d.parent) (is_class_up_to R w' n' E d.parent) d
      (known_class d.parent) (first j l refl) (all_at (class_good E N (known_in all_classes_lem)) no_class e.classes ok.classes j l))
    where
      d : Class
      d = get_or e.classes j no_class

      all_classes_lem : List Class
      all_classes_lem = all_classes (session_in R w n) ++ e.classes

      -- the number before its own
      first : (i : ℕ) → i < K → j ≡ i → T (eqb (C + j) C || ltb (get_or w' (class_place R (C + j - 1)) 0) d.number)
      first zero h q = or_left (eqb (C + j) C) (ltb (get_or w' (class_place R (C + j - 1)) 0) d.number) (eqb_of (C + j) C (omega arith))
      first (suc i) h q =
          let z : C + j - 1 ≡ C + i = omega arith in
          or_right (eqb (C + j) C) (ltb (get_or w' (class_place R (C + j - 1)) 0) d.number)
          (T_true (ltb (get_or w' (class_place R (C + j - 1)) 0) d.number) (lt-ltb (get_or w' (class_place R (C + j - 1)) 0) d.number
          (omega (arith, ap (λ (k : ℕ). get_or w' (class_place R k) 0) z, number_word i (omega arith), ok.rising i h, ap (λ (k : ℕ). (get_or e.classes k no_class).number) q))))

      same : class_fits R w' n' E (C + j) ≡ every (class_list E N (eqb (C + j) C) (get_or w' (class_place R (C + j - 1)) 0) (is_class_up_to R w' n' E d.parent) d)
      same =
          ap (λ (c : Class). every (class_list E (count_after R w' n' (suc E) 0) (eqb (C + j) (count_after R w' n' E 3))
          (get_or w' (class_place R (C + j - 1)) 0) (is_class_up_to R w' n' E c.parent) c))
          (class_at R w' n' C (get_or w 7 0) e.classes (stored_new R w n w' n' g e fit x ok.rises ok.endless) j l)
          ∙ ap (λ (k : ℕ). every (class_list E k (eqb (C + j) (count_after R w' n' E 3)) (get_or w' (class_place R (C + j - 1)) 0) (is_class_up_to R w' n' E d.parent) d)) (after 0 (omega arith))
          ∙ ap (λ (k : ℕ). every (class_list E N (eqb (C + j) k) (get_or w' (class_place R (C + j - 1)) 0) (is_class_up_to R w' n' E d.parent) d)) (before 3 (omega arith))

  row_fits_lem : T (row_fits R w' n' E)
  row_fits_lem =
      and_both (all p (from 0 5)) (eqb (count_after R w' n' (suc E) 1) (bytes_of R w' n' (count_after R w' n' (suc E) 0)))
      (all_from p 0 5 (λ c l. counted c (omega (arith, l))))
      (eqb_of (count_after R w' n' (suc E) 1) (bytes_of R w' n' (count_after R w' n' (suc E) 0)) (after 1 (omega arith) ∙ sym (ap (bytes_of R w' n') (after 0 (omega arith)) ∙ bytes_are)))
    where
      p : ℕ → Bool
      p c = leb (count_after R w' n' E c) (count_after R w' n' (suc E) c) && leb (count_after R w' n' (suc E) c) (get_or w' (3 + c) 0)

      counted : (c : ℕ) → c < 5 → T (p c)
      counted c l =
          let u : count_after R w' n' (suc E) c ≡ get_or w' (3 + c) 0 = after c l ∙ sym (x.count_is c l) in
          and_both (leb (count_after R w' n' E c) (count_after R w' n' (suc E) c)) (leb (count_after R w' n' (suc E) c) (get_or w' (3 + c) 0))
          (T_true _ (le-leb (count_after R w' n' E c) (count_after R w' n' (suc E) c) (omega (arith, u, before c l, ex.counts c l))))
          (T_true _ (le-leb (count_after R w' n' (suc E) c) (get_or w' (3 + c) 0) (omega (arith, u))))

      names : List Name
      names = listed (name_bytes R w n)

      bytes_are : bytes_of R w' n' N ≡ get_or w 4 0 + length (concat_map ended e.names)
      bytes_are =
          ap (λ (l : List Name). length (concat_map ended (take N l))) listed_are
          ∙ ap (λ (l : List Name). length (concat_map ended l)) (take_all N (names ++ e.names) (omega (arith, length-append names e.names, names_listed R w n fit)))
          ∙ concat_length ended names e.names
          ∙ ap (λ (k : ℕ). k + length (concat_map ended e.names)) (ap length (ended_back (name_bytes R w n) (names_end R w n fit)) ∙ bytes_listed R w n fit)

  pub entry_follows : T (entry_numbers_fit R w' n' E)
  entry_follows =
      and_both (row_fits R w' n' E) (every (laids ∷ classes ∷ members ∷ [])) row_fits_lem
      (and_both laids (every (classes ∷ members ∷ []))
      (subst (λ (l : List ℕ). T (all (laid_fits R w' n' E) l)) (sym (part 2 (length e.laid) (omega arith) refl))
      (all_places (laid_fits R w' n' E) (get_or w 5 0) (length e.laid) laid_fits_lem))
      (and_both classes (members && true)
      (subst (λ (l : List ℕ). T (all (class_fits R w' n' E) l)) (sym (part 3 K (omega arith) refl)) (all_places (class_fits R w' n' E) C K class_fits_lem))
      (and_both members true
      (eqb_of (members_before R w' n' (count_after R w' n' (suc E) 3)) (count_after R w' n' (suc E) 4)
      (ap (members_before R w' n') (after 3 (omega arith)) ∙ members_new R w n w' n' g e fit x ok.rises ok.endless ∙ sym (after 4 (omega arith)))) tt)))
    where
      laids : Bool
      laids = all (laid_fits R w' n' E) (part_of R w' n' E 2)

      classes : Bool
      classes = all (class_fits R w' n' E) (part_of R w' n' E 3)

      members : Bool
      members = eqb (members_before R w' n' (count_after R w' n' (suc E) 3)) (count_after R w' n' (suc E) 4)

  -- a count within its limit
  limit : (k m : ℕ) {v : ℕ} → get_or w' k 0 ≡ v → v ≤ m → T (leb (get_or w' k 0) m)
  limit k m q l = T_true (leb (get_or w' k 0) m) (le-leb (get_or w' k 0) m (omega (arith, q, l)))

  counts_fit_lem : T (counts_fit R w' n')
  counts_fit_lem =
      let passes : AllPass (limit_list R w' n') =
      all_some _ (limit 0 1002048 x.globals_is ok.few)
      (all_some _ (limit 1 R.entries x.entries_is (omega (arith, x.room.entries)))
      (all_some _ (limit 3 1024 (x.count_is 0 (omega arith)) x.room.names)
      (all_some _ (limit 4 R.bytes (x.count_is 1 (omega arith)) x.room.bytes)
      (all_some _ (limit 5 R.laid (x.count_is 2 (omega arith)) x.room.laid)
      (all_some _ (limit 6 R.classes (x.count_is 3 (omega arith)) x.room.classes)
      (all_some _ (limit 7 R.members (x.count_is 4 (omega arith)) x.room.members)
      (all_some _ (T_true (leb (session_size R) (length w')) (le-leb (session_size R) (length w') (omega (arith, x.long, x.room.long))))
      (all_some _ (T_true (leb (length fixed_bytes + R.bytes) (length n')) (le-leb (length fixed_bytes + R.bytes) (length n') (omega (arith, x.long_bytes, x.room.long_bytes)))) all_none)))))))) in
      every_passes passes

  listed_long : length (listed (name_bytes R w' n')) ≡ N
  listed_long = ap length listed_are ∙ length-append (listed (name_bytes R w n)) e.names ∙ ap (λ (k : ℕ). k + length e.names) (names_listed R w n fit)

  list_good : T (names_fit (name_bytes R w' n'))
  list_good =
      and_both (few_names && short_names && sized_names && ended_names) (names_unlike b')
      (and_both (few_names && short_names && sized_names) ended_names
      (and_both (few_names && short_names) sized_names
      (and_both few_names short_names
      (T_true few_names (le-leb (length (listed b')) 1024 (omega (arith, listed_long, x.room.names))))
      (T_true short_names (le-leb (length b') 32768 (omega (arith, ap length x.bytes_are, length-append b (concat_map ended e.names), bytes_listed R w n fit, x.room.bytes, short)))))
      (subst (λ (l : List Name). T (all sizes l)) (sym listed_are) (all_append sizes (listed b) e.names old_sized ok.sized)))
      (subst (λ (l : List ℕ). T (names_ended l)) (sym all_ended) (ended_ends (listed b ++ e.names))))
      (subst (λ (l : List Name). T (unlike same_name l)) (append_assoc fixed (listed b) e.names ∙ ap (λ (l : List Name). fixed ++ l) (sym listed_are)) ok.apart)
    where
      b : List ℕ
      b = name_bytes R w n

      b' : List ℕ
      b' = name_bytes R w' n'

      sizes : Name → Bool
      sizes l = leb 1 (length l) && leb (length l) 255

      few_names : Bool
      few_names = names_few b'

      short_names : Bool
      short_names = names_short b'

      sized_names : Bool
      sized_names = names_sized b'

      ended_names : Bool
      ended_names = names_ended b'

      old_sized : T (names_sized b)
      old_sized =
          let front : Bool = names_few b && names_short b in
          and_right front (names_sized b) (and_left (front && names_sized b) (names_ended b)
          (and_left (front && names_sized b && names_ended b) (names_unlike b) (T_true (names_fit b) (list_fits R w n fit))))

      all_ended : b' ≡ concat_map ended (listed b ++ e.names)
      all_ended = x.bytes_are ∙ ap (λ (l : List ℕ). l ++ concat_map ended e.names) (sym (ended_back b (names_end R w n fit))) ∙ sym (concat_append ended (listed b) e.names)

  names_fit_lem : T (session_names_fit R w' n')
  names_fit_lem =
      and_both (same_name (take (length fixed_bytes) n') fixed_bytes && names_fit (name_bytes R w' n')) (eqb (length (listed (name_bytes R w' n'))) (get_or w' 3 0))
      (and_both (same_name (take (length fixed_bytes) n') fixed_bytes) (names_fit (name_bytes R w' n'))
      (subst (λ (l : List ℕ). T (same_name l fixed_bytes)) (sym x.fixed_same) old_fixed) list_good)
      (eqb_of (length (listed (name_bytes R w' n'))) (get_or w' 3 0) (listed_long ∙ sym (x.count_is 0 (omega arith))))
    where
      old_fixed : T (same_name (take (length fixed_bytes) n) fixed_bytes)
      old_fixed =
          let same : Bool = same_name (take (length fixed_bytes) n) fixed_bytes in
          let list : Bool = names_fit (name_bytes R w n) in
          and_left same list (and_left (same && list) (eqb (length (listed (name_bytes R w n))) (get_or w 3 0)) (clauses R w n fits 1))

  numbers_fit_lem : T (numbers_fit R w' n')
  numbers_fit_lem =
      subst (λ (k : ℕ). T (all (entry_numbers_fit R w' n') (from 0 k) && all (λ c. eqb (count_after R w' n' k c) (get_or w' (3 + c) 0)) (from 0 5))) (sym x.entries_is)
      (and_both (all (entry_numbers_fit R w' n') (from 0 (suc E))) (all (λ c. eqb (count_after R w' n' (suc E) c) (get_or w' (3 + c) 0)) (from 0 5))
      (all_from (entry_numbers_fit R w' n') 0 (suc E) (λ i l. each i (omega (arith, l))))
      (all_from (λ c. eqb (count_after R w' n' (suc E) c) (get_or w' (3 + c) 0)) 0 5 (λ c l.
      eqb_of (count_after R w' n' (suc E) c) (get_or w' (3 + c) 0) (after c (omega (arith, l)) ∙ sym (x.count_is c (omega (arith, l)))))))
    where
      each : (i : ℕ) → i < suc E → T (entry_numbers_fit R w' n' i)
      each i l = go (ℕ-trichotomy i E)
        where
          go : (i < E) ⊎ ((i ≡ E) ⊎ (E < i)) → T (entry_numbers_fit R w' n' i)
          go (inl h) = entry_fits_lem R w n w' n' fit ex i h
          go (inr (inl q)) = subst (λ (k : ℕ). T (entry_numbers_fit R w' n' k)) (sym q) entry_follows
          go (inr (inr h)) = absurd (omega arith)

  pub follows_fits : runs_fit R w' n' ≡ true
  follows_fits =
      true_of (runs_fit R w' n')
      (and_both (counts_fit R w' n') (session_names_fit R w' n' && (numbers_fit R w' n' && true)) counts_fit_lem
      (and_both (session_names_fit R w' n') (numbers_fit R w' n' && true) names_fit_lem (and_both (numbers_fit R w' n') true numbers_fit_lem tt)))
