-- Where names start in their list, and that their texts stand there.
use mathlib.Core.Path.{◌≡◌, refl, sym, ap, subst, ◌∙◌}
use mathlib.Core.Bool.{Bool, true, false, not, ◌&&◌, ◌||◌}
use mathlib.Core.List.{List, [], ◌∷◌, ◌++◌, append_assoc}
use Prim.Native.Nat.{ℕ, zero, suc, ◌+◌, ◌-◌, ◌<◌, ◌≤◌}
use native.Mathlib.Decide.{dec_le}
use native.Mathlib.Omega.{arith}
use lib.ListN.{length, get_or, take, drop, length-append, take-append-drop, drop_of_length-le, get_or-append, get_or-eq_default}
use lib.Seq.{drop-cons}
use lib.Dec.{eqb, leb}
use borrow.Author.Tests.{eq-eqb, ne_eqb, eqb-false}
use Rattle.definition.specs.Basics.{when◌then◌else◌}
use Rattle.definition.specs.Names.{Name, fixed, lead, listed, names_fit, names_ended, names_few, names_short, names_sized, names_unlike, same_name}
use Rattle.definition.proofs.Lists.Tests.{T_true, true_of, and_left, and_right}
use Rattle.names.proofs.Question.{fit_small}
use Rattle.session.specs.Words.{whole, fixed_bytes, name_bytes, session_names_fit, name_text}
use Rattle.name_text.specs.Text.{session_text}
use Rattle.name_text.proofs.TextLaws.{listed_after, begins, name_short}
use Rattle.name_place.specs.declared.Place.{Place}
use Rattle.name_place.specs.Place.{bytes_before, nowhere, text_at, NamePlaced}

-- a list has as many bytes as its names with their ends, or fewer
pub before_le : (k : ℕ) (xs : List ℕ) → bytes_before k xs ≤ length xs
before_le zero xs = omega arith
before_le (suc k) [] = omega arith
before_le (suc k) (x ∷ xs) = by (eqb x 10) (before_le k xs) (before_le (suc k) xs)
  where
    by : (t : Bool) → bytes_before k xs ≤ length xs → bytes_before (suc k) xs ≤ length xs
        → suc (when t then bytes_before k xs else bytes_before (suc k) xs) ≤ suc (length xs)
    by true l m = omega arith
    by false l m = omega arith

-- the first name stands at the start
first_there : (xs : List ℕ) → take (length (get_or (listed xs) 0 [])) xs ≡ get_or (listed xs) 0 []
first_there [] = refl
first_there (x ∷ xs) = by (eqb x 10) (listed xs) (first_there xs)
  where
    by : (t : Bool) (l : List Name) → take (length (get_or l 0 [])) xs ≡ get_or l 0 []
        → take (length (get_or (when t then [] ∷ listed xs else lead x l) 0 [])) (x ∷ xs) ≡ get_or (when t then [] ∷ listed xs else lead x l) 0 []
    by true l e = refl
    by false [] e = refl
    by false (n ∷ ns) e = ap (λ (y : List ℕ). x ∷ y) e

-- and each where the names before it end
pub name_there : (xs : List ℕ) (k : ℕ) → take (length (get_or (listed xs) k [])) (drop (bytes_before k xs) xs) ≡ get_or (listed xs) k []
name_there xs zero = first_there xs
name_there [] (suc k) = refl
name_there (x ∷ xs) (suc k) = by (eqb x 10) (listed xs) (name_there xs k) (name_there xs (suc k))
  where
    by : (t : Bool) (l : List Name) → take (length (get_or l k [])) (drop (bytes_before k xs) xs) ≡ get_or l k []
        → take (length (get_or l (suc k) [])) (drop (bytes_before (suc k) xs) xs) ≡ get_or l (suc k) []
        → take (length (get_or (when t then [] ∷ l else lead x l) (suc k) [])) (drop (suc (when t then bytes_before k xs else bytes_before (suc k) xs)) (x ∷ xs))
        ≡ get_or (when t then [] ∷ l else lead x l) (suc k) []
    by true l e d = e
    by false [] e d = d
    by false (n ∷ ns) e d = d

-- what follows does not move a name
pub before_more : (xs ys : List ℕ) (k : ℕ) → k < length (listed xs) → bytes_before k (xs ++ ys) ≡ bytes_before k xs
before_more xs ys zero l = refl
before_more [] ys (suc k) l = absurd (omega arith)
before_more (x ∷ xs) ys (suc k) l = by (eqb x 10) (listed xs) (λ h. before_more xs ys k h) (λ h. before_more xs ys (suc k) h) l
  where
    by : (t : Bool) (m : List Name) → (k < length m → bytes_before k (xs ++ ys) ≡ bytes_before k xs)
        → (suc k < length m → bytes_before (suc k) (xs ++ ys) ≡ bytes_before (suc k) xs) → suc k < length (when t then [] ∷ m else lead x m)
        → suc (when t then bytes_before k (xs ++ ys) else bytes_before (suc k) (xs ++ ys)) ≡ suc (when t then bytes_before k xs else bytes_before (suc k) xs)
    by true m f g l = ap suc (f (omega arith))
    by false [] f g l = absurd (omega arith)
    by false (n ∷ ns) f g l = ap suc (g (omega arith))

-- A loop that looks for the start of name k has passed `at` bytes, with so many names left.
pub record Seeking (xs : List ℕ) (k left at : ℕ) : Type 0 where
  pub found : at + bytes_before left (drop at xs) ≡ bytes_before k xs
  pub within : at ≤ length xs
  pub few : left ≤ k

pub seeking_start : (xs : List ℕ) (k : ℕ) → Seeking xs k k 0
seeking_start xs k = record { found = omega arith; within = omega arith; few = omega arith }

pub seeking_more : {xs : List ℕ} {k left at rest : ℕ} → Seeking xs k left at → at < length xs → (left ≡ 0 → ⊥)
    → rest ≡ (when eqb (get_or xs at 0) 10 then left - 1 else left) → Seeking xs k rest (at + 1)
seeking_more {xs} {k} {left} {at} {rest} h l z e =
    record {
      found = omega (arith, step left z e, h.found);
      within = omega arith;
      few = omega (arith, h.few, less (eqb (get_or xs at 0) 10) e);
    }
  where
    less : (t : Bool) → rest ≡ (when t then left - 1 else left) → rest ≤ left
    less true e = omega arith
    less false e = omega arith

    step : (m : ℕ) → (m ≡ 0 → ⊥) → rest ≡ (when eqb (get_or xs at 0) 10 then m - 1 else m)
        → bytes_before m (drop at xs) ≡ suc (bytes_before rest (drop (at + 1) xs))
    step zero z e = absurd (z refl)
    step (suc m) z e =
        let s : suc at ≡ at + 1 = omega arith in
        ap (bytes_before (suc m)) (drop-cons xs at 0 l)
        ∙ by (eqb (get_or xs at 0) 10) e
        ∙ ap (λ (i : ℕ). suc (bytes_before rest (drop i xs))) s
      where
        by : (t : Bool) → rest ≡ (when t then suc m - 1 else suc m)
            → suc (when t then bytes_before m (drop (suc at) xs) else bytes_before (suc m) (drop (suc at) xs)) ≡ suc (bytes_before rest (drop (suc at) xs))
        by true e = let q : m ≡ rest = omega arith in ap (λ (i : ℕ). suc (bytes_before i (drop (suc at) xs))) q
        by false e = ap (λ (i : ℕ). suc (bytes_before i (drop (suc at) xs))) (sym e)

pub seeking_found : {xs : List ℕ} {k left at : ℕ} → Seeking xs k left at → left ≡ 0 → at ≡ bytes_before k xs
seeking_found {xs} {k} {left} {at} h z =
    omega (arith, h.found, ap (λ (i : ℕ). bytes_before i (drop at xs)) z)

pub seeking_end : {xs : List ℕ} {k left at : ℕ} → Seeking xs k left at → length xs ≤ at → at ≡ bytes_before k xs
seeking_end {xs} {k} {left} {at} h l =
    omega (arith, h.found, ap (bytes_before left) (drop_of_length-le xs {i = at} l) ∙ none left)
  where
    none : (m : ℕ) → bytes_before m [] ≡ 0
    none zero = refl
    none (suc m) = refl

fit_ended : (l : List ℕ) → names_fit l ≡ true → names_ended l ≡ true
fit_ended l e =
    let a : Bool = names_few l && names_short l && names_sized l in
    true_of (names_ended l) (and_right a (names_ended l) (and_left (a && names_ended l) (names_unlike l) (T_true (names_fit l) e)))

-- A text of a session that is not empty.
module _ (w n : List ℕ) (k : ℕ) (some : length (session_text w n k) ≡ 0 → ⊥) where
  abbrev list : List ℕ
  list = name_bytes whole w n

  abbrev after : List ℕ
  after = drop (get_or w 4 0) (drop 168 n)

  passed : (eqb k 0 ≡ false) × (session_names_fit whole w n ≡ true)
  passed = by (eqb k 0) (session_names_fit whole w n) _ some
    where
      by : (z v : Bool) (x : Name) → (length (when z || not v then [] else x) ≡ 0 → ⊥) → (z ≡ false) × (v ≡ true)
      by true v x f = absurd (f refl)
      by false true x f = (refl, refl)
      by false false x f = absurd (f refl)

  pub number_some : 1 ≤ k
  number_some = omega (arith, eqb-false k 0 passed.0)

  text_is : session_text w n k ≡ get_or (fixed ++ listed list) (k - 1) []
  text_is = rw (passed.0, passed.1)

  there : k - 1 < length (fixed ++ listed list)
  there = by (dec_le (length (fixed ++ listed list)) (k - 1))
    where
      by : Dec (length (fixed ++ listed list) ≤ k - 1) → k - 1 < length (fixed ++ listed list)
      by (yes l) = absurd (some (ap length (text_is ∙ get_or-eq_default (fixed ++ listed list) [] l)))
      by (no l) = omega arith

  list_fits : names_fit list ≡ true
  list_fits =
      let a : Bool = same_name (take 168 n) fixed_bytes in
      let c : Bool = eqb (length (listed list)) (get_or w 3 0) in
      true_of (names_fit list) (and_right a (names_fit list) (and_left (a && names_fit list) c (T_true (a && names_fit list && c) passed.1)))

  -- the bytes are those of the fixed names, of the listed ones, and more
  parts : n ≡ (fixed_bytes ++ list) ++ after
  parts =
      sym (take-append-drop 168 n)
      ∙ ap (λ (l : List ℕ). l ++ drop 168 n) (begins w n passed.1)
      ∙ ap (λ (l : List ℕ). fixed_bytes ++ l) (sym (take-append-drop (get_or w 4 0) (drop 168 n)))
      ∙ sym (append_assoc fixed_bytes list after)

  names_first : listed (fixed_bytes ++ list) ≡ fixed ++ listed list
  names_first = listed_after fixed_bytes list refl

  list_ended : names_ended list ≡ true
  list_ended = fit_ended list list_fits

  names_all : listed n ≡ (fixed ++ listed list) ++ listed after
  names_all =
      ap listed (parts ∙ append_assoc fixed_bytes list after)
      ∙ listed_after fixed_bytes (list ++ after) refl
      ∙ ap (λ (l : List Name). fixed ++ l) (listed_after list after list_ended)
      ∙ sym (append_assoc fixed (listed list) (listed after))

  name_is : get_or (listed n) (k - 1) [] ≡ session_text w n k
  name_is =
      ap (λ (l : List Name). get_or l (k - 1) []) names_all ∙ get_or-append (fixed ++ listed list) (listed after) [] (k - 1) there ∙ sym text_is

  standing : take (length (session_text w n k)) (drop (bytes_before (k - 1) n) n) ≡ session_text w n k
  standing = subst (λ (t : Name). take (length t) (drop (bytes_before (k - 1) n) n) ≡ t) name_is (name_there n (k - 1))

  pub start_low : bytes_before (k - 1) n ≤ 32936
  start_low =
      let same : bytes_before (k - 1) n ≡ bytes_before (k - 1) (fixed_bytes ++ list) =
      ap (bytes_before (k - 1)) parts ∙ before_more (fixed_bytes ++ list) after (k - 1) (subst (λ (l : List Name). k - 1 < length l) (sym names_first) there) in
      omega (arith, same, before_le (k - 1) (fixed_bytes ++ list), length-append fixed_bytes list, (fit_small list list_fits).1)

-- A text of an entry's list that is not empty.
module _ (ns : List ℕ) (k : ℕ) (some : length (when names_fit ns then get_or (listed ns) (k - 25) [] else []) ≡ 0 → ⊥) where
  fits : names_fit ns ≡ true
  fits = by (names_fit ns) _ some
    where
      by : (t : Bool) (x : Name) → (length (when t then x else []) ≡ 0 → ⊥) → t ≡ true
      by true x f = refl
      by false x f = absurd (f refl)

  pub list_low : bytes_before (k - 25) ns ≤ 32936
  list_low = omega (arith, before_le (k - 25) ns, (fit_small ns fits).1)

-- The text t of number k.
module _ (w n ns : List ℕ) (o : Bool) (k : ℕ) {t : List ℕ} (e : t ≡ name_text whole w n ns o k) where
  pub text_short : length t ≤ 255
  text_short = subst (λ (x : Name). length x ≤ 255) (sym e) (name_short w n ns o k)

  size_zero : length t ≡ 0 → eqb (length (name_text whole w n ns o k)) 0 ≡ true
  size_zero z = eq-eqb (length (name_text whole w n ns o k)) 0 (ap length (sym e) ∙ z)

  size_some : (length t ≡ 0 → ⊥) → eqb (length (name_text whole w n ns o k)) 0 ≡ false
  size_some f = ne_eqb (length (name_text whole w n ns o k)) 0 (λ z. f (ap length e ∙ z))

  -- no text stands nowhere
  pub placed_nowhere : length t ≡ 0 → NamePlaced w n ns o k nowhere
  placed_nowhere z = record {
    place = rw (size_zero z);
    text = empty (name_text whole w n ns o k) (ap length (sym e) ∙ z);
  }
    where
      empty : (l : List ℕ) → length l ≡ 0 → [] ≡ l
      empty [] d = refl
      empty (x ∷ l) d = absurd (omega arith)

  module _ (some : length t ≡ 0 → ⊥) where
    -- it stands in the session's bytes
    module _ (h : (o && leb 25 k) ≡ false) where
      of_session : t ≡ session_text w n k
      of_session = e ∙ ap (λ (c : Bool). when c then (when names_fit ns then get_or (listed ns) (k - 25) [] else []) else session_text w n k) h

      stands : length (session_text w n k) ≡ 0 → ⊥
      stands z = some (ap length of_session ∙ z)

      pub session_number : 1 ≤ k
      session_number = number_some w n k stands

      pub session_low : bytes_before (k - 1) n ≤ 32936
      session_low = start_low w n k stands

      pub placed_session : {p : Place} → p ≡ record { list = 0; start = bytes_before (k - 1) n; length = length t } → NamePlaced w n ns o k p
      placed_session {p} d = record {
        place = d ∙ ap (λ (m : ℕ). record { list = 0; start = bytes_before (k - 1) n; length = m }) (ap length e) ∙ sym (rw (size_some some, h));
        text =
            ap (text_at n ns) d ∙ ap (λ (x : Name). take (length x) (drop (bytes_before (k - 1) n) n)) of_session ∙ standing w n k stands ∙ sym of_session ∙ e;
      }

    -- or in the entry's list
    module _ (h : (o && leb 25 k) ≡ true) where
      of_list : t ≡ (when names_fit ns then get_or (listed ns) (k - 25) [] else [])
      of_list = e ∙ ap (λ (c : Bool). when c then (when names_fit ns then get_or (listed ns) (k - 25) [] else []) else session_text w n k) h

      stands_listed : length (when names_fit ns then get_or (listed ns) (k - 25) [] else []) ≡ 0 → ⊥
      stands_listed z = some (ap length of_list ∙ z)

      pub listed_low : bytes_before (k - 25) ns ≤ 32936
      listed_low = list_low ns k stands_listed

      pub placed_listed : {p : Place} → p ≡ record { list = 1; start = bytes_before (k - 25) ns; length = length t } → NamePlaced w n ns o k p
      placed_listed {p} d = record {
        place = d ∙ ap (λ (m : ℕ). record { list = 1; start = bytes_before (k - 25) ns; length = m }) (ap length e) ∙ sym (rw (size_some some, h));
        text =
            ap (text_at n ns) d ∙ ap (λ (x : Name). take (length x) (drop (bytes_before (k - 25) ns) ns)) named ∙ name_there ns (k - 25) ∙ sym named ∙ e;
      }
        where
          named : t ≡ get_or (listed ns) (k - 25) []
          named = of_list ∙ ap (λ (c : Bool). when c then get_or (listed ns) (k - 25) [] else []) (fits ns k stands_listed)
