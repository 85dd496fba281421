-- The counts in a session's words are those of the session that they hold; so question 24 is asked of the words.
use mathlib.Core.Path.{◌≡◌, refl, sym, ap, ◌∙◌}
use mathlib.Core.Bool.{Bool, true, false, ◌&&◌}
use mathlib.Core.List.{List, [], ◌∷◌, ◌++◌, map}
use Prim.Native.Nat.{ℕ, zero, suc, ◌+◌}
use native.Mathlib.Omega.{arith}
use native.Mathlib.Numerals.{sub-one}
use lib.ListN.{length, get_or, take, drop, length-append, length-map, length-drop}
use lib.Seq.{length-take-le}
use lib.Dec.{eqb, leb, T, eqb→eq, leb→le}
use borrow.Author.Tests.{eqb-true, eqb-false}
use Rattle.definition.specs.Basics.{when◌then◌else◌, from, concat_map, total}
use Rattle.definition.specs.Names.{Name, lead, listed, same_name, names_few, names_short, names_sized, names_ended, names_unlike, names_fit}
use Rattle.definition.proofs.Lists.Tests.{T_true, true_of, and_left, and_right, pick}
use Rattle.definition.proofs.Lists.Members.{total_append}
use Rattle.session.specs.Session.{Accepted, all_laid, all_classes, member_count, within}
use Rattle.session.specs.Words.{Room, ended, fixed_bytes, name_bytes, count_after, fields_in, methods_in, members_before, laid_in, class_in, entry_in, session_in, session_size, runs_fit}
use Rattle.session.proofs.SessionLaws.{from_length, clauses, last_are, entry_tests, fields_length, methods_length}
use Rattle.session.proofs.HeldRuns.{held_listed, names_listed, held_laid, held_classes}

module _ {A B : Type 0} where
  -- sums over joined lists
  total_lengths : (f : A → List B) (xs : List A) → total (λ x. length (f x)) xs ≡ length (concat_map f xs)
  total_lengths f [] = refl
  total_lengths f (x ∷ xs) = ap (λ (n : ℕ). length (f x) + n) (total_lengths f xs) ∙ sym (length-append (f x) (concat_map f xs))

  total_joined : (f : A → List B) (g : B → ℕ) (xs : List A) → total (λ x. total g (f x)) xs ≡ total g (concat_map f xs)
  total_joined f g [] = refl
  total_joined f g (x ∷ xs) = ap (λ (n : ℕ). total g (f x) + n) (total_joined f g xs) ∙ sym (total_append g (f x) (concat_map f xs))

  total_map : (f : A → B) (g : B → ℕ) (h : A → ℕ) (xs : List A) → ((x : A) → g (f x) ≡ h x) → total g (map f xs) ≡ total h xs
  total_map f g h [] e = refl
  total_map f g h (x ∷ xs) e = ap (λ (n : ℕ). n + total g (map f xs)) (e x) ∙ ap (λ (n : ℕ). h x + n) (total_map f g h xs e)

pub concat_length : {A B : Type 0} (f : A → List B) (xs ys : List A) → length (concat_map f (xs ++ ys)) ≡ length (concat_map f xs) + length (concat_map f ys)
concat_length f [] ys = omega arith
concat_length f (x ∷ xs) ys =
    omega (arith, length-append (f x) (concat_map f (xs ++ ys)), length-append (f x) (concat_map f xs), concat_length f xs ys)

-- the bytes of names with their ends
pub ended_sum : (l : List Name) → total (λ n. suc (length n)) l ≡ length (concat_map ended l)
ended_sum [] = refl
ended_sum (n ∷ l) = omega (arith, length-append (ended n) (concat_map ended l), length-append n (10 ∷ []), ended_sum l)

-- a list whose last name is ended is its names with their ends
pub ended_back : (ns : List ℕ) → names_ended ns ≡ true → concat_map ended (listed ns) ≡ ns
ended_back [] h = refl
ended_back (x ∷ []) h = go (eqb x 10) refl
  where
    last : x ≡ 10
    last = eqb-true x 10 h

    go : (t : Bool) → eqb x 10 ≡ t → concat_map ended (when t then [] ∷ [] else lead x []) ≡ x ∷ []
    go true e = ap (λ (k : ℕ). k ∷ []) (sym last)
    go false e = absurd (eqb-false x 10 e last)
ended_back (x ∷ y ∷ ys) h = go (eqb x 10) refl (ended_back (y ∷ ys) (rw sub-one (rw sub-one at h)))
  where
    lead_ended : (l : List Name) → (l ≡ [] → ⊥) → concat_map ended (lead x l) ≡ x ∷ concat_map ended l
    lead_ended [] f = absurd (f refl)
    lead_ended (n ∷ l) f = refl

    go : (t : Bool) → eqb x 10 ≡ t → concat_map ended (listed (y ∷ ys)) ≡ y ∷ ys
        → concat_map ended (when t then [] ∷ listed (y ∷ ys) else lead x (listed (y ∷ ys))) ≡ x ∷ y ∷ ys
    go true e rest = ap (λ (l : List ℕ). 10 ∷ l) rest ∙ ap (λ (k : ℕ). k ∷ y ∷ ys) (sym (eqb-true x 10 e))
    go false e rest = lead_ended (listed (y ∷ ys)) (λ z. omega (arith, ap length (sym rest ∙ ap (concat_map ended) z))) ∙ ap (λ (l : List ℕ). x ∷ l) rest

module _ (R : Room) (w n : List ℕ) (fit : runs_fit R w n ≡ true) where
  fits : T (runs_fit R w n)
  fits = T_true (runs_fit R w n) fit

  pub names_count : total (λ e. length e.names) (session_in R w n).entries ≡ get_or w 3 0
  names_count = total_lengths (λ e. e.names) (session_in R w n).entries ∙ ap length (held_listed R w n fit) ∙ names_listed R w n fit

  -- the session's list of names passes question 2
  pub list_fits : names_fit (name_bytes R w n) ≡ true
  list_fits =
      let head : Bool = same_name (take (length fixed_bytes) n) fixed_bytes in
      let middle : Bool = names_fit (name_bytes R w n) in
      true_of middle (and_right head middle (and_left (head && middle) (eqb (length (listed (name_bytes R w n))) (get_or w 3 0)) (clauses R w n fits 1)))

  pub names_end : names_ended (name_bytes R w n) ≡ true
  names_end =
      let l : List ℕ = name_bytes R w n in
      let first : Bool = names_few l && names_short l && names_sized l in
      true_of (names_ended l) (and_right first (names_ended l) (and_left (first && names_ended l) (names_unlike l) (T_true (names_fit l) list_fits)))

  pub limits : (i : ℕ) → T (get_or (
      leb (get_or w 0 0) 1002048 ∷ leb (get_or w 1 0) R.entries ∷ leb (get_or w 3 0) 1024 ∷ leb (get_or w 4 0) R.bytes ∷ leb (get_or w 5 0) R.laid
      ∷ leb (get_or w 6 0) R.classes ∷ leb (get_or w 7 0) R.members ∷ leb (session_size R) (length w) ∷ leb (length fixed_bytes + R.bytes) (length n) ∷ []) i true)
  limits =
      pick (
      leb (get_or w 0 0) 1002048 ∷ leb (get_or w 1 0) R.entries ∷ leb (get_or w 3 0) 1024 ∷ leb (get_or w 4 0) R.bytes ∷ leb (get_or w 5 0) R.laid
      ∷ leb (get_or w 6 0) R.classes ∷ leb (get_or w 7 0) R.members ∷ leb (session_size R) (length w) ∷ leb (length fixed_bytes + R.bytes) (length n) ∷ []) (clauses R w n fits 0)

  -- as many bytes are listed as the words say
  pub bytes_listed : length (name_bytes R w n) ≡ get_or w 4 0
  bytes_listed =
      length-take-le (get_or w 4 0) (drop (length fixed_bytes) n)
      (omega (
        arith,
        length-drop (length fixed_bytes) n,
        leb→le (get_or w 4 0) R.bytes (limits 3),
        leb→le (length fixed_bytes + R.bytes) (length n) (limits 8),
      ))

  pub bytes_count : total (λ e. total (λ x. suc (length x)) e.names) (session_in R w n).entries ≡ get_or w 4 0
  bytes_count =
      total_joined (λ e. e.names) (λ x. suc (length x)) (session_in R w n).entries ∙ ap (total (λ x. suc (length x))) (held_listed R w n fit)
      ∙ ended_sum (listed (name_bytes R w n)) ∙ ap length (ended_back (name_bytes R w n) names_end) ∙ bytes_listed

  pub laid_count : length (all_laid (session_in R w n)) ≡ get_or w 5 0
  laid_count = ap length (held_laid R w n fit) ∙ length-map (from 0 (get_or w 5 0)) (laid_in R w n) ∙ from_length 0 (get_or w 5 0)

  pub class_count : length (all_classes (session_in R w n)) ≡ get_or w 6 0
  class_count = ap length (held_classes R w n fit) ∙ length-map (from 0 (get_or w 6 0)) (class_in R w n) ∙ from_length 0 (get_or w 6 0)

  -- the members are those of all classes
  pub members_all : members_before R w n (get_or w 6 0) ≡ get_or w 7 0
  members_all = ap (members_before R w n) (sym (last_are R w n fits 3 (omega arith))) ∙ at_end (get_or w 1 0) refl ∙ last_are R w n fits 4 (omega arith)
    where
      at_end : (e : ℕ) → get_or w 1 0 ≡ e → members_before R w n (count_after R w n (get_or w 1 0) 3) ≡ count_after R w n (get_or w 1 0) 4
      at_end zero q = rw q
      at_end (suc e) q =
          rw q (eqb→eq (members_before R w n (count_after R w n (suc e) 3)) (count_after R w n (suc e) 4) (entry_tests R w n fits e (omega arith) 3))

  pub members_count : total member_count (all_classes (session_in R w n)) ≡ get_or w 7 0
  members_count =
      ap (total member_count) (held_classes R w n fit)
      ∙ total_map (class_in R w n) member_count (λ j. fields_in R w n j + methods_in R w n j) (from 0 (get_or w 6 0)) (λ i. omega (arith, fields_length R w n fits i, methods_length R w n fits i))
      ∙ members_all

  pub entry_count : length (session_in R w n).entries ≡ get_or w 1 0
  entry_count = length-map (from 0 (get_or w 1 0)) (entry_in R w n) ∙ from_length 0 (get_or w 1 0)

  -- question 24 of the session with an entry more, by the words' counts
  pub within_with : (g : ℕ) (e : Accepted)
      → within (record { globals = g; entries = (session_in R w n).entries ++ e ∷ [] })
      ≡ (leb (get_or w 3 0 + length e.names) 1024 && leb (get_or w 4 0 + length (concat_map ended e.names)) 32768 && leb (get_or w 5 0 + length e.laid) 4096
      && leb (get_or w 6 0 + length e.classes) 1024 && leb (get_or w 7 0 + total member_count e.classes) 8192 && leb (get_or w 1 0 + 1) 1000)
  within_with g e =
      let xs : List Accepted = (session_in R w n).entries in
      let n₁ : total (λ x. length x.names) (xs ++ e ∷ []) ≡ get_or w 3 0 + length e.names = omega (arith, total_append (λ x. length x.names) xs (e ∷ []), names_count) in
      let n₂ : total (λ x. total (λ y. suc (length y)) x.names) (xs ++ e ∷ []) ≡ get_or w 4 0 + length (concat_map ended e.names) =
      omega (arith, total_append (λ x. total (λ y. suc (length y)) x.names) xs (e ∷ []), bytes_count, ended_sum e.names) in
      let n₃ : length (concat_map (λ x. x.laid) (xs ++ e ∷ [])) ≡ get_or w 5 0 + length e.laid =
      omega (arith, concat_length (λ x. x.laid) xs (e ∷ []), laid_count, length-append e.laid []) in
      let n₄ : length (concat_map (λ x. x.classes) (xs ++ e ∷ [])) ≡ get_or w 6 0 + length e.classes =
      omega (arith, concat_length (λ x. x.classes) xs (e ∷ []), class_count, length-append e.classes []) in
      let n₅ : total member_count (concat_map (λ x. x.classes) (xs ++ e ∷ [])) ≡ get_or w 7 0 + total member_count e.classes =
      omega (
        arith,
        total_joined (λ x. x.classes) member_count (xs ++ e ∷ []),
        total_append (λ x. total member_count x.classes) xs (e ∷ []),
        total_joined (λ x. x.classes) member_count xs,
        members_count,
      ) in
      let n₆ : length (xs ++ e ∷ []) ≡ get_or w 1 0 + 1 = omega (arith, length-append xs (e ∷ []), entry_count) in
      rw (n₁, n₂, n₃, n₄, n₅, n₆)
