-- The run of parents, and the climb over it as the definition's questions 18 and 19.
use mathlib.Core.Path.{◌≡◌, refl, sym, ap, ◌∙◌}
use mathlib.Core.Bool.{Bool, true, false, not, ◌&&◌, ◌||◌}
use mathlib.Core.List.{List, [], ◌∷◌, map}
use Prim.Native.Nat.{ℕ, zero, suc, ◌+◌, ◌-◌, ◌*◌, ◌<◌, ◌≤◌}
use native.Mathlib.Omega.{arith}
use lib.Dec.{eqb, ltb}
use lib.ListN.{length, get_or, set, take, replicate, length-map, length-replicate}
use lib.Seq.{get_or-set_same, get_or-set_other, ext_get_or, length-take-le}
use borrow.Author.Tests.{eq-eqb, ne_eqb, eqb-true, eqb-false, lt-ltb, le-ltb, le-leb}
use Rattle.definition.specs.Basics.{when◌then◌else◌, filter, first, from, ◌∈?◌}
use Rattle.definition.specs.Sheet.{Sheet, a, rows, is}
use Rattle.definition.specs.Outside.{Outside, is_recorded}
use Rattle.definition.specs.Question.{Refusal, none, ask, first_no}
use Rattle.definition.specs.Classes.{of_sheet}
use Rattle.machine.specs.Machine.{Store}
use Rattle.definition.proofs.Classes.{of_sheet_lem}
use Rattle.definition.proofs.Format.Tables.{map_below}
use Rattle.symbols.proofs.DeclLaws.{kind_inside}
use Rattle.sheet.proofs.FindLaws.{row_number}
use Rattle.after.specs.Inherited.{parent_in, climb_in, classes_refusal}
use Rattle.std.specs.Prelude.{Ok, Err}
use Rattle.climb.specs.declared.ClimbError.TheVariants.{Circle, NoRecord}
use Rattle.climb.specs.Process.{Ending, NO_RECORD, ENDS, run_size, Climbed, leaving, is_top, climbed_all, climb_from, first_ending}
use Rattle.climb.proofs.StepLaws.{chosen, chosen_1, chosen_4}
use Rattle.climb.proofs.LineLaws.{climb_all_plain}
use Rattle.inherit.specs.Answered.{lacks_record, Marked, refusal_at, parent_number, parent_numbers}
use Rattle.inherit.proofs.ClassLaws.{row_kind, parent_none}

-- how a parent is told
module _ (O : Outside) (s : Sheet) (c : ℕ) where
  pub number_row : of_sheet s c ≡ true → c - 256 ≡ parent_number O s c
  number_row h = sym (ap (λ (t : Bool). when t then c - 256 else when lacks_record O s c then NO_RECORD else ENDS) h)

  pub number_lacking : of_sheet s c ≡ false → lacks_record O s c ≡ true → NO_RECORD ≡ parent_number O s c
  number_lacking h g =
      sym (ap (λ (t : Bool). when t then c - 256 else when lacks_record O s c then NO_RECORD else ENDS) h
      ∙ ap (λ (t : Bool). when t then NO_RECORD else ENDS) g)

  pub number_ends : of_sheet s c ≡ false → lacks_record O s c ≡ false → ENDS ≡ parent_number O s c
  number_ends h g =
      sym (ap (λ (t : Bool). when t then c - 256 else when lacks_record O s c then NO_RECORD else ENDS) h
      ∙ ap (λ (t : Bool). when t then NO_RECORD else ENDS) g)

  row_recorded : of_sheet s c ≡ true → lacks_record O s c ≡ false
  row_recorded h = ap (λ (t : Bool). not (eqb c 0) && not (t || is_recorded O c)) h ∙ never (eqb c 0)
    where
      never : (t : Bool) → (not t && false) ≡ false
      never true = refl
      never false = refl

module _ (s : Sheet) (w : 8 * rows s ≡ length s) (f : rows s ≤ 2048) where
  row_inside : (c : ℕ) → of_sheet s c ≡ true → c - 256 < rows s
  row_inside c h = omega (arith, kind_inside s (c - 256) 3 (row_kind s c h))

  -- the number of a parent tells whether it has no record
  number_tells : (O : Outside) (c : ℕ) → eqb (parent_number O s c) NO_RECORD ≡ lacks_record O s c
  number_tells O c = go (of_sheet s c) refl (lacks_record O s c) refl
    where
      go : (t : Bool) → of_sheet s c ≡ t → (u : Bool) → lacks_record O s c ≡ u → eqb (parent_number O s c) NO_RECORD ≡ lacks_record O s c
      go true p u q =
          ap (λ (n : ℕ). eqb n NO_RECORD) (sym (number_row O s c p))
          ∙ ne_eqb (c - 256) NO_RECORD (λ e. omega (arith, row_inside c p))
          ∙ sym (row_recorded O s c p)
      go false p true q = ap (λ (n : ℕ). eqb n NO_RECORD) (sym (number_lacking O s c p q)) ∙ sym q
      go false p false q = ap (λ (n : ℕ). eqb n NO_RECORD) (sym (number_ends O s c p q)) ∙ sym q

from_length : (k n : ℕ) → length (from k n) ≡ n
from_length k zero = refl
from_length k (suc n) = ap suc (from_length (suc k) n)

-- the run of parents, place by place
module _ (O : Outside) (s : Sheet) (o : Store) where
  numbers_length : length (parent_numbers O s o) ≡ rows s
  numbers_length = length-map (from 0 (rows s)) (λ r. parent_number O s (parent_in s o (256 + r))) ∙ from_length 0 (rows s)

  parent_at : (r : ℕ) → r < rows s → get_or (parent_numbers O s o) r 0 ≡ parent_number O s (parent_in s o (256 + r))
  parent_at r l = map_below (λ i. parent_number O s (parent_in s o (256 + i))) (rows s) r l

  -- its first n places are written
  abbrev pub Listed : List ℕ → ℕ → Type 0
  Listed parents n = (j : ℕ) → j < n → get_or parents j 0 ≡ parent_number O s (parent_in s o (256 + j))

  pub listed_more : (parents : List ℕ) {k v : ℕ} (n : ℕ) → Listed parents n → n < length parents → k ≡ parent_in s o (256 + n) → v ≡ parent_number O s k
      → Listed (set parents n v) (n + 1)
  listed_more parents {k} {v} n h l d e j b = go (eqb j n) refl
    where
      go : (t : Bool) → eqb j n ≡ t → get_or (set parents n v) j 0 ≡ parent_number O s (parent_in s o (256 + j))
      go true q =
          ap (λ (i : ℕ). get_or (set parents n v) i 0) (eqb-true j n q) ∙ get_or-set_same parents n v 0 l ∙ e ∙ ap (parent_number O s) d
          ∙ sym (ap (λ (i : ℕ). parent_number O s (parent_in s o (256 + i))) (eqb-true j n q))
      go false q = get_or-set_other parents n j v 0 (eqb-false j n q) ∙ h j (omega (arith, eqb-false j n q))

  pub listed_all : {parents : List ℕ} (n : ℕ) → Listed parents n → rows s ≤ n → length parents ≡ rows s → parents ≡ parent_numbers O s o
  listed_all {parents} n h b l =
      ext_get_or 0 parents (parent_numbers O s o) (l ∙ sym numbers_length) (λ i q. h i (omega arith) ∙ sym (parent_at i (omega arith)))

-- a row that is no class has no parent
no_class_lem : (s : Sheet) (r : ℕ) → is s 4 r ≡ false → of_sheet s (256 + r) ≡ false
no_class_lem s r h =
    ap (λ (t : Bool). t && is s 4 (256 + r - 256)) (le-leb 256 (256 + r) (omega arith))
    ∙ ap (is s 4) {x = 256 + r - 256} {y = r} (omega arith) ∙ h

-- a class of the run is met where its class number is
numbers_more : (c r : ℕ) → 256 + r ≡ c → (lineage met : List ℕ) → ((j : ℕ) → (j ∈? lineage) ≡ ((256 + j) ∈? met))
    → (j : ℕ) → (j ∈? (r ∷ lineage)) ≡ ((256 + j) ∈? (c ∷ met))
numbers_more c r e lineage met h j = ap (λ (t : Bool). t || (j ∈? lineage)) (go (eqb j r) refl) ∙ ap (λ (t : Bool). eqb (256 + j) c || t) (h j)
  where
    go : (t : Bool) → eqb j r ≡ t → eqb j r ≡ eqb (256 + j) c
    go true d = d ∙ sym (eq-eqb (256 + j) c (omega (arith, eqb-true j r d)))
    go false d = d ∙ sym (ne_eqb (256 + j) c (λ z. eqb-false j r d (omega arith)))

-- a climb over a run of parents that comes to a number past the run is over
climb_past : (parents : List ℕ) (size n : ℕ) (lineage : List ℕ) (c : ℕ) → size ≤ c → climb_from parents size n lineage c ≡ (Ok tt)
climb_past parents size zero lineage c l = refl
climb_past parents size (suc n) lineage c l =
    chosen_1 (Ok tt) (Err (Circle c)) (Err (NoRecord c)) _ (ltb c size) (c ∈? lineage) (eqb (get_or parents c 0) NO_RECORD) (le-ltb c size l)

module _ (O : Outside) (s : Sheet) (o : Store) (w : 8 * rows s ≡ length s) (f : rows s ≤ 2048) where
  -- one class of the climb, by the tests of the run and of the definition
  module _ (r : ℕ) (z : Ending) (y : Refusal) where
    alike : (t u v t₂ u₂ v₂ : Bool) → t ≡ t₂ → u ≡ u₂ → v ≡ v₂ → (v₂ ≡ false → refusal_at s z ≡ y)
        → refusal_at s (chosen (Ok tt) (Err (Circle r)) (Err (NoRecord r)) z t u v)
        ≡ chosen none (ask 18 r (a s r) false) (ask 19 r (a s r) false) y t₂ u₂ v₂
    alike t u v t₂ u₂ v₂ d e g h =
        ap (λ (b : Bool). refusal_at s (chosen (Ok tt) (Err (Circle r)) (Err (NoRecord r)) z b u v)) d
        ∙ ap (λ (b : Bool). refusal_at s (chosen (Ok tt) (Err (Circle r)) (Err (NoRecord r)) z t₂ b v)) e
        ∙ ap (λ (b : Bool). refusal_at s (chosen (Ok tt) (Err (Circle r)) (Err (NoRecord r)) z t₂ u₂ b)) g
        ∙ go t₂ u₂ v₂ h
      where
        go : (b c d : Bool) → (d ≡ false → refusal_at s z ≡ y)
            → refusal_at s (chosen (Ok tt) (Err (Circle r)) (Err (NoRecord r)) z b c d) ≡ chosen none (ask 18 r (a s r) false) (ask 19 r (a s r) false) y b c d
        go false c d k = refl
        go true true d k = refl
        go true false true k = refl
        go true false false k = k refl

  -- the climb from a class that has a record, or from none
  climb_number : (n : ℕ) (lineage met : List ℕ) (c : ℕ) → ((j : ℕ) → (j ∈? lineage) ≡ ((256 + j) ∈? met)) → lacks_record O s c ≡ false
      → refusal_at s (climb_from (parent_numbers O s o) (rows s) n lineage (parent_number O s c)) ≡ climb_in O s o n met c
  unfolding climb_in
  climb_number zero lineage met c h g = refl
  climb_number (suc n) lineage met c h g =
      go (of_sheet s c) refl (climb_number n ((c - 256) ∷ lineage) (c ∷ met) (parent_in s o c))
    where
      go : (t : Bool) → of_sheet s c ≡ t
          → (((j : ℕ) → (j ∈? ((c - 256) ∷ lineage)) ≡ ((256 + j) ∈? (c ∷ met))) → lacks_record O s (parent_in s o c) ≡ false
          → refusal_at s (climb_from (parent_numbers O s o) (rows s) n ((c - 256) ∷ lineage) (parent_number O s (parent_in s o c)))
          ≡ climb_in O s o n (c ∷ met) (parent_in s o c))
          → refusal_at s (climb_from (parent_numbers O s o) (rows s) (suc n) lineage (parent_number O s c)) ≡ climb_in O s o (suc n) met c
      go false p up =
          ap (refusal_at s) (climb_past (parent_numbers O s o) (rows s) (suc n) lineage (parent_number O s c) (omega (arith, number_ends O s c p g)))
          ∙ sym (chosen_1 none _ _ _ (of_sheet s c) (c ∈? met) (lacks_record O s (parent_in s o c)) p)
      go true p up =
          ap (λ (i : ℕ). refusal_at s (climb_from (parent_numbers O s o) (rows s) (suc n) lineage i)) (sym (number_row O s c p))
          ∙ alike (c - 256) _ _ (ltb (c - 256) (rows s)) ((c - 256) ∈? lineage) (eqb (get_or (parent_numbers O s o) (c - 256) 0) NO_RECORD)
          (of_sheet s c) (c ∈? met) (lacks_record O s (parent_in s o c))
          (lt-ltb (c - 256) (rows s) (row_inside s w f c p) ∙ sym p)
          (h (c - 256) ∙ ap (λ (i : ℕ). i ∈? met) number)
          (ap (λ (i : ℕ). eqb i NO_RECORD) parent ∙ number_tells s w f O (parent_in s o c))
          (λ q. ap (λ (i : ℕ). refusal_at s (climb_from (parent_numbers O s o) (rows s) n ((c - 256) ∷ lineage) i)) parent
          ∙ up (numbers_more c (c - 256) number lineage met h) q)
        where
          number : 256 + (c - 256) ≡ c
          number = omega (arith, row_number s c p)

          parent : get_or (parent_numbers O s o) (c - 256) 0 ≡ parent_number O s (parent_in s o c)
          parent = parent_at O s o (c - 256) (row_inside s w f c p) ∙ ap (λ (i : ℕ). parent_number O s (parent_in s o i)) number

  -- the climb from a row
  abbrev from_row : ℕ → Ending
  from_row r = climb_from (parent_numbers O s o) (rows s) (suc (rows s)) [] r

  class_answer : (r : ℕ) → is s 4 r ≡ true → refusal_at s (from_row r) ≡ climb_in O s o (suc (rows s)) [] (256 + r)
  class_answer r h =
      ap (λ (i : ℕ). refusal_at s (from_row i)) (here ∙ number_row O s (256 + r) (of_sheet_lem s r h))
      ∙ climb_number (suc (rows s)) [] [] (256 + r) (λ j. refl) (row_recorded O s (256 + r) (of_sheet_lem s r h))
    where
      here : r ≡ 256 + r - 256
      here = omega arith

  other_answer : (r : ℕ) → r < rows s → is s 4 r ≡ false → from_row r ≡ (Ok tt)
  other_answer r l h =
      chosen_4 (Ok tt) (Err (Circle r)) (Err (NoRecord r)) _ (ltb r (rows s)) false (eqb (get_or (parent_numbers O s o) r 0) NO_RECORD)
      (lt-ltb r (rows s) l) refl (ap (λ (i : ℕ). eqb i NO_RECORD) ends)
      ∙ climb_past (parent_numbers O s o) (rows s) (rows s) (r ∷ []) (get_or (parent_numbers O s o) r 0) (omega (arith, ends))
    where
      ends : get_or (parent_numbers O s o) r 0 ≡ ENDS
      ends = parent_at O s o r l ∙ ap (parent_number O s) (sym (parent_none s o (256 + r) (no_class_lem s r h)))

  -- the first climb that does not end at the top, as the first no
  first_answer : (x y : Ending)
      → refusal_at s (when not (is_top x) then x else y) ≡ (when not (eqb (refusal_at s x).number 0) then refusal_at s x else refusal_at s y)
  first_answer (Ok x) y = refl
  first_answer (Err (Circle c)) y = refl
  first_answer (Err (NoRecord c)) y = refl

  rows_answer : (n r : ℕ) → r + n ≡ rows s
      → refusal_at s (first (λ x. not (is_top x)) (Ok tt) (map from_row (from r n)))
      ≡ first_no (map (λ i. climb_in O s o (suc (rows s)) [] (256 + i)) (filter (is s 4) (from r n)))
  rows_answer zero r e = refl
  rows_answer (suc n) r e = go (is s 4 r) refl (rows_answer n (suc r) (omega arith))
    where
      answer : ℕ → Refusal
      answer i = climb_in O s o (suc (rows s)) [] (256 + i)

      rest : Ending
      rest = first (λ x. not (is_top x)) (Ok tt) (map from_row (from (suc r) n))

      later : List ℕ
      later = filter (is s 4) (from (suc r) n)

      go : (t : Bool) → is s 4 r ≡ t → refusal_at s rest ≡ first_no (map answer later)
          → refusal_at s (when not (is_top (from_row r)) then from_row r else rest) ≡ first_no (map answer (when is s 4 r then r ∷ later else later))
      go true d i =
          first_answer (from_row r) rest
          ∙ ap (λ (x : Refusal). when not (eqb x.number 0) then x else refusal_at s rest) (class_answer r d)
          ∙ ap (λ (x : Refusal). when not (eqb (answer r).number 0) then answer r else x) i
          ∙ sym (ap (λ (t : Bool). first_no (map answer (when t then r ∷ later else later))) d)
      go false d i =
          ap (λ (x : Ending). refusal_at s (when not (is_top x) then x else rest)) (other_answer r (omega arith) d)
          ∙ i
          ∙ sym (ap (λ (t : Bool). first_no (map answer (when t then r ∷ later else later))) d)

  -- the questions 18 and 19 of all classes, by the climbs over the run of parents
  pub classes_answer : {parents m m₂ : List ℕ} {x : Ending} → parents ≡ parent_numbers O s o → leaving x m₂ ≡ climbed_all parents m → Marked 0 m → length s ≤ 8 * length m
      → refusal_at s x ≡ classes_refusal O s o
  unfolding first_ending
  classes_answer {parents} {m} {m₂} {x} d e h l =
      ap (λ (y : Climbed). refusal_at s y.ending) e
      ∙ ap (refusal_at s) (climb_all_plain parents m (λ j. omega (arith, h.marks j)))
      ∙ ap (λ (i : List ℕ). refusal_at s (first_ending i (run_size i m))) d
      ∙ ap (λ (i : ℕ). refusal_at s (first_ending (parent_numbers O s o) i)) size
      ∙ rows_answer (rows s) 0 (omega arith)
    where
      size : run_size (parent_numbers O s o) m ≡ rows s
      size = omega (arith, numbers_length O s o)

-- as many of the lent words as there are rows
pub lent_prefix : (k n : ℕ) → n ≤ k → n ≡ length {A = ℕ} (take n (replicate k 0))
lent_prefix k n l = sym (length-take-le n (replicate k 0) (omega (arith, length-replicate {A = ℕ} k 0)))
