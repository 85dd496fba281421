-- The table after one row more: which words it changes, and to what.
use mathlib.Core.Path.{◌≡◌, refl, ap, ◌∙◌}
use mathlib.Core.Logic.{◌⊎◌, inl, inr}
use mathlib.Core.Bool.{Bool, true, false}
use mathlib.Core.List.{List}
use Prim.Native.Nat.{ℕ, zero, suc, ◌+◌, ◌*◌, ◌<◌, ◌≤◌}
use native.Mathlib.Omega.{arith}
use lib.Dec.{eqb}
use lib.ListN.{length, set, length-set}
use borrow.Author.Tests.{eq-eqb, ne_eqb}
use Rattle.definition.specs.Basics.{when◌then◌else◌}
use Rattle.definition.specs.Sheet.{Sheet, word, kind, next, child, a}
use Rattle.row_fits.specs.declared.row.Entry.{Entry}
use Rattle.row_fits.specs.Pass.{row_in, entry_in, put_entry, note_next, note_child, note_own, note_declared, note_all, note_row, next_entry, child_entry, unit_here, class_here}
use Rattle.first_four.proofs.EntryLaws.{word_same, word_row, word_column, put_length, put_row, put_seven, put_parent, put_depth, put_unit, put_fun, put_class, put_state}

-- a choice by a test whose value is known
pub chosen {ℓ} : {A : Type ℓ} (t : Bool) (x y : A) → t ≡ true → (when t then x else y) ≡ x
chosen t x y e = ap (λ (b : Bool). when b then x else y) e

pub passed {ℓ} : {A : Type ℓ} (t : Bool) (x y : A) → t ≡ false → (when t then x else y) ≡ y
passed t x y e = ap (λ (b : Bool). when b then x else y) e

module _ (s : Sheet) (r : ℕ) (t : List ℕ) where
  abbrev here : Entry
  here = entry_in t r

  abbrev u1 : List ℕ
  u1 = note_next (next s r) (kind s r) here t

  abbrev u2 : List ℕ
  u2 = note_child s r (row_in s r) here u1

  abbrev u3 : List ℕ
  u3 = note_own s r (kind s r) here u2

  -- u1, where there is a next row and where not
  next_none : next s r ≡ 0 → u1 ≡ t
  unfolding note_next
  next_none e = chosen (eqb (next s r) 0) _ _ (eq-eqb (next s r) 0 e)

  next_some : (next s r ≡ 0 → ⊥) → u1 ≡ put_entry t (next s r) (next_entry (kind s r) here)
  unfolding note_next
  next_some z = passed (eqb (next s r) 0) _ _ (ne_eqb (next s r) 0 z)

  child_none : child s r ≡ 0 → u2 ≡ u1
  unfolding note_child
  child_none e = chosen (eqb (child s r) 0) _ _ (eq-eqb (child s r) 0 e)

  child_some : (child s r ≡ 0 → ⊥) → u2 ≡ put_entry u1 (child s r) (child_entry s r (kind s r) here)
  unfolding note_child
  child_some z = passed (eqb (child s r) 0) _ _ (ne_eqb (child s r) 0 z)

  decide_zero : (x : ℕ) → (x ≡ 0) ⊎ (x ≡ 0 → ⊥)
  decide_zero zero = inl refl
  decide_zero (suc x) = inr (λ e. omega arith)

  pub length_u1 : length u1 ≡ length t
  length_u1 = go (decide_zero (next s r))
    where
      go : (next s r ≡ 0) ⊎ (next s r ≡ 0 → ⊥) → length u1 ≡ length t
      go (inl e) = ap length (next_none e)
      go (inr z) = ap length (next_some z) ∙ put_length t (next s r) _

  pub length_u2 : length u2 ≡ length t
  length_u2 = go (decide_zero (child s r))
    where
      go : (child s r ≡ 0) ⊎ (child s r ≡ 0 → ⊥) → length u2 ≡ length t
      go (inl e) = ap length (child_none e) ∙ length_u1
      go (inr z) = ap length (child_some z) ∙ put_length u1 (child s r) _ ∙ length_u1

  length_u3 : length u3 ≡ length t
  unfolding note_own
  length_u3 = length-set (set u2 (8 * r + 2) (unit_here r (kind s r) here)) (8 * r + 4) (class_here s (kind s r) here) ∙ length-set u2 (8 * r + 2) (unit_here r (kind s r) here) ∙ length_u2

  if_length : (b : Bool) (x y : List ℕ) (n : ℕ) → length x ≡ n → length y ≡ n → length (when b then x else y) ≡ n
  if_length true x y n p q = p
  if_length false x y n p q = q

  pub length_noted : length (note_row s r t) ≡ length t
  unfolding note_all note_declared
  length_noted = if_length (eqb (kind s r) 30) (set u3 (8 * a s r + 7) r) u3 (length t) (length-set u3 (8 * a s r + 7) r ∙ length_u3) length_u3

  -- the last step writes a word 7 alone
  if_word : (b : Bool) (x y : List ℕ) (k c v : ℕ) → word x k c ≡ v → word y k c ≡ v → word (when b then x else y) k c ≡ v
  if_word true x y k c v p q = p
  if_word false x y k c v p q = q

  not_seven : (k c : ℕ) → c < 7 → word (note_row s r t) k c ≡ word u3 k c
  unfolding note_all note_declared
  not_seven k c h = if_word (eqb (kind s r) 30) (set u3 (8 * a s r + 7) r) u3 k c (word u3 k c) (word_column u3 (a s r) 7 r k c (λ e. omega arith) (omega arith) (omega arith)) refl

  -- the step before it writes words 2 and 4 of row r
  not_own_row : (k c : ℕ) → c < 8 → (k ≡ r → ⊥) → word u3 k c ≡ word u2 k c
  unfolding note_own
  not_own_row k c h f =
      word_row (set u2 (8 * r + 2) (unit_here r (kind s r) here)) r 4 (class_here s (kind s r) here) k c f (omega arith) h
      ∙ word_row u2 r 2 (unit_here r (kind s r) here) k c f (omega arith) h

  not_own_column : (k c : ℕ) → c < 8 → (c ≡ 2 → ⊥) → (c ≡ 4 → ⊥) → word u3 k c ≡ word u2 k c
  unfolding note_own
  not_own_column k c h f g =
      word_column (set u2 (8 * r + 2) (unit_here r (kind s r) here)) r 4 (class_here s (kind s r) here) k c g (omega arith) h
      ∙ word_column u2 r 2 (unit_here r (kind s r) here) k c f (omega arith) h

  -- a row that r does not link to
  abbrev pub NotLinked : ℕ → Type 0
  NotLinked k = ((next s r ≡ 0 → ⊥) → k ≡ next s r → ⊥) × ((child s r ≡ 0 → ⊥) → k ≡ child s r → ⊥)

  links_other : (k c : ℕ) → c < 8 → NotLinked k → word u2 k c ≡ word t k c
  links_other k c h f = second (decide_zero (child s r)) ∙ first (decide_zero (next s r))
    where
      second : (child s r ≡ 0) ⊎ (child s r ≡ 0 → ⊥) → word u2 k c ≡ word u1 k c
      second (inl e) = ap (λ (l : List ℕ). word l k c) (child_none e)
      second (inr z) = ap (λ (l : List ℕ). word l k c) (child_some z) ∙ put_row u1 (child s r) _ k c (f.1 z) h

      first : (next s r ≡ 0) ⊎ (next s r ≡ 0 → ⊥) → word u1 k c ≡ word t k c
      first (inl e) = ap (λ (l : List ℕ). word l k c) (next_none e)
      first (inr z) = ap (λ (l : List ℕ). word l k c) (next_some z) ∙ put_row t (next s r) _ k c (f.0 z) h

  -- words that stay
  pub stays_row : (k c : ℕ) → c < 7 → NotLinked k → (k ≡ r → ⊥) → word (note_row s r t) k c ≡ word t k c
  stays_row k c h f g = not_seven k c h ∙ not_own_row k c (omega arith) g ∙ links_other k c (omega arith) f

  pub stays_column : (k c : ℕ) → c < 7 → NotLinked k → (c ≡ 2 → ⊥) → (c ≡ 4 → ⊥) → word (note_row s r t) k c ≡ word t k c
  stays_column k c h f g i = not_seven k c h ∙ not_own_column k c (omega arith) g i ∙ links_other k c (omega arith) f

  -- word 7: that of the class that is declared, and of no other
  seven_u3 : (k : ℕ) → word u3 k 7 ≡ word t k 7
  seven_u3 k = not_own_column k 7 (omega arith) (λ e. omega arith) (λ e. omega arith) ∙ second (decide_zero (child s r)) ∙ first (decide_zero (next s r))
    where
      second : (child s r ≡ 0) ⊎ (child s r ≡ 0 → ⊥) → word u2 k 7 ≡ word u1 k 7
      second (inl e) = ap (λ (l : List ℕ). word l k 7) (child_none e)
      second (inr z) = ap (λ (l : List ℕ). word l k 7) (child_some z) ∙ put_seven u1 (child s r) _ k

      first : (next s r ≡ 0) ⊎ (next s r ≡ 0 → ⊥) → word u1 k 7 ≡ word t k 7
      first (inl e) = ap (λ (l : List ℕ). word l k 7) (next_none e)
      first (inr z) = ap (λ (l : List ℕ). word l k 7) (next_some z) ∙ put_seven t (next s r) _ k

  pub seven_stays : (k : ℕ) → (kind s r ≡ 30 → k ≡ a s r → ⊥) → word (note_row s r t) k 7 ≡ word t k 7
  unfolding note_all note_declared
  seven_stays k f = go (eqb (kind s r) 30) (λ e. eqb_eq e)
    where
      eqb_eq : eqb (kind s r) 30 ≡ true → kind s r ≡ 30
      eqb_eq e = borrow.Author.Tests.eqb-true (kind s r) 30 e

      go : (b : Bool) → (b ≡ true → kind s r ≡ 30) → word (when b then set u3 (8 * a s r + 7) r else u3) k 7 ≡ word t k 7
      go true h = word_row u3 (a s r) 7 r k 7 (f (h refl)) (omega arith) (omega arith) ∙ seven_u3 k
      go false h = seven_u3 k

  pub seven_noted : kind s r ≡ 30 → 8 * a s r + 8 ≤ length t → word (note_row s r t) (a s r) 7 ≡ r
  unfolding note_all note_declared
  seven_noted e h = ap (λ (l : List ℕ). word l (a s r) 7) (chosen (eqb (kind s r) 30) _ _ (eq-eqb (kind s r) 30 e)) ∙ word_same u3 (a s r) 7 r (omega (arith, length_u3))

  -- the row's own unit and class
  pub own_unit : 8 * r + 8 ≤ length t → word (note_row s r t) r 2 ≡ unit_here r (kind s r) here
  unfolding note_own
  own_unit h =
      not_seven r 2 (omega arith) ∙ word_column (set u2 (8 * r + 2) (unit_here r (kind s r) here)) r 4 (class_here s (kind s r) here) r 2 (λ e. omega arith) (omega arith) (omega arith)
      ∙ word_same u2 r 2 (unit_here r (kind s r) here) (omega (arith, length_u2))

  pub own_class : 8 * r + 8 ≤ length t → word (note_row s r t) r 4 ≡ class_here s (kind s r) here
  unfolding note_own
  own_class h =
      not_seven r 4 (omega arith)
      ∙ word_same (set u2 (8 * r + 2) (unit_here r (kind s r) here)) r 4 (class_here s (kind s r) here) (omega (arith, length_u2, length-set u2 (8 * r + 2) (unit_here r (kind s r) here)))

  -- the entries that it writes
  module _ (z : child s r ≡ 0 → ⊥) (other : child s r ≡ r → ⊥) (room : 8 * child s r + 8 ≤ length t) where
    at_child : (c : ℕ) → c < 7 → word (note_row s r t) (child s r) c ≡ word (put_entry u1 (child s r) (child_entry s r (kind s r) here)) (child s r) c
    at_child c h = not_seven (child s r) c h ∙ not_own_row (child s r) c (omega arith) other ∙ ap (λ (l : List ℕ). word l (child s r) c) (child_some z)

    size : 8 * child s r + 8 ≤ length u1
    size = omega (arith, length_u1)

    pub child_parent : word (note_row s r t) (child s r) 0 ≡ r
    child_parent = at_child 0 (omega arith) ∙ put_parent u1 (child s r) _ size

    pub child_depth : word (note_row s r t) (child s r) 1 ≡ (child_entry s r (kind s r) here).depth
    child_depth = at_child 1 (omega arith) ∙ put_depth u1 (child s r) _ size

    pub child_unit : word (note_row s r t) (child s r) 2 ≡ unit_here r (kind s r) here
    child_unit = at_child 2 (omega arith) ∙ put_unit u1 (child s r) _ size

    pub child_fun : word (note_row s r t) (child s r) 3 ≡ (child_entry s r (kind s r) here).fun
    child_fun = at_child 3 (omega arith) ∙ put_fun u1 (child s r) _ size

    pub child_class : word (note_row s r t) (child s r) 4 ≡ class_here s (kind s r) here
    child_class = at_child 4 (omega arith) ∙ put_class u1 (child s r) _ size

    pub child_state : word (note_row s r t) (child s r) 5 ≡ (child_entry s r (kind s r) here).state
    child_state = at_child 5 (omega arith) ∙ put_state u1 (child s r) _ size

  module _ (z : next s r ≡ 0 → ⊥) (other : next s r ≡ r → ⊥) (apart : (child s r ≡ 0 → ⊥) → next s r ≡ child s r → ⊥) (room : 8 * next s r + 8 ≤ length t) where
    at_next : (c : ℕ) → c < 7 → word (note_row s r t) (next s r) c ≡ word (put_entry t (next s r) (next_entry (kind s r) here)) (next s r) c
    at_next c h = not_seven (next s r) c h ∙ not_own_row (next s r) c (omega arith) other ∙ second (decide_zero (child s r)) ∙ ap (λ (l : List ℕ). word l (next s r) c) (next_some z)
      where
        second : (child s r ≡ 0) ⊎ (child s r ≡ 0 → ⊥) → word u2 (next s r) c ≡ word u1 (next s r) c
        second (inl e) = ap (λ (l : List ℕ). word l (next s r) c) (child_none e)
        second (inr q) = ap (λ (l : List ℕ). word l (next s r) c) (child_some q) ∙ put_row u1 (child s r) _ (next s r) c (apart q) (omega arith)

    pub next_parent : word (note_row s r t) (next s r) 0 ≡ word t r 0
    next_parent = at_next 0 (omega arith) ∙ put_parent t (next s r) _ room

    pub next_depth : word (note_row s r t) (next s r) 1 ≡ word t r 1
    next_depth = at_next 1 (omega arith) ∙ put_depth t (next s r) _ room

    pub next_unit : word (note_row s r t) (next s r) 2 ≡ word t r 2
    next_unit = at_next 2 (omega arith) ∙ put_unit t (next s r) _ room

    pub next_fun : word (note_row s r t) (next s r) 3 ≡ word t r 3
    next_fun = at_next 3 (omega arith) ∙ put_fun t (next s r) _ room

    pub next_class : word (note_row s r t) (next s r) 4 ≡ word t r 4
    next_class = at_next 4 (omega arith) ∙ put_class t (next s r) _ room

    pub next_state : word (note_row s r t) (next s r) 5 ≡ (next_entry (kind s r) here).state
    next_state = at_next 5 (omega arith) ∙ put_state t (next s r) _ room
