-- The parts of a step of the store: which words each leaves unchanged.
use mathlib.Core.Path.{◌≡◌, refl, sym, ap, ◌∙◌}
use mathlib.Core.Logic.{◌⊎◌, inl, inr}
use mathlib.Core.List.{List, [], ◌∷◌, ◌++◌}
use mathlib.Core.Bool.{Bool, true, false, not, ◌&&◌}
use Prim.Native.Nat.{ℕ, ◌+◌, ◌*◌, ◌/◌, ◌<◌, ◌≤◌, max}
use native.Mathlib.Omega.{arith}
use lib.ListN.{length, get_or, length-set, length-take, length-append}
use lib.Seq.{sets, get_or-set_other, length-sets}
use lib.Dec.{eqb, leb, ltb}
use borrow.Author.Tests.{lt-ltb, eqb-false, ltb-true, ltb-false, leb-true, not-true}
use Rattle.definition.specs.Basics.{when◌then◌else◌}
use Rattle.definition.specs.Sheet.{Sheet, a, child}
use Rattle.definition.specs.Outside.{Outside}
use Rattle.definition.specs.Walk.{Event}
use Rattle.definition.specs.Slots.{is_local}
use Rattle.definition.specs.Classes.{class_of}
use Rattle.machine.specs.Machine.{node_room, one_more, cell, Node, Store, Scopes, open_functions, current_function}
use Rattle.machine.specs.Machine.{lookup_meaning, new_meaning, appended_call, append_call, add_new, add_capture}
use Rattle.machine.specs.Machine.{four_words, with_table, write_row, mark_hidden, raise_locals, visits_kind}
use Rattle.machine.specs.Machine.{declares_let, event_row, constructed_class, receiver_class, new_field, field_node}
use Rattle.machine.specs.Machine.{is_outer_variable, written_row, written_words, store_call, store_field, store_capture}
use Rattle.machine.specs.Machine.{store_local, store_hidden, store_row}
use Rattle.machine.proofs.Words.{sets_in, sets_out}
use Rattle.machine.specs.Reads.{row_words}
use Rattle.machine.proofs.Nodes.{Extends, extends_refl, call_extends, add_new_extends, add_new_word, add_capture_extends, add_capture_word}

-- a step of the store that leaves the columns for which `spared` is true
pub record Unchanged (spared : ℕ → Bool) (o o' : Store) : Type 0 where
  pub grows : Extends o o'
  pub words : (r d : ℕ) → d < 8 → spared d ≡ true → cell o'.table r d ≡ cell o.table r d

pub unchanged_refl : (sp : ℕ → Bool) (o : Store) → Unchanged sp o o
unchanged_refl sp o = record { grows = extends_refl o; words = λ r d l e. refl }

unchanged_if : (sp : ℕ → Bool) (t : Bool) (o x : Store) → Unchanged sp o x → Unchanged sp o (when t then x else o)
unchanged_if sp true o x p = p
unchanged_if sp false o x p = unchanged_refl sp o

same_nodes : (o : Store) (t : List ℕ) → length t ≡ length o.table → Extends o (with_table t o)
same_nodes o t e = record { used_le = omega arith; kept = λ p l. refl; nodes_length = refl; table_length = e }

-- Columns 0 to 3: code and values.
pub four_words_length : (vs : List ℕ) → length (four_words vs) ≡ 4
four_words_length vs = length-take 4 (vs ++ 0 ∷ 0 ∷ 0 ∷ 0 ∷ []) ∙ omega (arith, length-append vs (0 ∷ 0 ∷ 0 ∷ 0 ∷ []))

pub four_words_are : (vs : List ℕ) → four_words vs ≡ get_or (four_words vs) 0 0 ∷ get_or (four_words vs) 1 0 ∷ get_or (four_words vs) 2 0 ∷ get_or (four_words vs) 3 0 ∷ []
four_words_are [] = refl
four_words_are (x ∷ []) = refl
four_words_are (x ∷ y ∷ []) = refl
four_words_are (x ∷ y ∷ z ∷ []) = refl
four_words_are (x ∷ y ∷ z ∷ w ∷ vs) = refl

-- a word of another row, or after the fourth
aside : (r q d n : ℕ) → d < 8 → n ≡ 4 → (4 ≤ d) ⊎ (q ≡ r → ⊥) → (8 * q + d < 8 * r) ⊎ (8 * r + n ≤ 8 * q + d)
aside r q d n l e h = go (ltb q r) refl h
  where
    go : (t : Bool) → ltb q r ≡ t → (4 ≤ d) ⊎ (q ≡ r → ⊥) → (8 * q + d < 8 * r) ⊎ (8 * r + n ≤ 8 * q + d)
    go true u g = let k : q < r = ltb-true q r u in inl (omega arith)
    go false u (inl g) = let k : r ≤ q = ltb-false q r u in inr (omega arith)
    go false u (inr g) = let k : r ≤ q = ltb-false q r u in inr (omega arith)

write_row_unchanged : (r : ℕ) (vs : List ℕ) (o : Store) → Unchanged (λ d. leb 4 d) o (write_row r vs o)
unfolding write_row
write_row_unchanged r vs o =
    unchanged_if (λ d. leb 4 d) (ltb r (length o.table / 8)) o (with_table (sets o.table (8 * r) (four_words vs)) o)
    (record {
      grows = same_nodes o _ (length-sets o.table (8 * r) (four_words vs));
      words = λ q d l e. sets_out (four_words vs) o.table (8 * r) (8 * q + d) (aside r q d (length (four_words vs)) l (four_words_length vs) (inl (leb-true 4 d e)));
    })

pub write_row_other : (r : ℕ) (vs : List ℕ) (o : Store) (q : ℕ) → (q ≡ r → ⊥) → row_words (write_row r vs o).table q ≡ row_words o.table q
unfolding write_row row_words
write_row_other r vs o q h = go (ltb r (length o.table / 8))
  where
    go : (t : Bool) → row_words (when t then with_table (sets o.table (8 * r) (four_words vs)) o else o).table q ≡ row_words o.table q
    go true =
        let w : (d : ℕ) → d < 8 → cell (sets o.table (8 * r) (four_words vs)) q d ≡ cell o.table q d =
        λ d l. sets_out (four_words vs) o.table (8 * r) (8 * q + d) (aside r q d (length (four_words vs)) l (four_words_length vs) (inr h)) in
        rw (w 0 (omega arith), w 1 (omega arith), w 2 (omega arith), w 3 (omega arith))
    go false = refl

pub write_row_same : (r : ℕ) (vs : List ℕ) (o : Store) → r < length o.table / 8 → row_words (write_row r vs o).table r ≡ four_words vs
unfolding write_row row_words
write_row_same r vs o h =
    let w : (d : ℕ) → d < 4 → cell (sets o.table (8 * r) (four_words vs)) r d ≡ get_or (four_words vs) d 0 =
    λ d l. sets_in (four_words vs) o.table (8 * r) d (omega (arith, four_words_length vs)) (omega (arith, four_words_length vs)) in
    rw (lt-ltb r (length o.table / 8) h, w 0 (omega arith), w 1 (omega arith), w 2 (omega arith), w 3 (omega arith)) (sym (four_words_are vs))

-- Column 4: hidden identifiers. Column 5: local counts.
hidden_unchanged : (r : ℕ) (o : Store) → Unchanged (λ d. not (eqb d 4)) o (mark_hidden r o)
unfolding mark_hidden
hidden_unchanged r o =
    record {
      grows = same_nodes o _ (length-set o.table (8 * r + 4) 1);
      words = λ q d l e. get_or-set_other o.table (8 * r + 4) (8 * q + d) 1 0 (λ k. let n : d ≡ 4 → ⊥ = eqb-false d 4 (not-true (eqb d 4) e) in omega arith);
    }

locals_unchanged : (r k : ℕ) (o : Store) → Unchanged (λ d. not (eqb d 5)) o (raise_locals r k o)
unfolding raise_locals
locals_unchanged r k o =
    record {
      grows = same_nodes o _ (length-set o.table (8 * r + 5) (max (cell o.table r 5) k));
      words = λ q d l e. get_or-set_other o.table (8 * r + 5) (8 * q + d) (max (cell o.table r 5) k) 0 (λ k. let n : d ≡ 5 → ⊥ = eqb-false d 5 (not-true (eqb d 5) e) in omega arith);
    }

-- Columns 6 and 7: lists.
add_capture_unchanged : (fs : List ℕ) (x : Node) (o : Store) → Unchanged (λ d. not (eqb d 6)) o (add_capture fs x o)
add_capture_unchanged fs x o =
    record {
      grows = add_capture_extends fs x o;
      words = λ q d l e. add_capture_word fs x o q d l (eqb-false d 6 (not-true (eqb d 6) e));
    }

add_new_unchanged : (r : ℕ) (x : Node) (o : Store) → Unchanged (λ d. not (eqb d 7)) o (add_new (8 * r + 7) x o)
add_new_unchanged r x o =
    record {
      grows = add_new_extends (8 * r + 7) x o;
      words = λ q d l e. add_new_word (8 * r + 7) x o (8 * q + d) (λ k. let n : d ≡ 7 → ⊥ = eqb-false d 7 (not-true (eqb d 7) e) in omega arith);
    }

call_table : (x : Node) (o : Store) → (append_call x o).table ≡ o.table
unfolding append_call
call_table x o = go (ltb o.used (node_room o.nodes))
  where
    go : (t : Bool) → (when t then appended_call x o else o).table ≡ o.table
    go true = refl
    go false = refl

call_unchanged : (x : Node) (o : Store) → Unchanged (λ d. true) o (append_call x o)
call_unchanged x o = record { grows = call_extends x o; words = λ q d l e. ap (λ (t : List ℕ). cell t q d) (call_table x o) }

module _ (O : Outside) (s : Sheet) (e : Event) (p : Scopes) (o : Store) where
  pub store_call_unchanged : Unchanged (λ d. true) o (store_call s e p o)
  unfolding store_call
  store_call_unchanged = unchanged_if (λ d. true) (visits_kind s 59 e && not (eqb (constructed_class s (event_row e) p) 0)) o _ (call_unchanged _ o)

  pub store_field_unchanged : Unchanged (λ d. not (eqb d 7)) o (store_field s e p o)
  unfolding store_field
  store_field_unchanged = unchanged_if (λ d. not (eqb d 7)) (new_field s e p) o _ (add_new_unchanged (class_of s (current_function p)) (field_node (a s (child s (event_row e)))) o)

  pub store_capture_unchanged : Unchanged (λ d. not (eqb d 6)) o (store_capture s e p o)
  unfolding store_capture
  store_capture_unchanged =
      unchanged_if (λ d. not (eqb d 6))
      (visits_kind s 50 e && is_outer_variable (lookup_meaning p (a s (event_row e))) (current_function p)) o _
      (add_capture_unchanged (open_functions s p) _ o)

  pub store_local_unchanged : Unchanged (λ d. not (eqb d 5)) o (store_local s e p o)
  unfolding store_local
  store_local_unchanged = unchanged_if (λ d. not (eqb d 5)) (declares_let s e && is_local s (new_meaning s (event_row e) p)) o _ (locals_unchanged (current_function p) (one_more p.slot) o)

  pub store_hidden_unchanged : Unchanged (λ d. not (eqb d 4)) o (store_hidden s e p o)
  unfolding store_hidden
  store_hidden_unchanged = unchanged_if (λ d. not (eqb d 4)) (visits_kind s 59 e && not (eqb (receiver_class s (event_row e) p) 0)) o _ (hidden_unchanged (child s (child s (event_row e))) o)

  pub store_row_unchanged : Unchanged (λ d. leb 4 d) o (store_row O s e p o)
  unfolding store_row
  store_row_unchanged = go (eqb (written_row s e p) 0)
    where
      go : (t : Bool) → Unchanged (λ d. leb 4 d) o (when t then o else write_row (written_row s e p) (written_words O s e p o) o)
      go true = unchanged_refl (λ d. leb 4 d) o
      go false = write_row_unchanged (written_row s e p) (written_words O s e p o) o
