-- The machine run over the walks of two small sheets, and what is read off its state then. In a sheet, a row's column is its number.
use Rattle.std.specs.Prelude.{◌≡◌, refl, not, List, [], ◌∷◌, map, ℕ, ◌+◌, ◌*◌, replicate, eqb}
use Rattle.definition.specs.Basics.{filter, from}
use Rattle.definition.specs.Sheet.{Sheet, rows, is}
use Rattle.definition.specs.Outside.{core}
use Rattle.definition.specs.Walk.{walk}
use Rattle.machine.specs.Machine.{State, cell, chain_to, list_at, run_state, start_state}
use Rattle.machine.specs.Machine.{find_name, taken_in, loop_in, function_marks, last_mark, meaning_at, slot_at, global_at}
use Rattle.machine.specs.Machine.{searched, lookup_meaning, lookup_slot, lookup_global, open_functions, marks_after, lookup_distance, current_function}
use Rattle.machine.specs.Machine.{new_meaning, step_scopes}
use Rattle.machine.specs.Machine.{chain_back, reversed, append_node, append_call, add_new, add_capture, write_row}
use Rattle.machine.specs.Machine.{mark_hidden, raise_locals, store_call, store_field, store_capture, store_local}
use Rattle.machine.specs.Machine.{store_hidden, code_of, seen_in, with_distance, store_row, step_store, check_event, step_state}
use Rattle.machine.specs.Reads.{row_words, escaping_slots}

-- What is read off a state. A list that belongs to a row has the row first.
pub record Reading : Type 0 where
  pub refusal : List ℕ  -- number, row and name of the refusal
  pub globals : ℕ  -- the number of the next global
  pub coded : List (List ℕ)  -- of each row with a code: code and values
  pub hidden : List ℕ  -- the identifiers that a method call hides
  pub locals : List (List ℕ)  -- of each function: its local count
  pub captures : List (List ℕ)  -- of each function: the rows that it captures
  pub escapes : List (List ℕ)  -- of each function: its slots that escape
  pub fields : List (List ℕ)  -- of each class: the fields registered in it
  pub calls : List (List ℕ)  -- the constructor calls: row and class

-- the rows of kind k
abbrev rows_of : Sheet → ℕ → List ℕ
rows_of s k = filter (is s k) (from 0 (rows s))

-- all of it, of the state x after the walk over sheet s
abbrev read_off : Sheet → State → Reading
read_off s x =
    record {
      refusal = x.refusal.number ∷ x.refusal.at ∷ x.refusal.name ∷ [];
      globals = x.scopes.next_global;
      coded = map (λ r. r ∷ row_words x.store.table r) (filter (λ r. not (eqb (cell x.store.table r 0) 0)) (from 0 (rows s)));
      hidden = filter (λ r. not (eqb (cell x.store.table r 4) 0)) (from 0 (rows s));
      locals = map (λ f. f ∷ cell x.store.table f 5 ∷ []) (rows_of s 6);
      captures = map (λ f. f ∷ map (λ y. y.key) (list_at x.store (8 * f + 6))) (rows_of s 6);
      escapes = map (λ f. f ∷ escaping_slots s x.store f) (rows_of s 6);
      fields = map (λ c. c ∷ map (λ y. y.key) (list_at x.store (8 * c + 7))) (rows_of s 4);
      calls = map (λ y. y.key ∷ y.one ∷ []) (chain_to x.store.nodes x.store.calls);
    }

-- what is read off the state after the walk over a sheet, on buffers of 30 entries, 60 rows and 10 nodes
unfoldable pub reading : Sheet → Reading
unfolding row_words list_at chain_to run_state start_state find_name taken_in loop_in function_marks last_mark meaning_at slot_at
    global_at searched lookup_meaning lookup_slot lookup_global open_functions marks_after lookup_distance current_function new_meaning step_scopes chain_back
    reversed append_node append_call add_new add_capture write_row mark_hidden raise_locals store_call store_field store_capture
    store_local store_hidden store_row code_of seen_in with_distance step_store check_event step_state
reading s = read_off s (run_state core s (walk s) (start_state core s (replicate 150 0) (replicate 480 0) (replicate 40 0)))

-- With 3 globals before it:
--   class C { init(self) { self.v = 1; self.v = 2; } }
--   let p = 1;
--   let var q = 2;
--   let f = |p| {
--     let var r = p;
--     { let q = r; let s = q; }
--     || return || { r; p; r; };
--     let s = r;
--   };
--   C();
--   C.init(q);
-- Names: 25 C, 26 p, 27 q, 28 f, 29 r, 30 s, 31 v, 32 self; 23 is init. Functions: 3 init, 14 the unit's, 23 f, 35 and 38 the literals in f.
abbrev pub accepted : Sheet
accepted =
    0 ∷ 0 ∷ 1 ∷ 0 ∷ 0 ∷ 0 ∷ 3 ∷ 14 ∷
    2 ∷ 0 ∷ 2 ∷ 0 ∷ 0 ∷ 0 ∷ 0 ∷ 0 ∷
    4 ∷ 14 ∷ 3 ∷ 0 ∷ 1 ∷ 2 ∷ 25 ∷ 0 ∷
    6 ∷ 0 ∷ 4 ∷ 0 ∷ 1 ∷ 3 ∷ 23 ∷ 0 ∷
    11 ∷ 5 ∷ 0 ∷ 0 ∷ 1 ∷ 4 ∷ 32 ∷ 0 ∷
    25 ∷ 0 ∷ 6 ∷ 0 ∷ 1 ∷ 5 ∷ 0 ∷ 0 ∷
    21 ∷ 10 ∷ 7 ∷ 0 ∷ 1 ∷ 6 ∷ 0 ∷ 0 ∷
    54 ∷ 9 ∷ 8 ∷ 0 ∷ 1 ∷ 7 ∷ 31 ∷ 0 ∷
    50 ∷ 0 ∷ 0 ∷ 0 ∷ 1 ∷ 8 ∷ 32 ∷ 0 ∷
    43 ∷ 0 ∷ 0 ∷ 0 ∷ 1 ∷ 9 ∷ 1 ∷ 0 ∷
    21 ∷ 0 ∷ 11 ∷ 0 ∷ 1 ∷ 10 ∷ 0 ∷ 0 ∷
    54 ∷ 13 ∷ 12 ∷ 0 ∷ 1 ∷ 11 ∷ 31 ∷ 0 ∷
    50 ∷ 0 ∷ 0 ∷ 0 ∷ 1 ∷ 12 ∷ 32 ∷ 0 ∷
    43 ∷ 0 ∷ 0 ∷ 0 ∷ 1 ∷ 13 ∷ 2 ∷ 0 ∷
    6 ∷ 0 ∷ 15 ∷ 0 ∷ 1 ∷ 14 ∷ 0 ∷ 1 ∷
    25 ∷ 0 ∷ 16 ∷ 0 ∷ 1 ∷ 15 ∷ 0 ∷ 0 ∷
    30 ∷ 17 ∷ 0 ∷ 0 ∷ 1 ∷ 16 ∷ 2 ∷ 0 ∷
    29 ∷ 19 ∷ 18 ∷ 0 ∷ 1 ∷ 17 ∷ 26 ∷ 0 ∷
    43 ∷ 0 ∷ 0 ∷ 0 ∷ 1 ∷ 18 ∷ 1 ∷ 0 ∷
    29 ∷ 21 ∷ 20 ∷ 0 ∷ 1 ∷ 19 ∷ 27 ∷ 1 ∷
    43 ∷ 0 ∷ 0 ∷ 0 ∷ 1 ∷ 20 ∷ 2 ∷ 0 ∷
    29 ∷ 48 ∷ 22 ∷ 0 ∷ 1 ∷ 21 ∷ 28 ∷ 0 ∷
    52 ∷ 0 ∷ 23 ∷ 0 ∷ 1 ∷ 22 ∷ 0 ∷ 0 ∷
    6 ∷ 0 ∷ 24 ∷ 0 ∷ 1 ∷ 23 ∷ 0 ∷ 0 ∷
    11 ∷ 25 ∷ 0 ∷ 0 ∷ 1 ∷ 24 ∷ 26 ∷ 0 ∷
    25 ∷ 0 ∷ 26 ∷ 0 ∷ 1 ∷ 25 ∷ 0 ∷ 0 ∷
    29 ∷ 28 ∷ 27 ∷ 0 ∷ 1 ∷ 26 ∷ 29 ∷ 1 ∷
    50 ∷ 0 ∷ 0 ∷ 0 ∷ 1 ∷ 27 ∷ 26 ∷ 0 ∷
    25 ∷ 33 ∷ 29 ∷ 0 ∷ 1 ∷ 28 ∷ 0 ∷ 0 ∷
    29 ∷ 31 ∷ 30 ∷ 0 ∷ 1 ∷ 29 ∷ 27 ∷ 0 ∷
    50 ∷ 0 ∷ 0 ∷ 0 ∷ 1 ∷ 30 ∷ 29 ∷ 0 ∷
    29 ∷ 0 ∷ 32 ∷ 0 ∷ 1 ∷ 31 ∷ 30 ∷ 0 ∷
    50 ∷ 0 ∷ 0 ∷ 0 ∷ 1 ∷ 32 ∷ 27 ∷ 0 ∷
    20 ∷ 46 ∷ 34 ∷ 0 ∷ 1 ∷ 33 ∷ 0 ∷ 0 ∷
    52 ∷ 0 ∷ 35 ∷ 0 ∷ 1 ∷ 34 ∷ 0 ∷ 0 ∷
    6 ∷ 0 ∷ 36 ∷ 0 ∷ 1 ∷ 35 ∷ 0 ∷ 0 ∷
    22 ∷ 0 ∷ 37 ∷ 0 ∷ 1 ∷ 36 ∷ 0 ∷ 0 ∷
    52 ∷ 0 ∷ 38 ∷ 0 ∷ 1 ∷ 37 ∷ 0 ∷ 0 ∷
    6 ∷ 0 ∷ 39 ∷ 0 ∷ 1 ∷ 38 ∷ 0 ∷ 0 ∷
    25 ∷ 0 ∷ 40 ∷ 0 ∷ 1 ∷ 39 ∷ 0 ∷ 0 ∷
    20 ∷ 42 ∷ 41 ∷ 0 ∷ 1 ∷ 40 ∷ 0 ∷ 0 ∷
    50 ∷ 0 ∷ 0 ∷ 0 ∷ 1 ∷ 41 ∷ 29 ∷ 0 ∷
    20 ∷ 44 ∷ 43 ∷ 0 ∷ 1 ∷ 42 ∷ 0 ∷ 0 ∷
    50 ∷ 0 ∷ 0 ∷ 0 ∷ 1 ∷ 43 ∷ 26 ∷ 0 ∷
    20 ∷ 0 ∷ 45 ∷ 0 ∷ 1 ∷ 44 ∷ 0 ∷ 0 ∷
    50 ∷ 0 ∷ 0 ∷ 0 ∷ 1 ∷ 45 ∷ 29 ∷ 0 ∷
    29 ∷ 0 ∷ 47 ∷ 0 ∷ 1 ∷ 46 ∷ 30 ∷ 0 ∷
    50 ∷ 0 ∷ 0 ∷ 0 ∷ 1 ∷ 47 ∷ 29 ∷ 0 ∷
    20 ∷ 51 ∷ 49 ∷ 0 ∷ 1 ∷ 48 ∷ 0 ∷ 0 ∷
    59 ∷ 0 ∷ 50 ∷ 0 ∷ 1 ∷ 49 ∷ 0 ∷ 0 ∷
    50 ∷ 0 ∷ 0 ∷ 0 ∷ 1 ∷ 50 ∷ 25 ∷ 0 ∷
    20 ∷ 0 ∷ 52 ∷ 0 ∷ 1 ∷ 51 ∷ 0 ∷ 0 ∷
    59 ∷ 0 ∷ 53 ∷ 0 ∷ 1 ∷ 52 ∷ 0 ∷ 0 ∷
    54 ∷ 55 ∷ 54 ∷ 0 ∷ 1 ∷ 53 ∷ 23 ∷ 0 ∷
    50 ∷ 0 ∷ 0 ∷ 0 ∷ 1 ∷ 54 ∷ 25 ∷ 0 ∷
    50 ∷ 0 ∷ 0 ∷ 0 ∷ 1 ∷ 55 ∷ 27 ∷ 0 ∷ []

-- The lets p and q of the unit are globals 3 and 4, and f is function 23. In f, r is in slot 0, q and s of the block in 1 and 2, and the
-- later s in 1 again. Both literals in f capture r of row 26, then p of row 24; r is mutable, so its slot escapes. Their
-- identifiers lie two functions in. The identifier of row 55 means q of the unit.
pub accepted_reading : reading accepted
    ≡ record {
      refusal = 0 ∷ 0 ∷ 0 ∷ [];
      globals = 5;
      coded =
          (2 ∷ 2 ∷ 0 ∷ 0 ∷ 0 ∷ []) ∷
          (8 ∷ 4 ∷ 0 ∷ 3 ∷ 0 ∷ []) ∷
          (12 ∷ 4 ∷ 0 ∷ 3 ∷ 0 ∷ []) ∷
          (17 ∷ 3 ∷ 3 ∷ 0 ∷ 0 ∷ []) ∷
          (19 ∷ 3 ∷ 4 ∷ 0 ∷ 1 ∷ []) ∷
          (21 ∷ 1 ∷ 23 ∷ 0 ∷ 0 ∷ []) ∷
          (22 ∷ 1 ∷ 14 ∷ 0 ∷ 0 ∷ []) ∷
          (26 ∷ 5 ∷ 0 ∷ 23 ∷ 1 ∷ []) ∷
          (27 ∷ 4 ∷ 0 ∷ 23 ∷ 0 ∷ []) ∷
          (29 ∷ 5 ∷ 1 ∷ 23 ∷ 0 ∷ []) ∷
          (30 ∷ 5 ∷ 0 ∷ 23 ∷ 1 ∷ []) ∷
          (31 ∷ 5 ∷ 2 ∷ 23 ∷ 0 ∷ []) ∷
          (32 ∷ 5 ∷ 1 ∷ 23 ∷ 0 ∷ []) ∷
          (34 ∷ 1 ∷ 23 ∷ 0 ∷ 0 ∷ []) ∷
          (37 ∷ 1 ∷ 35 ∷ 0 ∷ 0 ∷ []) ∷
          (41 ∷ 6 ∷ 0 ∷ 2 ∷ 1 ∷ []) ∷
          (43 ∷ 6 ∷ 1 ∷ 2 ∷ 0 ∷ []) ∷
          (45 ∷ 6 ∷ 0 ∷ 2 ∷ 1 ∷ []) ∷
          (46 ∷ 5 ∷ 1 ∷ 23 ∷ 0 ∷ []) ∷
          (47 ∷ 5 ∷ 0 ∷ 23 ∷ 1 ∷ []) ∷
          (50 ∷ 2 ∷ 258 ∷ 0 ∷ 0 ∷ []) ∷
          (53 ∷ 1 ∷ 3 ∷ 0 ∷ 0 ∷ []) ∷
          (54 ∷ 2 ∷ 258 ∷ 0 ∷ 0 ∷ []) ∷
          (55 ∷ 3 ∷ 4 ∷ 0 ∷ 1 ∷ []) ∷
          [];
      hidden = 54 ∷ [];
      locals = (3 ∷ 0 ∷ []) ∷ (14 ∷ 0 ∷ []) ∷ (23 ∷ 3 ∷ []) ∷ (35 ∷ 0 ∷ []) ∷ (38 ∷ 0 ∷ []) ∷ [];
      captures = (3 ∷ []) ∷ (14 ∷ []) ∷ (23 ∷ []) ∷ (35 ∷ 26 ∷ 24 ∷ []) ∷ (38 ∷ 26 ∷ 24 ∷ []) ∷ [];
      escapes = (3 ∷ []) ∷ (14 ∷ []) ∷ (23 ∷ 0 ∷ []) ∷ (35 ∷ []) ∷ (38 ∷ []) ∷ [];
      fields = (2 ∷ 31 ∷ []) ∷ [];
      calls = (49 ∷ 258 ∷ []) ∷ [];
    }
unfolding reading
accepted_reading = refl

-- A break in a literal inside a loop; then a name that is not declared, which is not asked about any more:
--   for (nil; true; nil) { || break; }
--   p;
-- Name: 25 p. The break is row 14.
abbrev pub broken : Sheet
broken =
    0 ∷ 0 ∷ 1 ∷ 0 ∷ 0 ∷ 0 ∷ 0 ∷ 2 ∷
    2 ∷ 0 ∷ 2 ∷ 0 ∷ 0 ∷ 0 ∷ 0 ∷ 0 ∷
    6 ∷ 0 ∷ 3 ∷ 0 ∷ 1 ∷ 2 ∷ 0 ∷ 1 ∷
    25 ∷ 0 ∷ 4 ∷ 0 ∷ 1 ∷ 3 ∷ 0 ∷ 0 ∷
    27 ∷ 15 ∷ 5 ∷ 0 ∷ 1 ∷ 4 ∷ 0 ∷ 0 ∷
    20 ∷ 7 ∷ 6 ∷ 0 ∷ 1 ∷ 5 ∷ 0 ∷ 0 ∷
    40 ∷ 0 ∷ 0 ∷ 0 ∷ 1 ∷ 6 ∷ 0 ∷ 0 ∷
    41 ∷ 8 ∷ 0 ∷ 0 ∷ 1 ∷ 7 ∷ 0 ∷ 0 ∷
    20 ∷ 10 ∷ 9 ∷ 0 ∷ 1 ∷ 8 ∷ 0 ∷ 0 ∷
    40 ∷ 0 ∷ 0 ∷ 0 ∷ 1 ∷ 9 ∷ 0 ∷ 0 ∷
    25 ∷ 0 ∷ 11 ∷ 0 ∷ 1 ∷ 10 ∷ 0 ∷ 0 ∷
    20 ∷ 0 ∷ 12 ∷ 0 ∷ 1 ∷ 11 ∷ 0 ∷ 0 ∷
    52 ∷ 0 ∷ 13 ∷ 0 ∷ 1 ∷ 12 ∷ 0 ∷ 0 ∷
    6 ∷ 0 ∷ 14 ∷ 0 ∷ 1 ∷ 13 ∷ 0 ∷ 0 ∷
    23 ∷ 0 ∷ 0 ∷ 0 ∷ 1 ∷ 14 ∷ 0 ∷ 0 ∷
    20 ∷ 0 ∷ 16 ∷ 0 ∷ 1 ∷ 15 ∷ 0 ∷ 0 ∷
    50 ∷ 0 ∷ 0 ∷ 0 ∷ 1 ∷ 16 ∷ 25 ∷ 0 ∷ []

pub broken_reading : (reading broken).refusal ≡ 5 ∷ 14 ∷ 0 ∷ []
unfolding reading
broken_reading = refl
