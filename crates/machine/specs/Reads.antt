-- What the program reads off its state after the walk, and the statements that it is what the definition says.
use Rattle.std.specs.Prelude.{◌≡◌, Bool, not, ◌&&◌, List, [], ◌∷◌, ◌++◌, map, ℕ, suc, ◌+◌, ◌*◌, ◌<◌, ◌≤◌, length, get_or, eqb, T}
use Rattle.definition.specs.Basics.{when◌then◌else◌, filter, any, distinct, from, concat_map}
use Rattle.definition.specs.Sheet.{Sheet, rows, child, a, is, kids_of}
use Rattle.definition.specs.Meaning.{Meaning, variable}
use Rattle.definition.specs.Outside.{Outside, OutsideFits}
use Rattle.definition.specs.Scope.{Moment, visited, visits, history}
use Rattle.definition.specs.Slots.{is_mutable, final_globals}
use Rattle.definition.specs.Classes.{own_fields, parent_of, methods}
use Rattle.definition.specs.Question.{Refusal, first_no, open_on, constructed, ask_event, until_no, ask_climb, first_of_classes, ask_init, refusal}
use Rattle.definition.specs.Format.{sheet_fits, depths_fit}
use Rattle.definition.specs.Outcome.{rows_fit}
use Rattle.definition.specs.Answer.{eight, let_row, identifier_row, host_row, instance_row, member_row, literal_rows, function_rows}
use Rattle.machine.specs.Machine.{Node, Store, State, cell, list_at, chain_to, seen_in, code_of}

-- code and values of sheet row r in the table
unfoldable pub row_words : List ℕ → ℕ → List ℕ
row_words t r = cell t r 0 ∷ cell t r 1 ∷ cell t r 2 ∷ cell t r 3 ∷ []

-- the answer row of sheet row r with four words, filled with zeros to eight
abbrev pub answer_row : ℕ → List ℕ → List ℕ
answer_row r ws = r ∷ ws ++ 0 ∷ 0 ∷ 0 ∷ []

-- the answer row of an identifier with four words: the third of a captured one is how far out it is declared, its fourth value
abbrev pub identifier_answer : ℕ → List ℕ → List ℕ
identifier_answer r ws = when eqb (get_or ws 0 0) 6 then r ∷ get_or ws 0 0 ∷ get_or ws 1 0 ∷ 0 ∷ get_or ws 3 0 ∷ get_or ws 2 0 ∷ 0 ∷ 0 ∷ [] else answer_row r ws

-- what a capture node stands for
abbrev pub meaning_of_node : Node → Meaning
meaning_of_node y = variable y.key y.one

-- the functions of the literals that stand in function f, as the table says
abbrev pub literals_in : Sheet → List ℕ → ℕ → List ℕ
literals_in s t f = map (child s) (filter (λ l. is s 52 l && (eqb (cell t l 0) 1 && eqb (cell t l 1) f)) (from 0 (rows s)))

-- is a mutable local of function f in slot k among the capture nodes ys?
abbrev pub hands_on : Sheet → ℕ → ℕ → List Node → Bool
hands_on s f k ys = any (λ y. is_mutable s (meaning_of_node y) && eqb y.one f && eqb y.two k) ys

-- the slots of function f that literals in it capture, rising
abbrev pub escaping_slots : Sheet → Store → ℕ → List ℕ
escaping_slots s o f = filter (λ j. hands_on s f j (concat_map (λ g. list_at o (8 * g + 6)) (literals_in s o.table f))) (from 0 (cell o.table f 5))

-- the fields that the class of row c lists
abbrev pub listed_fields : Sheet → ℕ → List ℕ
listed_fields s c = map (a s) (kids_of s 10 c)

-- the moments at which a constructor is called
abbrev pub calls_of : Sheet → List Moment → List Moment
calls_of s h = filter (λ m. not (eqb (constructed s (visited m.event) (open_on s m.stack)) 0)) (visits s h 59)

-- the node of a constructor call: its row and its class
abbrev pub call_node : Sheet → Moment → Node
call_node s m = record { key = visited m.event; one = constructed s (visited m.event) (open_on s m.stack); two = 0 }

-- Of the store o after the walk over sheet s, with all answer rows of a row in the definition's order:
pub record StoreReads (O : Outside) (s : Sheet) (o : Store) : Type 0 where
  -- a let, a host constant and an instanceof have their words in the table,
  pub lets : (r : ℕ) → r < rows s → T (is s 29 r) → map (λ vs. eight (r ∷ vs)) (let_row s (history O s) r) ≡ answer_row r (row_words o.table r) ∷ []
  pub hosts : (r : ℕ) → r < rows s → T (is s 51 r) → map (λ vs. eight (r ∷ vs)) (host_row s (history O s) r) ≡ answer_row r (row_words o.table r) ∷ []
  pub instances : (r : ℕ) → r < rows s → T (is s 55 r) → map (λ vs. eight (r ∷ vs)) (instance_row s (history O s) r) ≡ answer_row r (row_words o.table r) ∷ []
  -- an identifier too unless it is marked as hidden, and a member if it has a code;
  pub identifiers : (r : ℕ) → r < rows s → T (is s 50 r)
      → map (λ vs. eight (r ∷ vs)) (identifier_row s (history O s) r)
      ≡ (when eqb (cell o.table r 4) 0 then identifier_answer r (row_words o.table r) ∷ [] else [])
  pub members : (r : ℕ) → r < rows s → T (is s 54 r)
      → map (λ vs. eight (r ∷ vs)) (member_row O s (history O s) r) ≡ (when eqb (cell o.table r 0) 0 then [] else answer_row r (row_words o.table r) ∷ [])
  -- a literal has its sources in the capture list of its function, seen from the function in which it stands,
  pub literals : (r : ℕ) → r < rows s → T (is s 52 r)
      → literal_rows s (history O s) r ≡ map (λ y. seen_in s (meaning_of_node y) y.two 0 (cell o.table r 1) o) (list_at o (8 * child s r + 6))
  -- and a function its local count, captures and escaping slots;
  pub functions : (r : ℕ) → r < rows s → T (is s 6 r)
      → function_rows s (history O s) r
      ≡ (20 ∷ cell o.table r 5 ∷ length (list_at o (8 * r + 6)) ∷ length (escaping_slots s o r) ∷ [])
      ∷ map (λ y. code_of s (meaning_of_node y) y.two 0) (list_at o (8 * r + 6)) ++ map (λ j. 5 ∷ j ∷ r ∷ 1 ∷ []) (escaping_slots s o r)
  -- a class has its own fields, the listed and then the stored, and its parent, before inheritance;
  pub fields : (c : ℕ) → c < rows s → T (is s 4 c) → own_fields O s (history O s) (256 + c) ≡ distinct eqb (listed_fields s c) ++ map (λ y. y.key) (list_at o (8 * c + 7))
  pub parents : (c : ℕ) → c < rows s → T (is s 4 c) → parent_of s (history O s) (256 + c) ≡ cell o.table c 1
  -- and the constructor calls are stored in the walk's order.
  pub calls : chain_to o.nodes o.calls ≡ map (call_node s) (calls_of s (history O s))

-- A sheet past questions 1, 3 and 4, and what stands outside it; it has no more names than the 24 fixed ones, a list and a session's may be.
pub record PastFour (O : Outside) (s : Sheet) : Type 0 where
  pub outside : OutsideFits O
  pub names : ℕ
  pub few : names ≤ 2072
  pub whole : T (rows_fit s)
  pub fitting : T (sheet_fits names s)
  pub shallow : T (depths_fit s)

-- the questions 20 and 21 on a stored constructor call
abbrev pub check_call : Outside → Sheet → List Moment → Node → Refusal
check_call O s h y = ask_init O s (methods O s h (rows s) y.one) y.key y.one

-- the first no of the questions that the walk asks, 5 to 17
abbrev pub walk_refusal : Outside → Sheet → Refusal
walk_refusal O s = first_no (map (λ m. ask_event O s m.event (open_on s m.stack)) (history O s))

-- the first no after the walk: of the classes in row order, then of the stored constructor calls
abbrev pub later_refusal : Outside → Sheet → Store → Refusal
later_refusal O s o =
    first_no (
    first_of_classes s (ask_climb O s (parent_of s (history O s)) (suc (rows s)) [])
    ∷ first_no (map (check_call O s (history O s)) (chain_to o.nodes o.calls))
    ∷ [])

-- The state x after the walk over sheet s refuses as the definition does, or holds what the definition says.
pub record Walked (O : Outside) (s : Sheet) (x : State) : Type 0 where
  -- a no of the walk is the definition's first no, and the machine's refusal;
  pub refused : ((walk_refusal O s).number ≡ 0 → ⊥) → x.refusal ≡ refusal O s (history O s)
  -- globals are counted up to it;
  pub globals : x.scopes.next_global ≡ final_globals s (until_no O s (history O s))
  -- otherwise there is no refusal, the store holds what the answer rows say, and the definition's first no is the first no after the walk.
  pub accepted : (walk_refusal O s).number ≡ 0 → x.refusal.number ≡ 0
  pub store : (walk_refusal O s).number ≡ 0 → StoreReads O s x.store
  pub later : (walk_refusal O s).number ≡ 0 → refusal O s (history O s) ≡ later_refusal O s x.store
