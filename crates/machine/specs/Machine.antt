-- The program's state machine: what an event of the walk does to its counters and to the words of its buffers. Searches and
-- stores are total: a word past the end of a buffer reads as 0, and a store past the end changes nothing, so that a routine's
-- contract is an equation with one of these functions and needs no fact about the sheet.
use Rattle.std.specs.Prelude.{Bool, true, false, not, ◌&&◌, ◌||◌, List, [], ◌∷◌, ◌++◌, map, ℕ, zero, suc, ◌+◌, ◌-◌, ◌*◌, ◌/◌, min, max, length, get_or, set, take, eqb, leb, ltb}
use Rattle.std.proofs.lemmas.List.Edits.{sets}
use Rattle.definition.specs.Basics.{when◌then◌else◌, any, place, bit, ◌∈?◌}
use Rattle.definition.specs.Sheet.{Sheet, child, a, b, is, kids_of}
use Rattle.definition.specs.Meaning.{Meaning, Named, nothing, function, class, global, toplevel, variable, row_of, owner_of, is_variable, is_toplevel, class_number}
use Rattle.definition.specs.Outside.{Outside}
use Rattle.definition.specs.Walk.{Event, enter, leave, loop, declare, bring, visit}
use Rattle.definition.specs.Scope.{declared}
use Rattle.definition.specs.Slots.{is_local, is_mutable}
use Rattle.definition.specs.Classes.{method_named, own_methods, class_of}
use Rattle.definition.specs.Question.{Refusal, none, Open, constructed, receiver, ask_visit, ask_event}

-- word c of open entry i, of five
abbrev pub entry_word : List ℕ → ℕ → ℕ → ℕ
entry_word v i c = get_or v (5 * i + c) 0

-- word c of sheet row r in the table, of eight
abbrev pub cell : List ℕ → ℕ → ℕ → ℕ
cell t r c = get_or t (8 * r + c) 0

-- word c of node i, of four
abbrev pub node_word : List ℕ → ℕ → ℕ → ℕ
node_word q i c = get_or q (4 * i + c) 0

-- The open scopes. An entry is five words: a tag, a name, two values, and how many locals were open before it. Innermost entries
-- are last. Tags 2 to 7 are declarations (`tag_of`). Tag 0 marks a loop and tag 1 a scope, with its row in place of the name; both hold
-- the innermost function around them as their first value, which is restored when the scope closes.
pub record Scopes : Type 0 where
  pub count : ℕ  -- entries in use
  pub slot : ℕ  -- the next slot of a local
  pub fun : ℕ  -- the innermost function, or 0
  pub next_global : ℕ  -- the number of the next global
  pub env : List ℕ  -- the entries' words

-- What the walk stores. A sheet row has eight words in the table: 0 to 3 code and values (`with_distance`), 4 whether a method call hides the
-- identifier, 5 the local count of a function, 6 the last capture node of a function, 7 the last field node of a class. A node is
-- four words: the node before it in its list, a key, two values. Nodes are only appended, so that a list, told by its last node,
-- never changes.
pub record Store : Type 0 where
  pub used : ℕ  -- nodes in use
  pub calls : ℕ  -- the last node of the constructor calls
  pub table : List ℕ
  pub nodes : List ℕ

-- The whole state: the open scopes, what is stored, and the first refusal.
pub record State : Type 0 where
  pub scopes : Scopes
  pub store : Store
  pub refusal : Refusal

-- the tag of a declaration's entry
abbrev pub tag_of : Meaning → ℕ
tag_of nothing = 2
tag_of (function f) = 3
tag_of (class c) = 4
tag_of (global g m) = 5
tag_of (variable r f) = 6
tag_of (toplevel r) = 7

-- the first value of a declaration's entry
abbrev pub first_of : Meaning → ℕ
first_of nothing = 0
first_of (function f) = f
first_of (class c) = c
first_of (global g m) = g
first_of (variable r f) = r
first_of (toplevel r) = r

-- the second value of a declaration's entry, where n is the number of the next global: a let of a unit takes that number
abbrev pub second_of : Meaning → ℕ → ℕ
second_of nothing n = 0
second_of (function f) n = 0
second_of (class c) n = 0
second_of (global g m) n = m
second_of (variable r f) n = f
second_of (toplevel r) n = n

-- what an entry of tag t with values x and y declares
abbrev pub meaning_of : ℕ → ℕ → ℕ → Meaning
meaning_of t x y =
    when eqb t 3 then function x
    else when eqb t 4 then class x
    else when eqb t 5 then global x y
    else when eqb t 6 then variable x y
    else when eqb t 7 then toplevel x
    else nothing

-- one more than the place of the last of the first n entries that declares name m, or 0
unfoldable pub find_name : List ℕ → ℕ → ℕ → ℕ
find_name v m zero = 0
find_name v m (suc n) = when leb (entry_word v n 0) 1 then find_name v m n else when eqb (entry_word v n 1) m then suc n else find_name v m n

-- is name m declared after the last scope mark of the first n entries?
unfoldable pub taken_in : List ℕ → ℕ → ℕ → Bool
taken_in v m zero = false
taken_in v m (suc n) = when leb (entry_word v n 0) 1 then (when eqb (entry_word v n 0) 0 then taken_in v m n else false) else (eqb (entry_word v n 1) m || taken_in v m n)

-- is there a loop mark after the last function's scope mark of the first n entries?
unfoldable pub loop_in : Sheet → List ℕ → ℕ → Bool
loop_in s v zero = false
loop_in s v (suc n) = when leb (entry_word v n 0) 1 then (when eqb (entry_word v n 0) 0 then true else when is s 6 (entry_word v n 1) then false else loop_in s v n) else loop_in s v n

-- the functions whose scope marks are among the first n entries, innermost first
unfoldable pub function_marks : Sheet → List ℕ → ℕ → List ℕ
function_marks s v zero = []
function_marks s v (suc n) =
    when leb (entry_word v n 0) 1
    then (when eqb (entry_word v n 0) 0 then function_marks s v n
    else when is s 6 (entry_word v n 1) then entry_word v n 1 ∷ function_marks s v n else function_marks s v n)
    else function_marks s v n

-- the place of the last scope mark of the first n entries, or 0
unfoldable pub last_mark : List ℕ → ℕ → ℕ
last_mark v zero = 0
last_mark v (suc n) = when leb (entry_word v n 0) 1 then (when eqb (entry_word v n 0) 0 then last_mark v n else n) else last_mark v n

-- what entry k - 1 declares; nothing for k = 0
unfoldable pub meaning_at : List ℕ → ℕ → Meaning
meaning_at v zero = nothing
meaning_at v (suc i) = meaning_of (entry_word v i 0) (entry_word v i 2) (entry_word v i 3)

-- the slot stored with entry k - 1
unfoldable pub slot_at : List ℕ → ℕ → ℕ
slot_at v zero = 0
slot_at v (suc i) = entry_word v i 4

-- the global number stored with entry k - 1, where that is a let of a unit
unfoldable pub global_at : List ℕ → ℕ → ℕ
global_at v zero = 0
global_at v (suc i) = entry_word v i 3

-- the entries in which a name is looked for: those in use, as far as the buffer has all words of an entry
unfoldable pub searched : Scopes → ℕ
searched p = min p.count (length p.env / 5)

-- what name m means: what the innermost entry of it declares
unfoldable pub lookup_meaning : Scopes → ℕ → Meaning
lookup_meaning p m = meaning_at p.env (find_name p.env m (searched p))

-- the slot of what name m means, if that is a local
unfoldable pub lookup_slot : Scopes → ℕ → ℕ
lookup_slot p m = slot_at p.env (find_name p.env m (searched p))

-- the global number of what name m means, if that is a let of a unit
unfoldable pub lookup_global : Scopes → ℕ → ℕ
lookup_global p m = global_at p.env (find_name p.env m (searched p))

-- the functions around, innermost first
unfoldable pub open_functions : Sheet → Scopes → List ℕ
open_functions s p = function_marks s p.env p.count

-- how many functions' marks stand after the innermost entry of name m, among the first n
unfoldable pub marks_after : Sheet → List ℕ → ℕ → ℕ → ℕ
marks_after s v m n = length (function_marks s v n) - length (function_marks s v (find_name v m n))

-- how many function boundaries lie between here and what name m means, if that is a local or argument; else 0
unfoldable pub lookup_distance : Sheet → Scopes → ℕ → ℕ
lookup_distance s p m = when is_variable (lookup_meaning p m) then marks_after s p.env m (searched p) else 0

-- the innermost function
unfoldable pub current_function : Scopes → ℕ
current_function p = p.fun

-- how many entries fit a buffer and a word's count
abbrev pub entry_room : List ℕ → ℕ
entry_room v = min (length v / 5) 4294967295

-- the number of entries after one more is pushed, if there is room
abbrev pub count_pushed : List ℕ → ℕ → ℕ
count_pushed v n = when ltb n (entry_room v) then suc n else n

-- the entries' words after one more is pushed, if there is room
abbrev pub words_pushed : List ℕ → ℕ → List ℕ → List ℕ
words_pushed v n ws = when ltb n (entry_room v) then sets v (5 * n) ws else v

-- one more, unless that would not fit a word: so a routine's sum fits with no fact about the sheet
abbrev pub one_more : ℕ → ℕ
one_more n = when ltb n 4294967295 then suc n else n

-- a mark of tag t and row r pushed, after which f is the innermost function
abbrev pub push_mark : ℕ → ℕ → ℕ → Scopes → Scopes
push_mark t r f p =
    record {
      count = count_pushed p.env p.count;
      slot = p.slot;
      fun = f;
      next_global = p.next_global;
      env = words_pushed p.env p.count (t ∷ r ∷ p.fun ∷ 0 ∷ p.slot ∷ []);
    }

-- name m declared as d: a local takes the next slot, a let of a unit the next global number
abbrev pub push_name : Sheet → ℕ → Meaning → Scopes → Scopes
push_name s m d p =
    record {
      count = count_pushed p.env p.count;
      slot = when is_local s d then one_more p.slot else p.slot;
      fun = p.fun;
      next_global = when is_toplevel d then one_more p.next_global else p.next_global;
      env = words_pushed p.env p.count (tag_of d ∷ m ∷ first_of d ∷ second_of d p.next_global ∷ p.slot ∷ []);
    }

-- what row r declares in the innermost function
unfoldable pub new_meaning : Sheet → ℕ → Scopes → Meaning
new_meaning s r p = declared s r (current_function p)

-- the open scopes after an event; a scope that closes restores the slot and function of its mark
unfoldable pub step_scopes : Sheet → Event → Scopes → Scopes
step_scopes s (enter r) p = push_mark 1 r (when is s 6 r then r else p.fun) p
step_scopes s leave p =
    record {
      count = last_mark p.env p.count;
      slot = when eqb (last_mark p.env p.count) 0 then 0 else entry_word p.env (last_mark p.env p.count) 4;
      fun = when eqb (last_mark p.env p.count) 0 then 0 else entry_word p.env (last_mark p.env p.count) 2;
      next_global = p.next_global;
      env = p.env;
    }
step_scopes s loop p = push_mark 0 0 p.fun p
step_scopes s (declare r) p = push_name s (a s r) (new_meaning s r p) p
step_scopes s (bring r n d) p = push_name s n d p
step_scopes s (visit r) p = p

-- A node of a list. Of a capture: the row, function and slot of what is captured; of a field: its name; of a constructor call: its row
-- and class.
pub record Node : Type 0 where
  pub key : ℕ
  pub one : ℕ
  pub two : ℕ

-- node i as its three values
abbrev pub node_at : List ℕ → ℕ → Node
node_at q i = record { key = node_word q i 1; one = node_word q i 2; two = node_word q i 3 }

-- one more than the place of the node before node i in its list, or 0; never more than i, so that every list ends
abbrev pub previous : List ℕ → ℕ → ℕ
previous q i = min (node_word q i 0) i

-- the list whose last node stands at place p - 1, last first; n bounds the places
unfoldable pub chain_back : List ℕ → ℕ → ℕ → List Node
chain_back q zero p = []
chain_back q (suc n) p = when eqb p (suc n) then node_at q n ∷ chain_back q n (previous q n) else chain_back q n p

-- a list in the other order
unfoldable pub reversed : List Node → List Node
reversed [] = []
reversed (x ∷ xs) = reversed xs ++ x ∷ []

-- the list whose last node stands at place p - 1, in the order in which it was appended
unfoldable pub chain_to : List ℕ → ℕ → List Node
chain_to q p = reversed (chain_back q p p)

-- the list whose last node is told by word j of the table
unfoldable pub list_at : Store → ℕ → List Node
list_at o j = chain_to o.nodes (get_or o.table j 0)

-- is there a node with key k?
abbrev pub has_key : ℕ → List Node → Bool
has_key k xs = any (λ y. eqb y.key k) xs

-- the store with one node more in the list of word j of the table
abbrev pub appended : ℕ → Node → Store → Store
appended j x o =
    record {
      used = suc o.used;
      calls = o.calls;
      table = set o.table j (suc o.used);
      nodes = sets o.nodes (4 * o.used) (get_or o.table j 0 ∷ x.key ∷ x.one ∷ x.two ∷ []);
    }

-- the store with one constructor call more
abbrev pub appended_call : Node → Store → Store
appended_call x o =
    record {
      used = suc o.used;
      calls = suc o.used;
      table = o.table;
      nodes = sets o.nodes (4 * o.used) (o.calls ∷ x.key ∷ x.one ∷ x.two ∷ []);
    }

-- how many nodes fit a buffer and a word's count
abbrev pub node_room : List ℕ → ℕ
node_room q = min (length q / 4) 4294967295

-- a node appended to the list of word j of the table, if there is room
unfoldable pub append_node : ℕ → Node → Store → Store
append_node j x o = when ltb o.used (node_room o.nodes) then appended j x o else o

-- a constructor call appended, if there is room
unfoldable pub append_call : Node → Store → Store
append_call x o = when ltb o.used (node_room o.nodes) then appended_call x o else o

-- a node appended to the list of word j of the table, unless its key is in that list
unfoldable pub add_new : ℕ → Node → Store → Store
add_new j x o = when has_key x.key (list_at o j) then o else append_node j x o

-- a local or argument captured by the functions fs, innermost first, up to its own function or one that has captured it before
unfoldable pub add_capture : List ℕ → Node → Store → Store
add_capture [] x o = o
add_capture (g ∷ gs) x o = when eqb g x.one || has_key x.key (list_at o (8 * g + 6)) then o else add_capture gs x (append_node (8 * g + 6) x o)

-- four words: the given ones, then zeros
abbrev pub four_words : List ℕ → List ℕ
four_words vs = take 4 (vs ++ 0 ∷ 0 ∷ 0 ∷ 0 ∷ [])

-- the store with another table
abbrev pub with_table : List ℕ → Store → Store
with_table t o = record { used = o.used; calls = o.calls; table = t; nodes = o.nodes }

-- code and values of sheet row r written to the table
unfoldable pub write_row : ℕ → List ℕ → Store → Store
write_row r vs o = when ltb r (length o.table / 8) then with_table (sets o.table (8 * r) (four_words vs)) o else o

-- the same, unless it is row 0
abbrev pub write_row_at : ℕ → List ℕ → Store → Store
write_row_at r vs o = when eqb r 0 then o else write_row r vs o

-- the identifier of row r marked as hidden
unfoldable pub mark_hidden : ℕ → Store → Store
mark_hidden r o = with_table (set o.table (8 * r + 4) 1) o

-- the local count of function f raised to k, if it is less
unfoldable pub raise_locals : ℕ → ℕ → Store → Store
raise_locals f k o = with_table (set o.table (8 * f + 5) (max (cell o.table f 5) k)) o

-- does an event visit a row of kind k?
abbrev pub visits_kind : Sheet → ℕ → Event → Bool
visits_kind s k (enter r) = false
visits_kind s k leave = false
visits_kind s k loop = false
visits_kind s k (declare r) = false
visits_kind s k (bring r n d) = false
visits_kind s k (visit r) = is s k r

-- does an event declare a let?
abbrev pub declares_let : Sheet → Event → Bool
declares_let s (enter r) = false
declares_let s leave = false
declares_let s loop = false
declares_let s (declare r) = is s 29 r
declares_let s (bring r n d) = false
declares_let s (visit r) = false

-- the row that an event visits or declares, or 0
abbrev pub event_row : Event → ℕ
event_row (enter r) = 0
event_row leave = 0
event_row loop = 0
event_row (declare r) = r
event_row (bring r n d) = 0
event_row (visit r) = r

-- what the questions read of the open scopes
abbrev pub open_in : Sheet → Scopes → Open
open_in s p = record { means = lookup_meaning p; is_taken = λ m. taken_in p.env m p.count; is_looping = loop_in s p.env p.count }

-- the class that call r constructs, or 0
abbrev pub constructed_class : Sheet → ℕ → Scopes → ℕ
constructed_class s r p = constructed s r (open_in s p)

-- the class on which call r calls a method, or 0
abbrev pub receiver_class : Sheet → ℕ → Scopes → ℕ
receiver_class s r p = receiver s r (open_in s p)

-- an event's constructor call stored
unfoldable pub store_call : Sheet → Event → Scopes → Store → Store
store_call s e p o =
    when visits_kind s 59 e && not (eqb (constructed_class s (event_row e) p) 0) then append_call (record { key = event_row e; one = constructed_class s (event_row e) p; two = 0 }) o else o

-- does an event assign, in a function of a class, to a field that the class does not list?
abbrev pub new_field : Sheet → Event → Scopes → Bool
new_field s e p =
    visits_kind s 21 e && is s 54 (child s (event_row e)) && not (eqb (class_of s (current_function p)) 0)
    && not (a s (child s (event_row e)) ∈? map (a s) (kids_of s 10 (class_of s (current_function p))))

-- the node of a field's name
abbrev pub field_node : ℕ → Node
field_node n = record { key = n; one = 0; two = 0 }

-- an event's new field stored in the list of its class
unfoldable pub store_field : Sheet → Event → Scopes → Store → Store
store_field s e p o = when new_field s e p then add_new (8 * class_of s (current_function p) + 7) (field_node (a s (child s (event_row e)))) o else o

-- is d a local or argument of a function other than f?
abbrev pub is_outer_variable : Meaning → ℕ → Bool
is_outer_variable d f = is_variable d && not (eqb (owner_of d) f)

-- an event's captured local or argument stored in every function between its use and its own
unfoldable pub store_capture : Sheet → Event → Scopes → Store → Store
store_capture s e p o =
    when visits_kind s 50 e && is_outer_variable (lookup_meaning p (a s (event_row e))) (current_function p)
    then add_capture (open_functions s p)
    (record { key = row_of (lookup_meaning p (a s (event_row e))); one = owner_of (lookup_meaning p (a s (event_row e))); two = lookup_slot p (a s (event_row e)) })
    o
    else o

-- an event's new local counted in the innermost function
unfoldable pub store_local : Sheet → Event → Scopes → Store → Store
store_local s e p o =
    when declares_let s e && is_local s (new_meaning s (event_row e) p) then raise_locals (current_function p) (one_more p.slot) o else o

-- the base of an event's method call on a class marked as hidden
unfoldable pub store_hidden : Sheet → Event → Scopes → Store → Store
store_hidden s e p o =
    when visits_kind s 59 e && not (eqb (receiver_class s (event_row e) p) 0) then mark_hidden (child s (child s (event_row e))) o else o

-- the row whose code and values an event writes, or 0
abbrev pub written_row : Sheet → Event → Scopes → ℕ
written_row s e p =
    when declares_let s e || visits_kind s 50 e || visits_kind s 51 e || visits_kind s 52 e || visits_kind s 55 e then event_row e
    else when visits_kind s 30 e && is s 4 (a s (event_row e)) then a s (event_row e)
    else when visits_kind s 59 e && not (eqb (receiver_class s (event_row e) p) 0) then child s (event_row e)
    else 0

-- code and values of meaning d, seen from its own function, with slot k of a local and number g of a let of a unit
unfoldable pub code_of : Sheet → Meaning → ℕ → ℕ → List ℕ
code_of s nothing k g = 0 ∷ []
code_of s (function f) k g = 1 ∷ f ∷ []
code_of s (class c) k g = 2 ∷ c ∷ []
code_of s (global n m) k g = 3 ∷ n ∷ 0 ∷ bit (eqb m 1) ∷ []
code_of s (toplevel r) k g = 3 ∷ g ∷ 0 ∷ bit (eqb (b s r) 1) ∷ []
code_of s (variable r f) k g = when is s 11 r then 4 ∷ place (eqb r) (kids_of s 11 f) ∷ f ∷ [] else 5 ∷ k ∷ f ∷ bit (eqb (b s r) 1) ∷ []

-- code and values of meaning d, seen from function f: an index of a capture, if it belongs to another function
unfoldable pub seen_in : Sheet → Meaning → ℕ → ℕ → ℕ → Store → List ℕ
seen_in s d k g f o =
    when is_outer_variable d f
    then 6 ∷ place (λ y. eqb (row_of d) y.key) (list_at o (8 * f + 6)) ∷ 0 ∷ bit (is_mutable s d) ∷ []
    else code_of s d k g

-- what is stored of an identifier: n, how far out it is declared, takes the place of a captured one's second value, which is 0
unfoldable pub with_distance : ℕ → List ℕ → List ℕ
with_distance n vs = when eqb (get_or vs 0 0) 6 then get_or vs 0 0 ∷ get_or vs 1 0 ∷ n ∷ get_or vs 3 0 ∷ [] else vs

-- the code and values that an event writes: of a literal the function in which it stands, of a class its parent
abbrev pub written_words : Outside → Sheet → Event → Scopes → Store → List ℕ
written_words O s e p o =
    when declares_let s e then code_of s (new_meaning s (event_row e) p) p.slot p.next_global
    else when visits_kind s 50 e
    then with_distance (lookup_distance s p (a s (event_row e)))
    (seen_in s (lookup_meaning p (a s (event_row e))) (lookup_slot p (a s (event_row e))) (lookup_global p (a s (event_row e))) (current_function p) o)
    else when visits_kind s 51 e then (when eqb (current_function p) (b s 0) then 7 else 8) ∷ []
    else when visits_kind s 52 e then 1 ∷ current_function p ∷ []
    else when visits_kind s 55 e then 2 ∷ class_number (lookup_meaning p (a s (event_row e))) ∷ []
    else when visits_kind s 30 e then 2 ∷ class_number (lookup_meaning p (b s (a s (event_row e)))) ∷ []
    else 1 ∷ method_named (a s (child s (event_row e))) (own_methods O s (receiver_class s (event_row e) p)) ∷ []

-- an event's code and values written
unfoldable pub store_row : Outside → Sheet → Event → Scopes → Store → Store
store_row O s e p o = write_row_at (written_row s e p) (written_words O s e p o) o

-- the store after an event, with the scopes before it; captures come before the row that counts them
unfoldable pub step_store : Outside → Sheet → Event → Scopes → Store → Store
step_store O s e p o = store_row O s e p (store_hidden s e p (store_local s e p (store_capture s e p (store_field s e p (store_call s e p o)))))

-- the question on row r when it is visited
abbrev pub check_visit : Outside → Sheet → ℕ → Scopes → Refusal
check_visit O s r p = ask_visit O s r (open_in s p)

-- the question at an event
unfoldable pub check_event : Outside → Sheet → Event → Scopes → Refusal
check_event O s e p = ask_event O s e (open_in s p)

-- the state after an event: unchanged after a refusal; refused by its question; or stepped
unfoldable pub step_state : Outside → Sheet → Event → State → State
step_state O s e x =
    when not (eqb x.refusal.number 0) then x
    else when eqb (check_event O s e x.scopes).number 0
    then record { scopes = step_scopes s e x.scopes; store = step_store O s e x.scopes x.store; refusal = x.refusal }
    else record { scopes = x.scopes; store = x.store; refusal = check_event O s e x.scopes }

-- the state after a list of events
unfoldable pub run_state : Outside → Sheet → List Event → State → State
run_state O s [] x = x
run_state O s (e ∷ es) x = run_state O s es (step_state O s e x)

-- no scope open, and globals numbered from the starting count
abbrev pub no_scopes : Sheet → List ℕ → Scopes
no_scopes s v = record { count = 0; slot = 0; fun = 0; next_global = a s 0; env = v }

-- the names of a list declared, the first of them innermost
abbrev pub open_names : Sheet → List Named → Scopes → Scopes
open_names s [] p = p
open_names s (x ∷ xs) p = push_name s x.name x.means (open_names s xs p)

-- the state before the walk, on the buffers v of entries, t of the table and q of nodes
unfoldable pub start_state : Outside → Sheet → List ℕ → List ℕ → List ℕ → State
start_state O s v t q = record { scopes = open_names s O.names (no_scopes s v); store = record { used = 0; calls = 0; table = t; nodes = q }; refusal = none }
