-- The store agrees with the definition's history.
use mathlib.Core.Path.{◌≡◌, refl, sym, ap, ◌∙◌, subst}
use mathlib.Core.List.{List, [], ◌∷◌, ◌++◌, map}
use mathlib.Core.Bool.{Bool, true, false, not, ◌&&◌}
use Prim.Native.Nat.{ℕ, ◌+◌, ◌*◌, ◌/◌, ◌<◌, ◌≤◌, min}
use native.Mathlib.Omega.{arith}
use lib.ListN.{length, get_or}
use lib.Dec.{eqb, leb, ltb}
use Rattle.definition.specs.Basics.{when◌then◌else◌, filter, final, distinct, bit, ◌∈?◌}
use Rattle.definition.specs.Sheet.{Sheet, kind, is, a, child}
use Rattle.definition.specs.Outside.{Outside}
use Rattle.definition.specs.Walk.{Event}
use Rattle.definition.specs.Scope.{Stack, Moment, around, inside, declares}
use Rattle.definition.specs.Slots.{is_local, local_count}
use Rattle.definition.specs.Capture.{captures}
use Rattle.definition.specs.Classes.{class_of, registered}
use Rattle.machine.specs.Machine.{node_room, cell, Node, chain_to, Store, list_at, Scopes, open_functions}
use Rattle.machine.specs.Machine.{current_function, lookup_meaning, lookup_global, new_meaning, appended_call}
use Rattle.machine.specs.Machine.{append_call, add_new, add_capture, with_table, write_row, mark_hidden, raise_locals}
use Rattle.machine.specs.Machine.{visits_kind, declares_let, event_row, constructed_class, receiver_class, new_field}
use Rattle.machine.specs.Machine.{field_node, is_outer_variable, written_row, store_call, store_field, store_capture}
use Rattle.machine.specs.Machine.{store_local, store_hidden, store_row, step_store}
use Rattle.machine.specs.Reads.{call_node, calls_of, listed_fields, row_words}
use Rattle.machine.proofs.Nodes.{Extends, extends_trans, add_new_calls, add_new_low, add_new_used, add_capture_calls, add_capture_low, add_capture_used, list_kept}
use Rattle.machine.proofs.ScopesAgree.{ScopesAgree, functions_is}
use Rattle.machine.proofs.Stacks.{WellFormed}
use Rattle.machine.proofs.Captures.{node_of, Outward}
use Rattle.machine.proofs.Columns.{Unchanged, store_call_unchanged, store_field_unchanged, store_capture_unchanged, store_local_unchanged, store_hidden_unchanged, store_row_unchanged}
use Rattle.machine.proofs.StoreParts.{visits_kind_is, node_cost, nodes_needed, needed_snoc, capture_part, local_part, is_hidden, hidden_part, call_part, field_part}
use Rattle.machine.proofs.Globals.{Known}
use Rattle.machine.proofs.RowWords.{row_written, WrittenBy, row_part}

pub record StoreAgrees (O : Outside) (s : Sheet) (h : List Moment) (o : Store) : Type 0 where
  pub captures_is : (f : ℕ) → f < length o.table / 8 → list_at o (8 * f + 6) ≡ map node_of (captures s h f)
  pub captures_low : (f : ℕ) → cell o.table f 6 ≤ o.used
  pub fields_is : (c : ℕ) → c < length o.table / 8 → (c ≡ 0 → ⊥)
      → distinct eqb (listed_fields s c ++ registered s h c) ≡ distinct eqb (listed_fields s c) ++ map (λ y. y.key) (list_at o (8 * c + 7))
  pub fields_low : (c : ℕ) → cell o.table c 7 ≤ o.used
  pub calls_is : chain_to o.nodes o.calls ≡ map (call_node s) (calls_of s h)
  pub calls_low : o.calls ≤ o.used
  pub locals_is : (f : ℕ) → f < length o.table / 8 → cell o.table f 5 ≡ local_count s h f
  pub hidden_is : (r : ℕ) → r < length o.table / 8 → cell o.table r 4 ≡ bit (is_hidden s h r)
  pub words_is : (r : ℕ) → r < length o.table / 8 → (r ≡ 0 → ⊥)
      → WrittenBy O s h (row_words o.table r) (final (filter (λ m. eqb (row_written s m.event m.stack) r) h))
  pub used_le : o.used ≤ nodes_needed s h

-- Bounds on the nodes, and the calls, part by part.
module _ (s : Sheet) (e : Event) (p : Scopes) (o : Store) where
  call_used : o.used + (when visits_kind s 59 e then 1 else 0) ≤ node_room o.nodes → (store_call s e p o).used ≤ o.used + (when visits_kind s 59 e then 1 else 0)
  unfolding store_call append_call
  call_used room = go (visits_kind s 59 e) (not (eqb (constructed_class s (event_row e) p) 0)) (ltb o.used (node_room o.nodes))
    where
      go : (t u v : Bool)
          → (when t && u
          then (when v then appended_call (record { key = event_row e; one = constructed_class s (event_row e) p; two = 0 }) o
          else o)
          else o).used
          ≤ o.used + (when t then 1 else 0)
      go true true true = omega arith
      go true true false = omega arith
      go true false v = omega arith
      go false u v = omega arith

  call_low : o.calls ≤ o.used → (store_call s e p o).calls ≤ (store_call s e p o).used
  unfolding store_call append_call
  call_low l = go (visits_kind s 59 e && not (eqb (constructed_class s (event_row e) p) 0)) (ltb o.used (node_room o.nodes))
    where
      go : (t v : Bool) → (when t then (when v then appended_call (record { key = event_row e; one = constructed_class s (event_row e) p; two = 0 }) o else o) else o).calls
          ≤ (when t then (when v then appended_call (record { key = event_row e; one = constructed_class s (event_row e) p; two = 0 }) o else o) else o).used
      go true true = omega arith
      go true false = l
      go false v = l

  field_used : o.used + (when visits_kind s 21 e then 1 else 0) ≤ node_room o.nodes → (store_field s e p o).used ≤ o.used + (when visits_kind s 21 e then 1 else 0)
  unfolding store_field
  field_used room = go (visits_kind s 21 e) (is s 54 (child s (event_row e))) (not (eqb (class_of s (current_function p)) 0)) _ room
    where
      go : (t u v w : Bool) → o.used + (when t then 1 else 0) ≤ node_room o.nodes
          → (when t && u && v && w then add_new (8 * class_of s (current_function p) + 7) (field_node (a s (child s (event_row e)))) o else o).used ≤ o.used + (when t then 1 else 0)
      go true true true true r = omega (arith, add_new_used (8 * class_of s (current_function p) + 7) (field_node (a s (child s (event_row e)))) o (omega arith))
      go true true true false r = omega arith
      go true true false w r = omega arith
      go true false v w r = omega arith
      go false u v w r = omega arith

  field_calls : (store_field s e p o).calls ≡ o.calls
  unfolding store_field
  field_calls = go (new_field s e p)
    where
      go : (t : Bool) → (when t then add_new (8 * class_of s (current_function p) + 7) (field_node (a s (child s (event_row e)))) o else o).calls ≡ o.calls
      go true = add_new_calls (8 * class_of s (current_function p) + 7) (field_node (a s (child s (event_row e)))) o
      go false = refl

  field_low : (i : ℕ) → get_or o.table i 0 ≤ o.used → get_or (store_field s e p o).table i 0 ≤ (store_field s e p o).used
  unfolding store_field
  field_low i l = go (new_field s e p)
    where
      go : (t : Bool) → get_or (when t then add_new (8 * class_of s (current_function p) + 7) (field_node (a s (child s (event_row e)))) o else o).table i 0
          ≤ (when t then add_new (8 * class_of s (current_function p) + 7) (field_node (a s (child s (event_row e)))) o else o).used
      go true = add_new_low (8 * class_of s (current_function p) + 7) (field_node (a s (child s (event_row e)))) o i l
      go false = l

  capture_used : o.used + (when visits_kind s 50 e then length (open_functions s p) else 0) ≤ node_room o.nodes
      → (store_capture s e p o).used ≤ o.used + (when visits_kind s 50 e then length (open_functions s p) else 0)
  unfolding store_capture
  capture_used room = go (visits_kind s 50 e) (is_outer_variable (lookup_meaning p (a s (event_row e))) (current_function p)) _ room
    where
      go : (t u : Bool) (x : Node) → o.used + (when t then length (open_functions s p) else 0) ≤ node_room o.nodes
          → (when t && u then add_capture (open_functions s p) x o else o).used ≤ o.used + (when t then length (open_functions s p) else 0)
      go true true x r = add_capture_used (open_functions s p) x o r
      go true false x r = omega arith
      go false u x r = omega arith

  capture_calls : (store_capture s e p o).calls ≡ o.calls
  unfolding store_capture
  capture_calls = go (visits_kind s 50 e && is_outer_variable (lookup_meaning p (a s (event_row e))) (current_function p)) _
    where
      go : (t : Bool) (x : Node) → (when t then add_capture (open_functions s p) x o else o).calls ≡ o.calls
      go true x = add_capture_calls (open_functions s p) x o
      go false x = refl

  capture_low : (i : ℕ) → get_or o.table i 0 ≤ o.used → get_or (store_capture s e p o).table i 0 ≤ (store_capture s e p o).used
  unfolding store_capture
  capture_low i l = go (visits_kind s 50 e && is_outer_variable (lookup_meaning p (a s (event_row e))) (current_function p)) _
    where
      go : (t : Bool) (x : Node) → get_or (when t then add_capture (open_functions s p) x o else o).table i 0 ≤ (when t then add_capture (open_functions s p) x o else o).used
      go true x = add_capture_low (open_functions s p) x o i l
      go false x = l

-- a step that changes only words of the table
record Same (o o' : Store) : Type 0 where
  used_is : o'.used ≡ o.used
  calls_is : o'.calls ≡ o.calls
  nodes_is : o'.nodes ≡ o.nodes

same_if : (t : Bool) (o : Store) (w : List ℕ) → Same o (when t then with_table w o else o)
same_if true o w = record { used_is = refl; calls_is = refl; nodes_is = refl }
same_if false o w = record { used_is = refl; calls_is = refl; nodes_is = refl }

local_same : (s : Sheet) (e : Event) (p : Scopes) (o : Store) → Same o (store_local s e p o)
unfolding store_local raise_locals
local_same s e p o = same_if (declares_let s e && is_local s (new_meaning s (event_row e) p)) o _

hidden_same : (s : Sheet) (e : Event) (p : Scopes) (o : Store) → Same o (store_hidden s e p o)
unfolding store_hidden mark_hidden
hidden_same s e p o = same_if (visits_kind s 59 e && not (eqb (receiver_class s (event_row e) p) 0)) o _

row_same : (O : Outside) (s : Sheet) (e : Event) (p : Scopes) (o : Store) → Same o (store_row O s e p o)
unfolding store_row write_row
row_same O s e p o = go (eqb (written_row s e p) 0) _
  where
    go : (t : Bool) (w : List ℕ) → Same o (when t then o else (when ltb (written_row s e p) (length o.table / 8) then with_table w o else o))
    go true w = record { used_is = refl; calls_is = refl; nodes_is = refl }
    go false w = same_if (ltb (written_row s e p) (length o.table / 8)) o w

-- unchanged words of lists are at most the number of nodes in use
low_on : {sp : ℕ → Bool} {o o' : Store} → Unchanged sp o o' → (r d : ℕ) → d < 8 → sp d ≡ true → cell o.table r d ≤ o.used → cell o'.table r d ≤ o'.used
low_on g r d l e h = omega (arith, g.words r d l e, g.grows.used_le)

-- the table has as many rows as before
rows_on : {o o' : Store} → Extends o o' → (f : ℕ) → f < length o'.table / 8 → f < length o.table / 8
rows_on g f l = omega (arith, ap (λ (j : ℕ). j / 8) g.table_length)

-- the parts of a step put together; o₁ to o₆ are the stores after each
assemble : (O : Outside) (s : Sheet) (h h' : List Moment) (i : ℕ) (o o₁ o₂ o₃ o₄ o₅ o₆ : Store)
    → Unchanged (λ d. true) o o₁ → Unchanged (λ d. not (eqb d 7)) o₁ o₂ → Unchanged (λ d. not (eqb d 6)) o₂ o₃
    → Unchanged (λ d. not (eqb d 5)) o₃ o₄ → Unchanged (λ d. not (eqb d 4)) o₄ o₅ → Unchanged (λ d. leb 4 d) o₅ o₆
    → chain_to o₁.nodes o₁.calls ≡ map (call_node s) (calls_of s h') → o₁.calls ≤ o₁.used → o₆.calls ≡ o₁.calls
    → ((c : ℕ) → c < length o₁.table / 8 → (c ≡ 0 → ⊥) → cell o₁.table c 7 ≤ o₁.used
    → distinct eqb (listed_fields s c ++ registered s h c) ≡ distinct eqb (listed_fields s c) ++ map (λ y. y.key) (list_at o₁ (8 * c + 7))
    → distinct eqb (listed_fields s c ++ registered s h' c) ≡ distinct eqb (listed_fields s c) ++ map (λ y. y.key) (list_at o₂ (8 * c + 7)))
    → ((c : ℕ) → cell o₁.table c 7 ≤ o₁.used → cell o₂.table c 7 ≤ o₂.used)
    → ((f : ℕ) → f < length o₂.table / 8 → ((g : ℕ) → cell o₂.table g 6 ≤ o₂.used) → ((g : ℕ) → g < length o₂.table / 8 → list_at o₂ (8 * g + 6) ≡ map node_of (captures s h g))
    → list_at o₃ (8 * f + 6) ≡ map node_of (captures s h' f))
    → ((f : ℕ) → cell o₂.table f 6 ≤ o₂.used → cell o₃.table f 6 ≤ o₃.used)
    → ((f : ℕ) → f < length o₃.table / 8 → cell o₃.table f 5 ≡ local_count s h f → cell o₄.table f 5 ≡ local_count s h' f)
    → ((r : ℕ) → r < length o₄.table / 8 → cell o₄.table r 4 ≡ bit (is_hidden s h r) → cell o₅.table r 4 ≡ bit (is_hidden s h' r))
    → ((r : ℕ) → r < length o₅.table / 8 → (r ≡ 0 → ⊥) → list_at o₅ (8 * i + 6) ≡ map node_of (captures s h' i)
    → WrittenBy O s h (row_words o₅.table r) (final (filter (λ m. eqb (row_written s m.event m.stack) r) h))
    → WrittenBy O s h' (row_words o₆.table r) (final (filter (λ m. eqb (row_written s m.event m.stack) r) h')))
    → o₆.used ≤ nodes_needed s h' → i < length o.table / 8
    → StoreAgrees O s h o → StoreAgrees O s h' o₆
unfolding row_words
assemble O s h h' i o o₁ o₂ o₃ o₄ o₅ o₆ s₁ s₂ s₃ s₄ s₅ s₆ calls low₁ same fields low₂ caps low₃ locals hidden told used within_table k =
    record {
      captures_is = λ f l. list_kept o₃ o₆ (8 * f + 6) g₃₆ (w₃₆ f) (l₃ f) ∙ caps₃ f (rows_on g₃₆ f l);
      captures_low = λ f. low_on s₆ f 6 (omega arith) refl (low_on s₅ f 6 (omega arith) refl (low_on s₄ f 6 (omega arith) refl (l₃ f)));
      fields_is = λ c l nz.
          fields c (rows_on (extends_trans s₂.grows g₂₆) c l) nz (m₁ c)
          (k.fields_is c (rows_on g₆ c l) nz
          ∙ ap (λ (r : List Node). distinct eqb (listed_fields s c) ++ map (λ y. y.key) r) (sym (list_kept o o₁ (8 * c + 7) s₁.grows (s₁.words c 7 (omega arith) refl) (k.fields_low c))))
          ∙ ap (λ (r : List Node). distinct eqb (listed_fields s c) ++ map (λ y. y.key) r) (sym (list_kept o₂ o₆ (8 * c + 7) g₂₆ (v₂₆ c) (low₂ c (m₁ c))));
      fields_low = λ c. low_on s₆ c 7 (omega arith) refl (low_on s₅ c 7 (omega arith) refl (low_on s₄ c 7 (omega arith) refl (low_on s₃ c 7 (omega arith) refl (low₂ c (m₁ c)))));
      calls_is = ap (chain_to o₆.nodes) same ∙ g₁₆.kept o₁.calls low₁ ∙ calls;
      calls_low = omega (arith, g₁₆.used_le);
      locals_is = λ f l.
          s₆.words f 5 (omega arith) refl ∙ s₅.words f 5 (omega arith) refl
          ∙ locals f (rows_on g₃₆ f l)
          (s₃.words f 5 (omega arith) refl ∙ s₂.words f 5 (omega arith) refl ∙ s₁.words f 5 (omega arith) refl ∙ k.locals_is f (rows_on g₆ f l));
      hidden_is = λ r l.
          s₆.words r 4 (omega arith) refl
          ∙ hidden r (rows_on (extends_trans s₅.grows s₆.grows) r l)
          (s₄.words r 4 (omega arith) refl ∙ s₃.words r 4 (omega arith) refl ∙ s₂.words r 4 (omega arith) refl ∙ s₁.words r 4 (omega arith) refl ∙ k.hidden_is r (rows_on g₆ r l));
      words_is = λ r l nz.
          told r (rows_on s₆.grows r l) nz
          (list_kept o₃ o₅ (8 * i + 6) (extends_trans s₄.grows s₅.grows)
          (s₅.words i 6 (omega arith) refl ∙ s₄.words i 6 (omega arith) refl) (l₃ i)
          ∙ caps₃ i (omega (arith, within_table, ap (λ (j : ℕ). j / 8) g₃.table_length)))
          (subst (λ (ws : List ℕ). WrittenBy O s h ws (final (filter (λ m. eqb (row_written s m.event m.stack) r) h))) (sym (w4 r)) (k.words_is r (rows_on g₆ r l) nz));
      used_le = used;
    }
  where
    g₂ : Extends o o₂
    g₂ = extends_trans s₁.grows s₂.grows

    g₃ : Extends o o₃
    g₃ = extends_trans g₂ s₃.grows

    g₃₆ : Extends o₃ o₆
    g₃₆ = extends_trans s₄.grows (extends_trans s₅.grows s₆.grows)

    g₂₆ : Extends o₂ o₆
    g₂₆ = extends_trans s₃.grows g₃₆

    g₁₆ : Extends o₁ o₆
    g₁₆ = extends_trans s₂.grows g₂₆

    g₆ : Extends o o₆
    g₆ = extends_trans s₁.grows g₁₆

    l₂ : (f : ℕ) → cell o₂.table f 6 ≤ o₂.used
    l₂ f = low_on s₂ f 6 (omega arith) refl (low_on s₁ f 6 (omega arith) refl (k.captures_low f))

    l₃ : (f : ℕ) → cell o₃.table f 6 ≤ o₃.used
    l₃ f = low₃ f (l₂ f)

    m₁ : (c : ℕ) → cell o₁.table c 7 ≤ o₁.used
    m₁ c = low_on s₁ c 7 (omega arith) refl (k.fields_low c)

    w₃₆ : (f : ℕ) → cell o₆.table f 6 ≡ cell o₃.table f 6
    w₃₆ f = s₆.words f 6 (omega arith) refl ∙ s₅.words f 6 (omega arith) refl ∙ s₄.words f 6 (omega arith) refl

    v₂₆ : (c : ℕ) → cell o₆.table c 7 ≡ cell o₂.table c 7
    v₂₆ c = s₆.words c 7 (omega arith) refl ∙ s₅.words c 7 (omega arith) refl ∙ s₄.words c 7 (omega arith) refl ∙ s₃.words c 7 (omega arith) refl

    caps₃ : (f : ℕ) → f < length o₃.table / 8 → list_at o₃ (8 * f + 6) ≡ map node_of (captures s h' f)
    caps₃ f l =
        caps f (rows_on s₃.grows f l) l₂
        (λ g m. list_kept o o₂ (8 * g + 6) g₂ (s₂.words g 6 (omega arith) refl ∙ s₁.words g 6 (omega arith) refl) (k.captures_low g) ∙ k.captures_is g (rows_on g₂ g m))

    w5 : (r d : ℕ) → d < 8 → not (eqb d 7) ≡ true → not (eqb d 6) ≡ true → not (eqb d 5) ≡ true → not (eqb d 4) ≡ true → cell o₅.table r d ≡ cell o.table r d
    w5 r d l e₇ e₆ e₅ e₄ = s₅.words r d l e₄ ∙ s₄.words r d l e₅ ∙ s₃.words r d l e₆ ∙ s₂.words r d l e₇ ∙ s₁.words r d l refl

    w4 : (r : ℕ) → row_words o₅.table r ≡ row_words o.table r
    w4 r = rw (w5 r 0 (omega arith) refl refl refl refl, w5 r 1 (omega arith) refl refl refl refl, w5 r 2 (omega arith) refl refl refl refl, w5 r 3 (omega arith) refl refl refl refl)

-- the cost of an event, by what it visits
node_cost_is : (s : Sheet) → kind s 0 ≡ 0 → (e : Event) (z : Stack)
    → node_cost s (record { event = e; stack = z }) ≡ (when visits_kind s 59 e then 1 else 0) + (when visits_kind s 21 e then 1 else 0) + (when visits_kind s 50 e then length (around s z) else 0)
node_cost_is s hd e z = rw (visits_kind_is s hd 59 refl e, visits_kind_is s hd 21 refl e, visits_kind_is s hd 50 refl e)

-- the store after one event more
pub store_step : (O : Outside) (s : Sheet) → kind s 0 ≡ 0 → (h : List Moment) (z : Stack) (p : Scopes) → ScopesAgree s z p → WellFormed s z → (e : Event) (o : Store)
    → (declares_let s e ≡ true → Known s (h ++ record { event = e; stack = z } ∷ []) p.next_global (new_meaning s (declares e) p))
    → ((m : ℕ) → Known s (h ++ record { event = e; stack = z } ∷ []) (lookup_global p m) (lookup_meaning p m))
    → p.slot < 4294967295 → nodes_needed s (h ++ record { event = e; stack = z } ∷ []) ≤ node_room o.nodes → inside s z < length o.table / 8
    → ((g : ℕ) → (g ∈? around s z) ≡ true → g < length o.table / 8) → Outward s h (record { event = e; stack = z })
    → StoreAgrees O s h o → StoreAgrees O s (h ++ record { event = e; stack = z } ∷ []) (step_store O s e p o)
unfolding step_store
store_step O s hd h z p op snd e o kl ku few room within_table rows out k =
    assemble O s h (h ++ record { event = e; stack = z } ∷ []) (inside s z) o o₁ o₂ o₃ o₄ o₅ o₆
    (store_call_unchanged O s e p o) (store_field_unchanged O s e p o₁) (store_capture_unchanged O s e p o₂)
    (store_local_unchanged O s e p o₃) (store_hidden_unchanged O s e p o₄) (store_row_unchanged O s e p o₅)
    (call_part O s hd h z p op e o r₁ k.calls_low k.calls_is) (call_low s e p o k.calls_low)
    ((row_same O s e p o₅).calls_is ∙ (hidden_same s e p o₄).calls_is ∙ (local_same s e p o₃).calls_is ∙ capture_calls s e p o₂ ∙ field_calls s e p o₁)
    (λ c l nz lo i. field_part O s hd h z p op e o₁ c r₂ l nz lo i) (λ c l. field_low s e p o₁ (8 * c + 7) l)
    (λ f l lo i. capture_part O s hd h z p op snd e out o₂ f r₃ l (λ g m. omega (arith, rows g m, ap (λ (j : ℕ). j / 8) g₂.table_length)) lo i) (λ f l. capture_low s e p o₂ (8 * f + 6) l)
    (λ f l i. local_part O s hd h z p op few e o₃ f l i) (λ r l i. hidden_part O s hd h z p op e o₄ r l i)
    (λ r l nz i t. row_part O s h z p op snd e o₅ r kl ku l nz i t)
    u₆ within_table k
  where
    o₁ : Store
    o₁ = store_call s e p o

    o₂ : Store
    o₂ = store_field s e p o₁

    o₃ : Store
    o₃ = store_capture s e p o₂

    o₄ : Store
    o₄ = store_local s e p o₃

    o₅ : Store
    o₅ = store_hidden s e p o₄

    o₆ : Store
    o₆ = store_row O s e p o₅

    g₂ : Extends o o₂
    g₂ = extends_trans (store_call_unchanged O s e p o).grows (store_field_unchanged O s e p o₁).grows

    all : nodes_needed s h
        + ((when visits_kind s 59 e then 1 else 0) + (when visits_kind s 21 e then 1 else 0)
        + (when visits_kind s 50 e then length (around s z) else 0))
        ≡ nodes_needed s (h ++ record { event = e; stack = z } ∷ [])
    all = ap (λ (c : ℕ). nodes_needed s h + c) (sym (node_cost_is s hd e z)) ∙ sym (needed_snoc s h (record { event = e; stack = z }))

    r₁ : o.used + (when visits_kind s 59 e then 1 else 0) ≤ node_room o.nodes
    r₁ = omega (arith, all, k.used_le, room)

    u₁ : o₁.used ≤ o.used + (when visits_kind s 59 e then 1 else 0)
    u₁ = call_used s e p o r₁

    n₁ : node_room o.nodes ≡ node_room o₁.nodes
    n₁ = ap (λ (j : ℕ). min (j / 4) 4294967295) (sym (store_call_unchanged O s e p o).grows.nodes_length)

    r₂ : o₁.used + (when visits_kind s 21 e then 1 else 0) ≤ node_room o₁.nodes
    r₂ = omega (arith, all, k.used_le, room, u₁, n₁)

    u₂ : o₂.used ≤ o₁.used + (when visits_kind s 21 e then 1 else 0)
    u₂ = field_used s e p o₁ r₂

    n₂ : node_room o₁.nodes ≡ node_room o₂.nodes
    n₂ = ap (λ (j : ℕ). min (j / 4) 4294967295) (sym (store_field_unchanged O s e p o₁).grows.nodes_length)

    r₃ : o₂.used + (when visits_kind s 50 e then length (around s z) else 0) ≤ node_room o₂.nodes
    r₃ = omega (arith, all, k.used_le, room, u₁, n₁, u₂, n₂)

    fu : length (open_functions s p) ≡ length (around s z)
    fu = ap length (sym (functions_is s z p op))

    u₃ : o₃.used ≤ o₂.used + (when visits_kind s 50 e then length (around s z) else 0)
    u₃ = subst (λ (n : ℕ). o₃.used ≤ o₂.used + (when visits_kind s 50 e then n else 0)) fu
        (capture_used s e p o₂ (subst (λ (n : ℕ). o₂.used + (when visits_kind s 50 e then n else 0) ≤ node_room o₂.nodes) (sym fu) r₃))

    u₆ : o₆.used ≤ nodes_needed s (h ++ record { event = e; stack = z } ∷ [])
    u₆ = omega (arith, all, k.used_le, u₁, u₂, u₃, (row_same O s e p o₅).used_is, (hidden_same s e p o₄).used_is, (local_same s e p o₃).used_is)
