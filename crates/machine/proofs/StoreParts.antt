-- Each part of a step of the store keeps its column in agreement with the definition's history.
use mathlib.Core.Path.{◌≡◌, refl, sym, ap, ◌∙◌}
use mathlib.Core.List.{List, [], ◌∷◌, ◌++◌, map, append-nil, append_assoc}
use mathlib.Core.Bool.{Bool, true, false, not, ◌||◌, ◌&&◌, true≢false}
use Prim.Native.Nat.{ℕ, suc, ◌+◌, ◌*◌, ◌/◌, ◌<◌, ◌≤◌, max}
use native.Mathlib.Omega.{arith}
use lib.ListN.{length, get_or, set}
use lib.Seq.{get_or-set_same, get_or-set_other}
use lib.Dec.{eqb}
use borrow.Author.Tests.{ne_eqb, eqb-true, eqb-false}
use Rattle.definition.specs.Basics.{when◌then◌else◌, filter, any, distinct, largest, bit, ◌∈?◌, head}
use Rattle.definition.specs.Sheet.{Sheet, kind, is, a, child}
use Rattle.definition.specs.Outside.{Outside}
use Rattle.definition.specs.Meaning.{is_variable, row_of, owner_of}
use Rattle.definition.specs.Walk.{Event, enter, leave, loop, declare, bring, visit}
use Rattle.definition.specs.Scope.{Stack, Moment, lookup, around, inside, within, visited, declares, visits, declarings, declaration}
use Rattle.definition.specs.Slots.{is_local, open_locals, local_count}
use Rattle.definition.specs.Capture.{Use, use_at, beyond, same, captures}
use Rattle.definition.specs.Classes.{class_of, registered}
use Rattle.definition.specs.Question.{open_on, constructed, receiver}
use Rattle.definition.specs.Answer.{class_calls}
use Rattle.definition.proofs.Lists.Tests.{and_both, T_true, true_of}
use Rattle.definition.proofs.Lists.Members.{map_append}
use Rattle.machine.specs.Machine.{node_room, cell, Node, chain_to, Store, list_at, Scopes, current_function}
use Rattle.machine.specs.Machine.{new_meaning, has_key, append_call, add_new, add_capture, mark_hidden, raise_locals}
use Rattle.machine.specs.Machine.{visits_kind, declares_let, constructed_class, receiver_class, new_field, field_node}
use Rattle.machine.specs.Machine.{store_call, store_field, store_capture, store_local, store_hidden}
use Rattle.machine.specs.Reads.{call_node, calls_of, listed_fields}
use Rattle.machine.proofs.Nodes.{add_key, is_before, call_list, add_new_list, add_new_word, add_new_extends, list_kept}
use Rattle.machine.proofs.Lists.{only, any_append, any_map, distinct_key, any_distinct, filter2_snoc, largest_snoc, eqb_same}
use Rattle.machine.proofs.ScopesAgree.{ScopesAgree, lookup_is, functions_is, current_is, new_meaning_is, one_more_is}
use Rattle.machine.proofs.Questions.{slot_found, constructed_is, receiver_is}
use Rattle.machine.proofs.Stacks.{Distinct, WellFormed, beyond_early, owned_find}
use Rattle.machine.proofs.CaptureLists.{HasFurther, add_capture_list}
use Rattle.machine.proofs.Captures.{node_of, Outward, keys_snoc}

-- a visit, where row 0 is the header
pub visits_kind_is : (s : Sheet) → kind s 0 ≡ 0 → (k : ℕ) → eqb 0 k ≡ false → (e : Event) → is s k (visited e) ≡ visits_kind s k e
visits_kind_is s hd k n (enter r) = ap (λ (j : ℕ). eqb j k) hd ∙ n
visits_kind_is s hd k n leave = ap (λ (j : ℕ). eqb j k) hd ∙ n
visits_kind_is s hd k n loop = ap (λ (j : ℕ). eqb j k) hd ∙ n
visits_kind_is s hd k n (declare r) = ap (λ (j : ℕ). eqb j k) hd ∙ n
visits_kind_is s hd k n (bring r m d) = ap (λ (j : ℕ). eqb j k) hd ∙ n
visits_kind_is s hd k n (visit r) = refl

pub declares_let_is : (s : Sheet) → kind s 0 ≡ 0 → (e : Event) → is s 29 (declares e) ≡ declares_let s e
declares_let_is s hd (enter r) = ap (λ (j : ℕ). eqb j 29) hd
declares_let_is s hd leave = ap (λ (j : ℕ). eqb j 29) hd
declares_let_is s hd loop = ap (λ (j : ℕ). eqb j 29) hd
declares_let_is s hd (declare r) = refl
declares_let_is s hd (bring r m d) = ap (λ (j : ℕ). eqb j 29) hd
declares_let_is s hd (visit r) = ap (λ (j : ℕ). eqb j 29) hd

-- How many nodes a moment can need: one for a call and an assignment, and for an identifier one for each function around it.
abbrev pub node_cost : Sheet → Moment → ℕ
node_cost s m =
    (when is s 59 (visited m.event) then 1 else 0) + (when is s 21 (visited m.event) then 1 else 0)
    + (when is s 50 (visited m.event) then length (around s m.stack) else 0)

abbrev pub nodes_needed : Sheet → List Moment → ℕ
nodes_needed s [] = 0
nodes_needed s (m ∷ ms) = node_cost s m + nodes_needed s ms

pub needed_snoc : (s : Sheet) (h : List Moment) (m : Moment) → nodes_needed s (h ++ m ∷ []) ≡ nodes_needed s h + node_cost s m
needed_snoc s [] m = omega arith
needed_snoc s (x ∷ h) m = omega (arith, needed_snoc s h m)

-- Captures.

-- a variable of the innermost function is captured by none, so its captures need no search
own_skipped : (t u : Bool) (fs : List ℕ) (x : Node) (o : Store)
    → (when t && (u && not (eqb x.one (head fs))) then add_capture fs x o else o) ≡ (when t && u then add_capture fs x o else o)
unfolding add_capture
own_skipped false u fs x o = refl
own_skipped true false fs x o = refl
own_skipped true true [] x o = go (not (eqb x.one 0))
  where
    go : (v : Bool) → (when v then o else o) ≡ o
    go true = refl
    go false = refl
own_skipped true true (g ∷ gs) x o = go (eqb x.one g) (eqb_same g x.one)
  where
    go : (v : Bool) → eqb g x.one ≡ v → (when not v then add_capture (g ∷ gs) x o else o) ≡ add_capture (g ∷ gs) x o
    go true e = rw e
    go false e = refl

part_list : (t : Bool) (fs : List ℕ) (x : Node) (o : Store) (f : ℕ) → Distinct fs → (t ≡ true → o.used + length fs ≤ node_room o.nodes) → f < length o.table / 8
    → ((g : ℕ) → get_or o.table (8 * g + 6) 0 ≤ o.used) → (t ≡ true → HasFurther fs x o f)
    → list_at (when t then add_capture fs x o else o) (8 * f + 6)
    ≡ (when t then (when is_before x.one fs f then add_key x (list_at o (8 * f + 6)) else list_at o (8 * f + 6)) else list_at o (8 * f + 6))
part_list true fs x o f d room h low k = add_capture_list fs x o f d (room refl) h low (k refl)
part_list false fs x o f d room h low k = refl

and_left : (x y : Bool) → (x && y) ≡ true → x ≡ true
and_left true y e = refl
and_left false y e = e

and_then : (x y : Bool) → (x && y) ≡ true → y ≡ true
and_then true y e = e
and_then false y e = absurd (true≢false (sym e))

if_add : (x y : Bool) (u n k : ℕ) → u + (when x then n else 0) ≤ k → (x && y) ≡ true → u + n ≤ k
if_add true y u n k h e = h
if_add false y u n k h e = absurd (true≢false (sym e))

module _ (O : Outside) (s : Sheet) (hd : kind s 0 ≡ 0) (h : List Moment) (z : Stack) (p : Scopes) (op : ScopesAgree s z p) (snd : WellFormed s z) where
  captures_same : (e : Event) → visits_kind s 50 e ≡ false → (f : ℕ) → map node_of (captures s (h ++ record { event = e; stack = z } ∷ []) f) ≡ map node_of (captures s h f)
  captures_same e v f = keys_snoc s h (record { event = e; stack = z }) snd f ∙ rw (visits_kind_is s hd 50 refl e ∙ v)

  -- the lists of the functions around an identifier
  lists_further : (r : ℕ) → Outward s h (record { event = visit r; stack = z }) → (is s 50 r && is_variable (lookup (a s r) z)) ≡ true → (o : Store) (f : ℕ) → f < length o.table / 8
      → ((g : ℕ) → (g ∈? around s z) ≡ true → g < length o.table / 8)
      → ((g : ℕ) → g < length o.table / 8 → list_at o (8 * g + 6) ≡ map node_of (captures s h g))
      → HasFurther (around s z) (node_of (use_at s (record { event = visit r; stack = z }))) o f
  lists_further r out t o f l rows lists g i b e q =
      let u : Use = use_at s (record { event = visit r; stack = z }) in
      let v : is_variable u.means ≡ true = and_then (is s 50 r) (is_variable u.means) t in
      let keys : (j : ℕ) → j < length o.table / 8 → has_key (row_of u.means) (list_at o (8 * j + 6)) ≡ any (λ y. same y u) (captures s h j) =
      λ j k. ap (has_key (row_of u.means)) (lists j k) ∙ any_map (λ y. eqb y.key (row_of u.means)) node_of (captures s h j) in
      keys f l
      ∙ true_of (any (λ y. same y u) (captures s h f))
      (out (T_true (is s 50 r) (and_left (is s 50 r) (is_variable u.means) t)) g f (T_true (g ∈? around s z) i) (T_true (f ∈? beyond g (around s z)) b)
      (and_both (is_variable u.means) (owner_of u.means ∈? beyond f (around s z)) (T_true (is_variable u.means) v)
      (T_true (owner_of u.means ∈? beyond f (around s z)) (beyond_early f (owner_of u.means) snd.apart (owned_find s (a s r) snd.owned v) ∙ e)))
      (T_true (any (λ y. same y u) (captures s h g)) (sym (keys g (rows g i)) ∙ q)))

  pub capture_part : (e : Event) → Outward s h (record { event = e; stack = z }) → (o : Store) (f : ℕ)
      → o.used + (when visits_kind s 50 e then length (around s z) else 0) ≤ node_room o.nodes → f < length o.table / 8
      → ((g : ℕ) → (g ∈? around s z) ≡ true → g < length o.table / 8)
      → ((g : ℕ) → get_or o.table (8 * g + 6) 0 ≤ o.used)
      → ((g : ℕ) → g < length o.table / 8 → list_at o (8 * g + 6) ≡ map node_of (captures s h g))
      → list_at (store_capture s e p o) (8 * f + 6) ≡ map node_of (captures s (h ++ record { event = e; stack = z } ∷ []) f)
  unfolding store_capture
  capture_part (enter r) out o f room l rows low i = i f l ∙ sym (captures_same (enter r) refl f)
  capture_part leave out o f room l rows low i = i f l ∙ sym (captures_same leave refl f)
  capture_part loop out o f room l rows low i = i f l ∙ sym (captures_same loop refl f)
  capture_part (declare r) out o f room l rows low i = i f l ∙ sym (captures_same (declare r) refl f)
  capture_part (bring r n d) out o f room l rows low i = i f l ∙ sym (captures_same (bring r n d) refl f)
  capture_part (visit r) out o f room l rows low i =
      let u : Use = use_at s (record { event = visit r; stack = z }) in
      rw (← (lookup_is s z p op (a s r)), ← (slot_found O s z p op (a s r)), ← (functions_is s z p op), ← (current_is s z p op))
      (ap (λ (o' : Store). list_at o' (8 * f + 6)) (own_skipped (is s 50 r) (is_variable u.means) (around s z) (node_of u) o)
      ∙ part_list (is s 50 r && is_variable u.means) (around s z) (node_of u) o f snd.apart
      (λ t. if_add (is s 50 r) (is_variable u.means) o.used (length (around s z)) _ room t) l low
      (λ t. lists_further r out t o f l rows i)
      ∙ rw (i f l) (sym (keys_snoc s h (record { event = visit r; stack = z }) snd f)))

-- Local counts.
raise_locals_cell : (g k : ℕ) (o : Store) (f : ℕ) → f < length o.table / 8 → cell (raise_locals g k o).table f 5 ≡ (when eqb g f then max (cell o.table f 5) k else cell o.table f 5)
unfolding raise_locals
raise_locals_cell g k o f l = go (eqb g f) refl
  where
    go : (t : Bool) → eqb g f ≡ t → cell (set o.table (8 * g + 5) (max (cell o.table g 5) k)) f 5 ≡ (when t then max (cell o.table f 5) k else cell o.table f 5)
    go true e =
        let w : g ≡ f = eqb-true g f e in
        ap (λ (j : ℕ). cell (set o.table (8 * j + 5) (max (cell o.table j 5) k)) f 5) w
        ∙ get_or-set_same o.table (8 * f + 5) (max (cell o.table f 5) k) 0 (omega arith)
    go false e =
        let ne : g ≡ f → ⊥ = eqb-false g f e in
        get_or-set_other o.table (8 * g + 5) (8 * f + 5) (max (cell o.table g 5) k) 0 (λ q. omega arith)

local_snoc : (s : Sheet) (h : List Moment) (m : Moment) (f : ℕ)
    → local_count s (h ++ m ∷ []) f
    ≡ (when is s 29 (declares m.event) && (is_local s (declaration s m) && eqb (within s m) f) then max (local_count s h f) (suc (open_locals s m.stack)) else local_count s h f)
local_snoc s h m f =
    ap (λ (l : List Moment). largest (map (λ x. suc (open_locals s x.stack)) l))
    (filter2_snoc (λ x. is_local s (declaration s x) && eqb (within s x) f) (λ x. is s 29 (declares x.event)) h m)
    ∙ ap largest (map_append (λ x. suc (open_locals s x.stack))
    (filter (λ x. is_local s (declaration s x) && eqb (within s x) f) (declarings s h 29)) (only (is s 29 (declares m.event) && (is_local s (declaration s m) && eqb (within s m) f)) m))
    ∙ go (is s 29 (declares m.event) && (is_local s (declaration s m) && eqb (within s m) f))
  where
    old : List ℕ
    old = map (λ x. suc (open_locals s x.stack)) (filter (λ x. is_local s (declaration s x) && eqb (within s x) f) (declarings s h 29))

    go : (t : Bool) → largest (old ++ map (λ x. suc (open_locals s x.stack)) (only t m)) ≡ (when t then max (largest old) (suc (open_locals s m.stack)) else largest old)
    go true = largest_snoc old (suc (open_locals s m.stack))
    go false = ap largest (append-nil old)

local_if : (t u v : Bool) (x y : ℕ) → (when t && u then (when v then x else y) else y) ≡ (when t && (u && v) then x else y)
local_if true true v x y = refl
local_if true false v x y = refl
local_if false u v x y = refl

raise_locals_if : (t : Bool) (g k : ℕ) (o : Store) (f : ℕ) → f < length o.table / 8
    → cell (when t then raise_locals g k o else o).table f 5 ≡ (when t then (when eqb g f then max (cell o.table f 5) k else cell o.table f 5) else cell o.table f 5)
raise_locals_if true g k o f l = raise_locals_cell g k o f l
raise_locals_if false g k o f l = refl

-- Hidden identifiers.
mark_hidden_cell : (g : ℕ) (o : Store) (r : ℕ) → r < length o.table / 8 → cell (mark_hidden g o).table r 4 ≡ (when eqb g r then 1 else cell o.table r 4)
unfolding mark_hidden
mark_hidden_cell g o r l = go (eqb g r) refl
  where
    go : (t : Bool) → eqb g r ≡ t → cell (set o.table (8 * g + 4) 1) r 4 ≡ (when t then 1 else cell o.table r 4)
    go true e = ap (λ (j : ℕ). cell (set o.table (8 * j + 4) 1) r 4) (eqb-true g r e) ∙ get_or-set_same o.table (8 * r + 4) 1 0 (omega arith)
    go false e =
        let ne : g ≡ r → ⊥ = eqb-false g r e in
        get_or-set_other o.table (8 * g + 4) (8 * r + 4) 1 0 (λ q. omega arith)

mark_hidden_if : (t : Bool) (g : ℕ) (o : Store) (r : ℕ) → r < length o.table / 8
    → cell (when t then mark_hidden g o else o).table r 4
    ≡ (when t then (when eqb g r then 1 else cell o.table r 4) else cell o.table r 4)
mark_hidden_if true g o r l = mark_hidden_cell g o r l
mark_hidden_if false g o r l = refl

abbrev pub is_hidden : Sheet → List Moment → ℕ → Bool
is_hidden s h r = any (λ m. eqb (child s (child s (visited m.event))) r) (class_calls s h)

hidden_snoc : (s : Sheet) (h : List Moment) (m : Moment) (r : ℕ)
    → bit (is_hidden s (h ++ m ∷ []) r)
    ≡ (when is s 59 (visited m.event) && not (eqb (receiver s (visited m.event) (open_on s m.stack)) 0)
    then (when eqb (child s (child s (visited m.event))) r then 1 else bit (is_hidden s h r)) else bit (is_hidden s h r))
hidden_snoc s h m r =
    ap (λ (l : List Moment). bit (any (λ x. eqb (child s (child s (visited x.event))) r) l))
    (filter2_snoc (λ x. not (eqb (receiver s (visited x.event) (open_on s x.stack)) 0)) (λ x. is s 59 (visited x.event)) h m)
    ∙ ap bit (any_append (λ x. eqb (child s (child s (visited x.event))) r) (class_calls s h)
    (only (is s 59 (visited m.event) && not (eqb (receiver s (visited m.event) (open_on s m.stack)) 0)) m))
    ∙ go (is s 59 (visited m.event) && not (eqb (receiver s (visited m.event) (open_on s m.stack)) 0)) (is_hidden s h r) (eqb (child s (child s (visited m.event))) r) refl
  where
    go : (t u v : Bool) → eqb (child s (child s (visited m.event))) r ≡ v
        → bit (u || any (λ x. eqb (child s (child s (visited x.event))) r) (only t m)) ≡ (when t then (when v then 1 else bit u) else bit u)
    go true true true e = refl
    go true true false e = refl
    go true false true e = rw e
    go true false false e = rw e
    go false true v e = refl
    go false false v e = refl

module _ (O : Outside) (s : Sheet) (hd : kind s 0 ≡ 0) (h : List Moment) (z : Stack) (p : Scopes) (op : ScopesAgree s z p) where
  local_same : (e : Event) → declares_let s e ≡ false → (f : ℕ) → local_count s (h ++ record { event = e; stack = z } ∷ []) f ≡ local_count s h f
  local_same e v f = local_snoc s h (record { event = e; stack = z }) f ∙ rw (declares_let_is s hd e ∙ v)

  pub local_part : p.slot < 4294967295 → (e : Event) (o : Store) (f : ℕ) → f < length o.table / 8 → cell o.table f 5 ≡ local_count s h f
      → cell (store_local s e p o).table f 5 ≡ local_count s (h ++ record { event = e; stack = z } ∷ []) f
  unfolding store_local
  local_part few (enter r) o f l i = i ∙ sym (local_same (enter r) refl f)
  local_part few leave o f l i = i ∙ sym (local_same leave refl f)
  local_part few loop o f l i = i ∙ sym (local_same loop refl f)
  local_part few (declare r) o f l i =
      ap (λ (k : ℕ). cell (when is s 29 r && is_local s (new_meaning s r p) then raise_locals (current_function p) k o else o).table f 5) (one_more_is p.slot few)
      ∙ raise_locals_if (is s 29 r && is_local s (new_meaning s r p)) (current_function p) (suc p.slot) o f l
      ∙ local_if (is s 29 r) (is_local s (new_meaning s r p)) (eqb (current_function p) f) (max (cell o.table f 5) (suc p.slot)) (cell o.table f 5)
      ∙ rw (i, ← (new_meaning_is s z p op r), ← (current_is s z p op), op.slot_is) (sym (local_snoc s h (record { event = declare r; stack = z }) f))
  local_part few (bring r n d) o f l i = i ∙ sym (local_same (bring r n d) refl f)
  local_part few (visit r) o f l i = i ∙ sym (local_same (visit r) refl f)

  hidden_same : (e : Event) → visits_kind s 59 e ≡ false → (r : ℕ) → bit (is_hidden s (h ++ record { event = e; stack = z } ∷ []) r) ≡ bit (is_hidden s h r)
  hidden_same e v r = hidden_snoc s h (record { event = e; stack = z }) r ∙ rw (visits_kind_is s hd 59 refl e ∙ v)

  pub hidden_part : (e : Event) (o : Store) (r : ℕ) → r < length o.table / 8 → cell o.table r 4 ≡ bit (is_hidden s h r)
      → cell (store_hidden s e p o).table r 4 ≡ bit (is_hidden s (h ++ record { event = e; stack = z } ∷ []) r)
  unfolding store_hidden
  hidden_part (enter k) o r l i = i ∙ sym (hidden_same (enter k) refl r)
  hidden_part leave o r l i = i ∙ sym (hidden_same leave refl r)
  hidden_part loop o r l i = i ∙ sym (hidden_same loop refl r)
  hidden_part (declare k) o r l i = i ∙ sym (hidden_same (declare k) refl r)
  hidden_part (bring k n d) o r l i = i ∙ sym (hidden_same (bring k n d) refl r)
  hidden_part (visit k) o r l i =
      mark_hidden_if (is s 59 k && not (eqb (receiver_class s k p) 0)) (child s (child s k)) o r l
      ∙ rw (i, ← (receiver_is O s z p op k)) (sym (hidden_snoc s h (record { event = visit k; stack = z }) r))

-- Constructor calls, in the walk's order.
calls_snoc : (s : Sheet) (h : List Moment) (m : Moment)
    → map (call_node s) (calls_of s (h ++ m ∷ []))
    ≡ (when is s 59 (visited m.event) && not (eqb (constructed s (visited m.event) (open_on s m.stack)) 0)
    then map (call_node s) (calls_of s h) ++ call_node s m ∷ [] else map (call_node s) (calls_of s h))
calls_snoc s h m =
    ap (map (call_node s)) (filter2_snoc (λ x. not (eqb (constructed s (visited x.event) (open_on s x.stack)) 0)) (λ x. is s 59 (visited x.event)) h m)
    ∙ map_append (call_node s) (calls_of s h) (only (is s 59 (visited m.event) && not (eqb (constructed s (visited m.event) (open_on s m.stack)) 0)) m)
    ∙ go (is s 59 (visited m.event) && not (eqb (constructed s (visited m.event) (open_on s m.stack)) 0))
  where
    go : (t : Bool) → map (call_node s) (calls_of s h) ++ map (call_node s) (only t m) ≡ (when t then map (call_node s) (calls_of s h) ++ call_node s m ∷ [] else map (call_node s) (calls_of s h))
    go true = refl
    go false = append-nil (map (call_node s) (calls_of s h))

call_if : (t : Bool) (x : Node) (o : Store) → (t ≡ true → o.used < node_room o.nodes) → o.calls ≤ o.used
    → chain_to (when t then append_call x o else o).nodes (when t then append_call x o else o).calls ≡ (when t then chain_to o.nodes o.calls ++ x ∷ [] else chain_to o.nodes o.calls)
call_if true x o room l = call_list 0 x o (room refl) l
call_if false x o room l = refl

if_one : (x y : Bool) (u k : ℕ) → u + (when x then 1 else 0) ≤ k → (x && y) ≡ true → u < k
if_one true y u k h e = omega arith
if_one false y u k h e = absurd (true≢false (sym e))

-- Fields that a class does not list, in the order of their first assignment.
registered_snoc : (s : Sheet) (h : List Moment) (m : Moment) (c : ℕ)
    → registered s (h ++ m ∷ []) c
    ≡ registered s h c ++ only (is s 21 (visited m.event) && (is s 54 (child s (visited m.event)) && eqb (class_of s (within s m)) c)) (a s (child s (visited m.event)))
registered_snoc s h m c =
    ap (map (λ x. a s (child s (visited x.event))))
    (filter2_snoc (λ x. is s 54 (child s (visited x.event)) && eqb (class_of s (within s x)) c) (λ x. is s 21 (visited x.event)) h m)
    ∙ map_append (λ x. a s (child s (visited x.event))) (filter (λ x. is s 54 (child s (visited x.event)) && eqb (class_of s (within s x)) c) (visits s h 21))
    (only (is s 21 (visited m.event) && (is s 54 (child s (visited m.event)) && eqb (class_of s (within s m)) c)) m)
    ∙ ap (λ (l : List ℕ). registered s h c ++ l) (go (is s 21 (visited m.event) && (is s 54 (child s (visited m.event)) && eqb (class_of s (within s m)) c)))
  where
    go : (t : Bool) → map (λ x. a s (child s (visited x.event))) (only t m) ≡ only t (a s (child s (visited m.event)))
    go true = refl
    go false = refl

any_same : (n : ℕ) (xs : List ℕ) → any (λ y. eqb y n) xs ≡ (n ∈? xs)
any_same n [] = refl
any_same n (x ∷ xs) = ap (λ (t : Bool). t || any (λ y. eqb y n) xs) (eqb_same x n) ∙ ap (λ (t : Bool). eqb n x || t) (any_same n xs)

-- one field more among a class's own, of which `xs` are listed and `ys` stored
own_snoc : (xs rs : List ℕ) (ys : List Node) (n : ℕ) (t : Bool) → distinct eqb (xs ++ rs) ≡ distinct eqb xs ++ map (λ y. y.key) ys
    → distinct eqb (xs ++ (rs ++ only t n)) ≡ distinct eqb xs ++ map (λ y. y.key) (when t then (when n ∈? xs then ys else add_key (field_node n) ys) else ys)
own_snoc xs rs ys n false e = ap (λ (l : List ℕ). distinct eqb (xs ++ l)) (append-nil rs) ∙ e
own_snoc xs rs ys n true e =
    ap (distinct eqb) (sym (append_assoc xs rs (n ∷ [])))
    ∙ distinct_key (λ (k : ℕ). k) (xs ++ rs) n
    ∙ ap (λ (l : List ℕ). l ++ only (not (any (λ y. eqb y n) l)) n) e
    ∙ ap (λ (t : Bool). (distinct eqb xs ++ map (λ y. y.key) ys) ++ only (not t) n)
    (any_append (λ y. eqb y n) (distinct eqb xs) (map (λ y. y.key) ys)
    ∙ ap (λ (t : Bool). t || any (λ y. eqb y n) (map (λ y. y.key) ys)) (any_distinct (λ (k : ℕ). k) n xs ∙ any_same n xs)
    ∙ ap (λ (t : Bool). (n ∈? xs) || t) (any_map (λ (k : ℕ). eqb k n) (λ (y : Node). y.key) ys))
    ∙ go (n ∈? xs) (has_key n ys)
  where
    go : (t u : Bool) → (distinct eqb xs ++ map (λ y. y.key) ys) ++ only (not (t || u)) n
        ≡ distinct eqb xs ++ map (λ y. y.key) (when t then ys else when u then ys else ys ++ field_node n ∷ [])
    go true u = append-nil (distinct eqb xs ++ map (λ y. y.key) ys)
    go false true = append-nil (distinct eqb xs ++ map (λ y. y.key) ys)
    go false false =
        append_assoc (distinct eqb xs) (map (λ y. y.key) ys) (n ∷ [])
        ∙ ap (λ (l : List ℕ). distinct eqb xs ++ l) (sym (map_append (λ (y : Node). y.key) ys (field_node n ∷ [])))

field_list : (s : Sheet) (t u : Bool) (d c n : ℕ) (o : Store) → (t ≡ true → o.used < node_room o.nodes) → c < length o.table / 8 → (c ≡ 0 → ⊥)
    → get_or o.table (8 * c + 7) 0 ≤ o.used
    → list_at (when t && u && not (eqb d 0) && not (n ∈? listed_fields s d) then add_new (8 * d + 7) (field_node n) o else o) (8 * c + 7)
    ≡ (when t && (u && eqb d c) then (when n ∈? listed_fields s c then list_at o (8 * c + 7) else add_key (field_node n) (list_at o (8 * c + 7))) else list_at o (8 * c + 7))
field_list s false u d c n o room l nz low = refl
field_list s true false d c n o room l nz low = refl
field_list s true true d c n o room l nz low = go (eqb d c) refl
  where
    other : (v : Bool) → (d ≡ c → ⊥) → list_at (when v then add_new (8 * d + 7) (field_node n) o else o) (8 * c + 7) ≡ list_at o (8 * c + 7)
    other true ne =
        list_kept o (add_new (8 * d + 7) (field_node n) o) (8 * c + 7) (add_new_extends (8 * d + 7) (field_node n) o)
        (add_new_word (8 * d + 7) (field_node n) o (8 * c + 7) (λ q. omega arith)) low
    other false ne = refl

    own : (v : Bool) → list_at (when not v then add_new (8 * c + 7) (field_node n) o else o) (8 * c + 7) ≡ (when v then list_at o (8 * c + 7) else add_key (field_node n) (list_at o (8 * c + 7)))
    own true = refl
    own false = add_new_list (8 * c + 7) (field_node n) o (room refl) (omega arith) low

    go : (v : Bool) → eqb d c ≡ v
        → list_at (when not (eqb d 0) && not (n ∈? listed_fields s d) then add_new (8 * d + 7) (field_node n) o else o) (8 * c + 7)
        ≡ (when v then (when n ∈? listed_fields s c then list_at o (8 * c + 7) else add_key (field_node n) (list_at o (8 * c + 7))) else list_at o (8 * c + 7))
    go true e =
        ap (λ (j : ℕ). list_at (when not (eqb j 0) && not (n ∈? listed_fields s j) then add_new (8 * j + 7) (field_node n) o else o) (8 * c + 7)) (eqb-true d c e)
        ∙ ap (λ (v : Bool). list_at (when not v && not (n ∈? listed_fields s c) then add_new (8 * c + 7) (field_node n) o else o) (8 * c + 7)) (ne_eqb c 0 nz)
        ∙ own (n ∈? listed_fields s c)
    go false e = other (not (eqb d 0) && not (n ∈? listed_fields s d)) (eqb-false d c e)

module _ (O : Outside) (s : Sheet) (hd : kind s 0 ≡ 0) (h : List Moment) (z : Stack) (p : Scopes) (op : ScopesAgree s z p) where
  calls_same : (e : Event) → visits_kind s 59 e ≡ false → map (call_node s) (calls_of s (h ++ record { event = e; stack = z } ∷ [])) ≡ map (call_node s) (calls_of s h)
  calls_same e v = calls_snoc s h (record { event = e; stack = z }) ∙ rw (visits_kind_is s hd 59 refl e ∙ v)

  pub call_part : (e : Event) (o : Store) → o.used + (when visits_kind s 59 e then 1 else 0) ≤ node_room o.nodes → o.calls ≤ o.used
      → chain_to o.nodes o.calls ≡ map (call_node s) (calls_of s h)
      → chain_to (store_call s e p o).nodes (store_call s e p o).calls ≡ map (call_node s) (calls_of s (h ++ record { event = e; stack = z } ∷ []))
  unfolding store_call
  call_part (enter k) o room l i = i ∙ sym (calls_same (enter k) refl)
  call_part leave o room l i = i ∙ sym (calls_same leave refl)
  call_part loop o room l i = i ∙ sym (calls_same loop refl)
  call_part (declare k) o room l i = i ∙ sym (calls_same (declare k) refl)
  call_part (bring k n d) o room l i = i ∙ sym (calls_same (bring k n d) refl)
  call_part (visit k) o room l i =
      call_if (is s 59 k && not (eqb (constructed_class s k p) 0))
      (record { key = k; one = constructed_class s k p; two = 0 }) o
      (λ t. if_one (is s 59 k) (not (eqb (constructed_class s k p) 0)) o.used _ room t) l
      ∙ rw (i, ← (constructed_is O s z p op k)) (sym (calls_snoc s h (record { event = visit k; stack = z })))

  fields_same : (e : Event) → visits_kind s 21 e ≡ false → (c : ℕ) → registered s (h ++ record { event = e; stack = z } ∷ []) c ≡ registered s h c
  fields_same e v c = registered_snoc s h (record { event = e; stack = z }) c ∙ rw (visits_kind_is s hd 21 refl e ∙ v) (append-nil (registered s h c))

  pub field_part : (e : Event) (o : Store) (c : ℕ) → o.used + (when visits_kind s 21 e then 1 else 0) ≤ node_room o.nodes
      → c < length o.table / 8 → (c ≡ 0 → ⊥) → get_or o.table (8 * c + 7) 0 ≤ o.used
      → distinct eqb (listed_fields s c ++ registered s h c) ≡ distinct eqb (listed_fields s c) ++ map (λ y. y.key) (list_at o (8 * c + 7))
      → distinct eqb (listed_fields s c ++ registered s (h ++ record { event = e; stack = z } ∷ []) c)
      ≡ distinct eqb (listed_fields s c) ++ map (λ y. y.key) (list_at (store_field s e p o) (8 * c + 7))
  unfolding store_field
  field_part (enter k) o c room l nz low i = rw (fields_same (enter k) refl c) i
  field_part leave o c room l nz low i = rw (fields_same leave refl c) i
  field_part loop o c room l nz low i = rw (fields_same loop refl c) i
  field_part (declare k) o c room l nz low i = rw (fields_same (declare k) refl c) i
  field_part (bring k n d) o c room l nz low i = rw (fields_same (bring k n d) refl c) i
  field_part (visit k) o c room l nz low i =
      let w : (when is s 21 k && (is s 54 (child s k) && eqb (class_of s (head (around s z))) c)
      then (when a s (child s k) ∈? listed_fields s c then list_at o (8 * c + 7) else add_key (field_node (a s (child s k))) (list_at o (8 * c + 7))) else list_at o (8 * c + 7))
      ≡ list_at (when new_field s (visit k) p then add_new (8 * class_of s (current_function p) + 7) (field_node (a s (child s k))) o else o) (8 * c + 7) =
      rw (current_is s z p op)
      (sym (field_list s (is s 21 k) (is s 54 (child s k)) (class_of s (current_function p)) c (a s (child s k)) o (λ t. if_one (is s 21 k) true o.used _ room (rw t)) l nz low)) in
      ap (λ (r : List ℕ). distinct eqb (listed_fields s c ++ r)) (registered_snoc s h (record { event = visit k; stack = z }) c)
      ∙ own_snoc (listed_fields s c) (registered s h c) (list_at o (8 * c + 7)) (a s (child s k)) (is s 21 k && (is s 54 (child s k) && eqb (class_of s (inside s z)) c)) i
      ∙ ap (λ (r : List Node). distinct eqb (listed_fields s c) ++ map (λ y. y.key) r) w
