-- Lists of nodes: a node appended to a list is one element more at its end, and the other lists do not change.
use mathlib.Core.Path.{◌≡◌, refl, sym, ap, ◌∙◌}
use mathlib.Core.Logic.{inl}
use mathlib.Core.List.{List, [], ◌∷◌, ◌++◌}
use mathlib.Core.Bool.{Bool, true, false, ◌||◌}
use Prim.Native.Nat.{ℕ, zero, suc, ◌+◌, ◌*◌, ◌/◌, ◌<◌, ◌≤◌, min}
use native.Mathlib.Omega.{arith}
use lib.ListN.{length, get_or, set, length-set}
use lib.Seq.{sets, get_or-set_same, get_or-set_other, length-sets}
use lib.Dec.{eqb, ltb}
use borrow.Author.Tests.{lt-ltb, ne_eqb, eqb-true, eqb-false, ltb-true}
use Rattle.definition.specs.Basics.{when◌then◌else◌}
use Rattle.machine.specs.Machine.{node_room, node_word, Node, node_at, previous, chain_back, reversed, chain_to, Store}
use Rattle.machine.specs.Machine.{list_at, has_key, appended, appended_call, append_node, append_call, add_new}
use Rattle.machine.specs.Machine.{add_capture}
use Rattle.machine.proofs.Words.{sets_in, sets_out}
use Rattle.machine.proofs.Lists.{eqb_self}

pub chain_back_hit : (q : List ℕ) (n : ℕ) → chain_back q (suc n) (suc n) ≡ node_at q n ∷ chain_back q n (previous q n)
unfolding chain_back
chain_back_hit q n = rw (eqb_self (suc n))

chain_back_miss : (q : List ℕ) (n p : ℕ) → p ≤ n → chain_back q (suc n) p ≡ chain_back q n p
unfolding chain_back
chain_back_miss q n p h = rw (ne_eqb p (suc n) (λ e. omega arith))

-- a larger bound gives the same list
pub chain_back_down : (q : List ℕ) (n p : ℕ) → p ≤ n → chain_back q n p ≡ chain_back q p p
chain_back_down q zero zero h = refl
chain_back_down q zero (suc p) h = absurd (omega arith)
chain_back_down q (suc n) p h = go (eqb p (suc n)) refl (λ l. chain_back_down q n p l)
  where
    go : (t : Bool) → eqb p (suc n) ≡ t → (p ≤ n → chain_back q n p ≡ chain_back q p p) → chain_back q (suc n) p ≡ chain_back q p p
    go true e i = ap (λ (k : ℕ). chain_back q k p) (sym (eqb-true p (suc n) e))
    go false e i = let ne : p ≡ suc n → ⊥ = eqb-false p (suc n) e in let l : p ≤ n = omega arith in chain_back_miss q n p l ∙ i l

-- only nodes below the bound are read
chain_back_same : (q q' : List ℕ) (n : ℕ) → ((i : ℕ) → i < n → (c : ℕ) → c < 4 → node_word q' i c ≡ node_word q i c) → (p : ℕ) → chain_back q' n p ≡ chain_back q n p
unfolding chain_back
chain_back_same q q' zero h p = refl
chain_back_same q q' (suc n) h p =
    let g₀ = h n (omega arith) 0 (omega arith) in
    let g₁ = h n (omega arith) 1 (omega arith) in
    let g₂ = h n (omega arith) 2 (omega arith) in
    let g₃ = h n (omega arith) 3 (omega arith) in
    let ih : (p : ℕ) → chain_back q' n p ≡ chain_back q n p = chain_back_same q q' n (λ i l c m. h i (omega arith) c m) in
    rw (g₀, g₁, g₂, g₃, ih p, ih (previous q n))

module _ (q : List ℕ) (n h k x y : ℕ) (room : n < node_room q) where
  appended_below : (i : ℕ) → i < n → (c : ℕ) → c < 4 → node_word (sets q (4 * n) (h ∷ k ∷ x ∷ y ∷ [])) i c ≡ node_word q i c
  appended_below i l c g = sets_out (h ∷ k ∷ x ∷ y ∷ []) q (4 * n) (4 * i + c) (inl (omega arith))

  appended_at : (c : ℕ) → c < 4 → node_word (sets q (4 * n) (h ∷ k ∷ x ∷ y ∷ [])) n c ≡ get_or (h ∷ k ∷ x ∷ y ∷ []) c 0
  appended_at c g = sets_in (h ∷ k ∷ x ∷ y ∷ []) q (4 * n) c g (omega arith)

  -- the lists that were there
  pub appended_other : (p : ℕ) → p ≤ n → chain_to (sets q (4 * n) (h ∷ k ∷ x ∷ y ∷ [])) p ≡ chain_to q p
  unfolding chain_to
  appended_other p l = ap reversed (chain_back_same q _ p (λ i m c g. appended_below i (omega arith) c g) p)

  -- the list that grows
  pub appended_same : h ≤ n → chain_to (sets q (4 * n) (h ∷ k ∷ x ∷ y ∷ [])) (suc n) ≡ chain_to q h ++ record { key = k; one = x; two = y } ∷ []
  unfolding chain_to reversed
  appended_same l =
      let q' : List ℕ = sets q (4 * n) (h ∷ k ∷ x ∷ y ∷ []) in
      let g₀ : node_word q' n 0 ≡ h = appended_at 0 (omega arith) in
      let b : previous q' n ≡ h = ap (λ (j : ℕ). min j n) g₀ ∙ omega arith in
      let g₁ : node_word q' n 1 ≡ k = appended_at 1 (omega arith) in
      let g₂ : node_word q' n 2 ≡ x = appended_at 2 (omega arith) in
      let g₃ : node_word q' n 3 ≡ y = appended_at 3 (omega arith) in
      let w : node_at q' n ≡ record { key = k; one = x; two = y } = rw (g₁, g₂, g₃) in
      ap reversed (chain_back_hit q' n)
      ∙ ap (λ (j : ℕ). reversed (chain_back q' n j) ++ node_at q' n ∷ []) b
      ∙ ap (λ (l : List Node). reversed l ++ node_at q' n ∷ []) (chain_back_down q' n h l)
      ∙ ap (λ (l : List Node). l ++ node_at q' n ∷ []) (appended_other h l)
      ∙ ap (λ (a : Node). chain_to q h ++ a ∷ []) w

-- What every step of the store keeps: the nodes in use, the lists that were there, the lengths of the buffers.
pub record Extends (o o' : Store) : Type 0 where
  pub used_le : o.used ≤ o'.used
  pub kept : (p : ℕ) → p ≤ o.used → chain_to o'.nodes p ≡ chain_to o.nodes p
  pub nodes_length : length o'.nodes ≡ length o.nodes
  pub table_length : length o'.table ≡ length o.table

pub extends_refl : (o : Store) → Extends o o
extends_refl o = record { used_le = omega arith; kept = λ p l. refl; nodes_length = refl; table_length = refl }

pub extends_trans : {x y z : Store} → Extends x y → Extends y z → Extends x z
extends_trans {x} {y} {z} g h =
    record {
      used_le = omega (arith, g.used_le, h.used_le);
      kept = λ p l. h.kept p (omega (arith, g.used_le)) ∙ g.kept p l;
      nodes_length = h.nodes_length ∙ g.nodes_length;
      table_length = h.table_length ∙ g.table_length;
    }

extends_if : (t : Bool) (o x : Store) → Extends o x → Extends o (when t then x else o)
extends_if true o x g = g
extends_if false o x g = extends_refl o

pub append_extends : (j : ℕ) (x : Node) (o : Store) → Extends o (append_node j x o)
unfolding append_node
append_extends j x o = go (ltb o.used (node_room o.nodes)) refl
  where
    go : (t : Bool) → ltb o.used (node_room o.nodes) ≡ t
        → Extends o (when t then appended j x o else o)
    go true e =
        record {
          used_le = omega arith;
          kept = λ p l. appended_other o.nodes o.used (get_or o.table j 0) x.key x.one x.two (ltb-true o.used (node_room o.nodes) e) p l;
          nodes_length = length-sets o.nodes (4 * o.used) (get_or o.table j 0 ∷ x.key ∷ x.one ∷ x.two ∷ []);
          table_length = length-set o.table j (suc o.used);
        }
    go false e = extends_refl o

pub call_extends : (x : Node) (o : Store) → Extends o (append_call x o)
unfolding append_call
call_extends x o = go (ltb o.used (node_room o.nodes)) refl
  where
    go : (t : Bool) → ltb o.used (node_room o.nodes) ≡ t
        → Extends o (when t then appended_call x o else o)
    go true e =
        record {
          used_le = omega arith;
          kept = λ p l. appended_other o.nodes o.used o.calls x.key x.one x.two (ltb-true o.used (node_room o.nodes) e) p l;
          nodes_length = length-sets o.nodes (4 * o.used) (o.calls ∷ x.key ∷ x.one ∷ x.two ∷ []);
          table_length = refl;
        }
    go false e = extends_refl o

-- A node appended where there is room.
module _ (j : ℕ) (x : Node) (o : Store) (room : o.used < node_room o.nodes) where
  pub append_used : (append_node j x o).used ≡ suc o.used
  unfolding append_node
  append_used = rw (lt-ltb o.used (node_room o.nodes) room)

  pub append_list : j < length o.table → get_or o.table j 0 ≤ o.used → list_at (append_node j x o) j ≡ list_at o j ++ x ∷ []
  unfolding append_node list_at
  append_list h l =
      rw (lt-ltb o.used (node_room o.nodes) room, get_or-set_same o.table j (suc o.used) 0 h)
      (appended_same o.nodes o.used (get_or o.table j 0) x.key x.one x.two room l)

  pub call_list : o.calls ≤ o.used → chain_to (append_call x o).nodes (append_call x o).calls ≡ chain_to o.nodes o.calls ++ x ∷ []
  unfolding append_call
  call_list l =
      rw (lt-ltb o.used (node_room o.nodes) room)
      (appended_same o.nodes o.used o.calls x.key x.one x.two room l)

pub append_word : (j : ℕ) (x : Node) (o : Store) (i : ℕ) → (i ≡ j → ⊥) → get_or (append_node j x o).table i 0 ≡ get_or o.table i 0
unfolding append_node
append_word j x o i h = go (ltb o.used (node_room o.nodes))
  where
    go : (t : Bool) → get_or (when t then appended j x o else o).table i 0 ≡ get_or o.table i 0
    go true = get_or-set_other o.table j i (suc o.used) 0 h
    go false = refl

append_calls : (j : ℕ) (x : Node) (o : Store) → (append_node j x o).calls ≡ o.calls
unfolding append_node
append_calls j x o = go (ltb o.used (node_room o.nodes))
  where
    go : (t : Bool) → (when t then appended j x o else o).calls ≡ o.calls
    go true = refl
    go false = refl

-- A node appended unless its key is there.
abbrev pub add_key : Node → List Node → List Node
add_key x xs = when has_key x.key xs then xs else xs ++ x ∷ []

pub add_new_extends : (j : ℕ) (x : Node) (o : Store) → Extends o (add_new j x o)
unfolding add_new
add_new_extends j x o = go (has_key x.key (list_at o j))
  where
    go : (t : Bool) → Extends o (when t then o else append_node j x o)
    go true = extends_refl o
    go false = append_extends j x o

pub add_new_word : (j : ℕ) (x : Node) (o : Store) (i : ℕ) → (i ≡ j → ⊥) → get_or (add_new j x o).table i 0 ≡ get_or o.table i 0
unfolding add_new
add_new_word j x o i h = go (has_key x.key (list_at o j))
  where
    go : (t : Bool) → get_or (when t then o else append_node j x o).table i 0 ≡ get_or o.table i 0
    go true = refl
    go false = append_word j x o i h

pub add_new_calls : (j : ℕ) (x : Node) (o : Store) → (add_new j x o).calls ≡ o.calls
unfolding add_new
add_new_calls j x o = go (has_key x.key (list_at o j))
  where
    go : (t : Bool) → (when t then o else append_node j x o).calls ≡ o.calls
    go true = refl
    go false = append_calls j x o

module _ (j : ℕ) (x : Node) (o : Store) (room : o.used < node_room o.nodes) where
  pub add_new_used : (add_new j x o).used ≤ suc o.used
  unfolding add_new
  add_new_used = go (has_key x.key (list_at o j))
    where
      go : (t : Bool) → (when t then o else append_node j x o).used ≤ suc o.used
      go true = omega arith
      go false = omega (arith, append_used j x o room)

  pub add_new_list : j < length o.table → get_or o.table j 0 ≤ o.used → list_at (add_new j x o) j ≡ add_key x (list_at o j)
  unfolding add_new
  add_new_list h l = go (has_key x.key (list_at o j))
    where
      go : (t : Bool) → list_at (when t then o else append_node j x o) j ≡ (when t then list_at o j else list_at o j ++ x ∷ [])
      go true = refl
      go false = append_list j x o room h l

-- a list whose word of the table does not change
pub list_kept : (o o' : Store) (i : ℕ) → Extends o o' → get_or o'.table i 0 ≡ get_or o.table i 0 → get_or o.table i 0 ≤ o.used → list_at o' i ≡ list_at o i
unfolding list_at
list_kept o o' i g e l = ap (chain_to o'.nodes) e ∙ g.kept (get_or o.table i 0) l

-- a list's word is at most the number of nodes in use
set_le : (l : List ℕ) (j v i n : ℕ) → v ≤ n → get_or l i 0 ≤ n → get_or (set l j v) i 0 ≤ n
set_le [] j v i n h g = g
set_le (y ∷ l) zero v zero n h g = h
set_le (y ∷ l) zero v (suc i) n h g = g
set_le (y ∷ l) (suc j) v zero n h g = g
set_le (y ∷ l) (suc j) v (suc i) n h g = set_le l j v i n h g

pub append_low : (j : ℕ) (x : Node) (o : Store) (i : ℕ) → get_or o.table i 0 ≤ o.used → get_or (append_node j x o).table i 0 ≤ (append_node j x o).used
unfolding append_node
append_low j x o i l = go (ltb o.used (node_room o.nodes))
  where
    go : (t : Bool) → get_or (when t then appended j x o else o).table i 0 ≤ (when t then appended j x o else o).used
    go true = set_le o.table j (suc o.used) i (suc o.used) (omega arith) (omega arith)
    go false = l

pub add_new_low : (j : ℕ) (x : Node) (o : Store) (i : ℕ) → get_or o.table i 0 ≤ o.used → get_or (add_new j x o).table i 0 ≤ (add_new j x o).used
unfolding add_new
add_new_low j x o i l = go (has_key x.key (list_at o j))
  where
    go : (t : Bool) → get_or (when t then o else append_node j x o).table i 0 ≤ (when t then o else append_node j x o).used
    go true = l
    go false = append_low j x o i l

-- A capture added in the lists of many functions, up to its owner's.

-- does f stand in the list before w?
abbrev pub is_before : ℕ → List ℕ → ℕ → Bool
is_before w [] f = false
is_before w (g ∷ gs) f = when eqb g w then false else (eqb g f || is_before w gs f)

pub add_capture_extends : (fs : List ℕ) (x : Node) (o : Store) → Extends o (add_capture fs x o)
unfolding add_capture
add_capture_extends [] x o = extends_refl o
add_capture_extends (g ∷ gs) x o = go (eqb g x.one || has_key x.key (list_at o (8 * g + 6))) (add_capture_extends gs x (append_node (8 * g + 6) x o))
  where
    go : (t : Bool) → Extends (append_node (8 * g + 6) x o) (add_capture gs x (append_node (8 * g + 6) x o)) → Extends o (when t then o else add_capture gs x (append_node (8 * g + 6) x o))
    go true i = extends_refl o
    go false i = extends_trans (append_extends (8 * g + 6) x o) i

pub add_capture_calls : (fs : List ℕ) (x : Node) (o : Store) → (add_capture fs x o).calls ≡ o.calls
unfolding add_capture
add_capture_calls [] x o = refl
add_capture_calls (g ∷ gs) x o = go (eqb g x.one || has_key x.key (list_at o (8 * g + 6))) (add_capture_calls gs x (append_node (8 * g + 6) x o))
  where
    go : (t : Bool) → (add_capture gs x (append_node (8 * g + 6) x o)).calls ≡ (append_node (8 * g + 6) x o).calls → (when t then o else add_capture gs x (append_node (8 * g + 6) x o)).calls ≡ o.calls
    go true i = refl
    go false i = i ∙ append_calls (8 * g + 6) x o

-- other columns do not change
pub add_capture_word : (fs : List ℕ) (x : Node) (o : Store) (r c : ℕ) → c < 8 → (c ≡ 6 → ⊥) → get_or (add_capture fs x o).table (8 * r + c) 0 ≡ get_or o.table (8 * r + c) 0
unfolding add_capture
add_capture_word [] x o r c l h = refl
add_capture_word (g ∷ gs) x o r c l h = go (eqb g x.one || has_key x.key (list_at o (8 * g + 6))) (add_capture_word gs x (append_node (8 * g + 6) x o) r c l h)
  where
    go : (t : Bool) → get_or (add_capture gs x (append_node (8 * g + 6) x o)).table (8 * r + c) 0 ≡ get_or (append_node (8 * g + 6) x o).table (8 * r + c) 0
        → get_or (when t then o else add_capture gs x (append_node (8 * g + 6) x o)).table (8 * r + c) 0 ≡ get_or o.table (8 * r + c) 0
    go true i = refl
    go false i = i ∙ append_word (8 * g + 6) x o (8 * r + c) (λ e. omega arith)

pub add_capture_low : (fs : List ℕ) (x : Node) (o : Store) (i : ℕ) → get_or o.table i 0 ≤ o.used → get_or (add_capture fs x o).table i 0 ≤ (add_capture fs x o).used
unfolding add_capture
add_capture_low [] x o i l = l
add_capture_low (g ∷ gs) x o i l = go (eqb g x.one || has_key x.key (list_at o (8 * g + 6))) (add_capture_low gs x (append_node (8 * g + 6) x o) i (append_low (8 * g + 6) x o i l))
  where
    go : (t : Bool) → get_or (add_capture gs x (append_node (8 * g + 6) x o)).table i 0 ≤ (add_capture gs x (append_node (8 * g + 6) x o)).used
        → get_or (when t then o else add_capture gs x (append_node (8 * g + 6) x o)).table i 0 ≤ (when t then o else add_capture gs x (append_node (8 * g + 6) x o)).used
    go true i = l
    go false i = i

pub add_capture_used : (fs : List ℕ) (x : Node) (o : Store) → o.used + length fs ≤ node_room o.nodes → (add_capture fs x o).used ≤ o.used + length fs
unfolding add_capture
add_capture_used [] x o room = omega arith
add_capture_used (g ∷ gs) x o room =
    let r : o.used < node_room o.nodes = omega arith in
    let o' : Store = append_node (8 * g + 6) x o in
    let u : o'.used ≡ suc o.used = append_used (8 * g + 6) x o r in
    let n : length o'.nodes ≡ length o.nodes = (append_extends (8 * g + 6) x o).nodes_length in
    go (eqb g x.one || has_key x.key (list_at o (8 * g + 6))) (add_capture_used gs x o' (omega (arith, u, ap (λ (k : ℕ). min (k / 4) 4294967295) n))) u
  where
    go : (t : Bool) → (add_capture gs x (append_node (8 * g + 6) x o)).used ≤ (append_node (8 * g + 6) x o).used + length gs → (append_node (8 * g + 6) x o).used ≡ suc o.used
        → (when t then o else add_capture gs x (append_node (8 * g + 6) x o)).used ≤ o.used + suc (length gs)
    go true i u = omega arith
    go false i u = omega arith
