-- Nodes pushed to the buffer and appended to lists.
use mathlib.Core.Path.{◌≡◌, refl, sym, ap, ◌∙◌}
use mathlib.Core.Bool.{Bool, true, false, ◌&&◌, true≢false}
use mathlib.Core.List.{List, [], ◌∷◌}
use Prim.Native.Nat.{ℕ, suc, ◌+◌, ◌-◌, ◌*◌, ◌<◌, ◌≤◌}
use native.Mathlib.Omega.{arith}
use lib.Dec.{eqb, ltb}
use lib.ListN.{get_or, set}
use lib.Seq.{sets}
use borrow.Author.Tests.{lt-ltb, le-ltb, eq-eqb, ne_eqb, eqb-true, eqb-false}
use Rattle.definition.specs.Basics.{when◌then◌else◌}
use Rattle.definition.specs.Sheet.{Sheet, is, kind, word}
use Rattle.machine.specs.Machine.{entry_word, node_room, chain_to, list_at, has_key, Store, Node, function_marks, appended, appended_call, append_node, append_call, add_new}
use Rattle.machine.proofs.CodeSteps.{four_stores}
use Rattle.symbols.proofs.EnvLaws.{marks_function, marks_scope, marks_other, marks_none}
use Rattle.store.specs.Stored.{used_pushed, nodes_pushed}

-- a node pushed where there is room, and where there is none
module _ (q : List ℕ) (n : ℕ) where
  pub pushed_used : n < node_room q → n + 1 ≡ used_pushed q n
  pushed_used l = let e : n + 1 ≡ suc n = omega arith in e ∙ sym (ap (λ (b : Bool). when b then suc n else n) (lt-ltb n (node_room q) l))

  pub pushed_nodes : (p k x y : ℕ) → n < node_room q → set (set (set (set q (4 * n) p) (4 * n + 1) k) (4 * n + 2) x) (4 * n + 3) y ≡ nodes_pushed q n (p ∷ k ∷ x ∷ y ∷ [])
  pushed_nodes p k x y l =
      four_stores q (4 * n) p k x y ∙ sym (ap (λ (b : Bool). when b then sets q (4 * n) (p ∷ k ∷ x ∷ y ∷ []) else q) (lt-ltb n (node_room q) l))

  pub full_used : node_room q ≤ n → n ≡ used_pushed q n
  full_used l = sym (ap (λ (b : Bool). when b then suc n else n) (le-ltb n (node_room q) l))

  pub full_nodes : (ws : List ℕ) → node_room q ≤ n → q ≡ nodes_pushed q n ws
  full_nodes ws l = sym (ap (λ (b : Bool). when b then sets q (4 * n) ws else q) (le-ltb n (node_room q) l))

-- the store of two counters and two buffers
abbrev stored : ℕ → ℕ → List ℕ → List ℕ → Store
stored n c t q = record { used = n; calls = c; table = t; nodes = q }

-- A node pushed after n nodes: the store does not change if n', the number then, is n, and has the node in its list otherwise.
module _ (x : Node) (n c n' : ℕ) (q q' : List ℕ) (e : n' ≡ used_pushed q n) where
  same_used : {A : Type 0} (b : Bool) → n' ≡ (when b then suc n else n) → n' ≡ n → (y z : A) → z ≡ (when b then y else z)
  same_used true d s y z = absurd (omega arith)
  same_used false d s y z = refl

  abbrev words : ℕ → List ℕ
  words p = p ∷ x.key ∷ x.one ∷ x.two ∷ []

  unpushed : (p : ℕ) → q' ≡ nodes_pushed q n (words p) → n' ≡ n → q' ≡ q
  unpushed p w s = w ∙ sym (same_used (ltb n (node_room q)) e s (sets q (4 * n) (words p)) q)

  pub append_full : (t : List ℕ) (j p : ℕ) → q' ≡ nodes_pushed q n (words p) → n' ≡ n → stored n c t q' ≡ append_node j x (stored n c t q)
  unfolding append_node
  append_full t j p w s =
      ap (stored n c t) (unpushed p w s) ∙ same_used (ltb n (node_room q)) e s (appended j x (stored n c t q)) (stored n c t q)

  pub call_full : (t : List ℕ) → q' ≡ nodes_pushed q n (words c) → n' ≡ n → stored n c t q' ≡ append_call x (stored n c t q)
  unfolding append_call
  call_full t w s =
      ap (stored n c t) (unpushed c w s) ∙ same_used (ltb n (node_room q)) e s (appended_call x (stored n c t q)) (stored n c t q)

  pub append_more : (t t' : List ℕ) (j p : ℕ) → p ≡ get_or t j 0 → q' ≡ nodes_pushed q n (words p) → (n' ≡ n → ⊥) → t' ≡ set t j n' → stored n' c t' q' ≡ append_node j x (stored n c t q)
  unfolding append_node
  append_more t t' j p d w s m = go (ltb n (node_room q)) e w
    where
      go : (b : Bool) → n' ≡ (when b then suc n else n) → q' ≡ (when b then sets q (4 * n) (words p) else q) → stored n' c t' q' ≡ (when b then appended j x (stored n c t q) else stored n c t q)
      go true u v = rw (m, v, u, d)
      go false u v = absurd (s u)

  pub call_more : (t : List ℕ) → q' ≡ nodes_pushed q n (words c) → (n' ≡ n → ⊥) → stored n' n' t q' ≡ append_call x (stored n c t q)
  unfolding append_call
  call_more t w s = go (ltb n (node_room q)) e w
    where
      go : (b : Bool) → n' ≡ (when b then suc n else n) → q' ≡ (when b then sets q (4 * n) (words c) else q) → stored n' n' t q' ≡ (when b then appended_call x (stored n c t q) else stored n c t q)
      go true u v = rw (v, u)
      go false u v = absurd (s u)

-- a node whose key is in the list of word j, and one whose key is not
module _ (j : ℕ) (x : Node) (o : Store) (p : ℕ) (e : p ≡ get_or o.table j 0) where
  pub add_there : true ≡ has_key x.key (chain_to o.nodes p) → o ≡ add_new j x o
  unfolding add_new list_at
  add_there h = rw (← e, ← h)

  pub add_absent : {z : Store} → false ≡ has_key x.key (chain_to o.nodes p) → z ≡ append_node j x o → z ≡ add_new j x o
  unfolding add_new list_at
  add_absent h d = rw (← e, ← h) d

-- is an entry the scope mark of a function?
abbrev pub is_function : Sheet → List ℕ → ℕ → Bool
is_function s v i = eqb (entry_word v i 0) 1 && is s 6 (entry_word v i 1)

module _ (s : Sheet) (v : List ℕ) (i : ℕ) where
  pub function_mark : (f k : ℕ) → entry_word v i 0 ≡ 1 → f ≡ entry_word v i 1 → k ≡ word s f 0 → eqb k 6 ≡ is_function s v i
  function_mark f k e d w = rw (w, d, eq-eqb (entry_word v i 0) 1 e)

  pub function_none : (entry_word v i 0 ≡ 1 → ⊥) → false ≡ is_function s v i
  function_none f = rw (ne_eqb (entry_word v i 0) 1 f)

both : (t u : Bool) → true ≡ (t && u) → (t ≡ true) × (u ≡ true)
both true u h = (refl, sym h)
both false u h = absurd (true≢false h)

-- the functions around, one entry at a time from the last
module _ (s : Sheet) (v : List ℕ) (i : ℕ) (l : 0 < i) where
  abbrev tag : ℕ
  tag = entry_word v (i - 1) 0

  abbrev row : ℕ
  row = entry_word v (i - 1) 1

  pub functions_there : {f : ℕ} → true ≡ is_function s v (i - 1) → f ≡ row → function_marks s v i ≡ f ∷ function_marks s v (i - 1)
  functions_there h e =
      let d = both (eqb tag 1) (is s 6 row) h in
      marks_function s v i l (eqb-true tag 1 d.0) (eqb-true (kind s row) 6 d.1) ∙ ap (λ (f : ℕ). f ∷ function_marks s v (i - 1)) (sym e)

  pub functions_skip : false ≡ is_function s v (i - 1) → function_marks s v i ≡ function_marks s v (i - 1)
  functions_skip h = go (eqb tag 1) refl
    where
      go : (b : Bool) → eqb tag 1 ≡ b → function_marks s v i ≡ function_marks s v (i - 1)
      go true e = marks_scope s v i l (eqb-true tag 1 e) (eqb-false (kind s row) 6 (sym (h ∙ ap (λ (b : Bool). b && is s 6 row) e)))
      go false e = marks_other s v i l (eqb-false tag 1 e)

pub functions_end : (s : Sheet) (v : List ℕ) (i : ℕ) → i ≤ 0 → function_marks s v i ≡ []
unfolding function_marks
functions_end s v i l = marks_none s v i l
