-- Rows that tell names, written one after another.
use mathlib.Core.Path.{◌≡◌, refl, sym, ap, ◌∙◌}
use mathlib.Core.Bool.{Bool, true, false, not}
use mathlib.Core.List.{List, [], ◌∷◌, ◌++◌, map, append-nil}
use Prim.Native.Nat.{ℕ, zero, suc, ◌+◌, ◌-◌, ◌*◌, ◌<◌, ◌≤◌, min}
use native.Mathlib.Omega.{arith}
use lib.Dec.{ltb}
use lib.ListN.{length}
use borrow.Author.Tests.{eq-eqb, ne_eqb, ltb-true, ltb-false}
use Rattle.definition.specs.Basics.{when◌then◌else◌, ◌∈?◌}
use Rattle.definition.specs.Sheet.{Sheet, a, kids_of}
use Rattle.definition.specs.Outside.{Outside}
use Rattle.outside.specs.Found.{recorded_names}
use Rattle.definition.specs.Classes.{of_sheet}
use Rattle.definition.proofs.Lists.Members.{filter_append}
use Rattle.machine.specs.Machine.{Store, Node, one_more, cell, node_word, node_at, previous, chain_to, list_at}
use Rattle.machine.proofs.ByKind.{list_none, list_more}
use Rattle.after.specs.Inherited.{parent_in}
use Rattle.sink.specs.Sink.{emit}
use Rattle.class_names.specs.Names.{row_names, own_in, names_in, inherited, new_of}
use Rattle.name_rows.specs.Put.{Filled, put, put_all}
use Rattle.class_names.proofs.NameLaws.{names_split}

-- A name, and the names of a list, by the row f that tells a name at a slot; up are the inherited names.
module _ (f : ℕ → ℕ → List ℕ) where
  pub put_one : (m : ℕ) (k : Filled) {ws : List ℕ} {x : Filled} → ws ≡ f m k.slot → x ≡ record { done = emit ws k.done; slot = one_more k.slot } → x ≡ put f m k
  unfolding put
  put_one m k e g = rw e at g

  put_append : (xs ys : List ℕ) (k : Filled) → put_all f (xs ++ ys) k ≡ put_all f ys (put_all f xs k)
  unfolding put_all
  put_append [] ys k = refl
  put_append (x ∷ xs) ys k = put_append xs ys (put f x k)

  pub put_none : (k : Filled) → k ≡ put_all f [] k
  unfolding put_all
  put_none k = refl

  pub put_then : (xs ys : List ℕ) (k : Filled) {x y : Filled} → x ≡ put_all f xs k → y ≡ put_all f ys x → y ≡ put_all f (xs ++ ys) k
  put_then xs ys k e g = g ∙ ap (put_all f ys) e ∙ sym (put_append xs ys k)

  module _ (up : List ℕ) where
    pub new_old : (m : ℕ) (k : Filled) → true ≡ (m ∈? up) → k ≡ put_all f (new_of up (m ∷ [])) k
    unfolding put_all
    new_old m k e = rw (sym e)

    pub new_put : (m : ℕ) (k : Filled) {x : Filled} → false ≡ (m ∈? up) → x ≡ put f m k → x ≡ put_all f (new_of up (m ∷ [])) k
    unfolding put_all
    new_put m k e h = rw (sym e) h

    pub new_both : (xs ys : List ℕ) (k : Filled) {x y : Filled} → x ≡ put_all f (new_of up xs) k → y ≡ put_all f (new_of up ys) x → y ≡ put_all f (new_of up (xs ++ ys)) k
    new_both xs ys k e g = put_then (new_of up xs) (new_of up ys) k e g ∙ ap (λ (l : List ℕ). put_all f l k) (sym (filter_append (λ m. not (m ∈? up)) xs ys))

    -- what is left of a list, after one name more
    new_first : (m : ℕ) (ms : List ℕ) (k : Filled) {x : Filled} → x ≡ put_all f (new_of up (m ∷ [])) k → put_all f (new_of up ms) x ≡ put_all f (new_of up (m ∷ ms)) k
    new_first m ms k e = new_both (m ∷ []) ms k e refl

    -- a list of names from its first on, and at its end
    pub new_rest : {m : ℕ} {ms all : List ℕ} (k : Filled) {x : Filled} → all ≡ m ∷ ms → x ≡ put_all f (new_of up (m ∷ [])) k → put_all f (new_of up ms) x ≡ put_all f (new_of up all) k
    new_rest {m} {ms} {all} k e h = new_first m ms k h ∙ ap (λ (l : List ℕ). put_all f (new_of up l) k) (sym e)

    pub new_end : {ms : List ℕ} (k : Filled) → ms ≡ [] → k ≡ put_all f (new_of up ms) k
    new_end k e = put_none k ∙ ap (λ (l : List ℕ). put_all f (new_of up l) k) (sym e)

-- The keys of a list of nodes.
abbrev pub keys_to : List ℕ → ℕ → List ℕ
keys_to q p = map (λ y. y.key) (chain_to q p)

map_last : (xs : List Node) (x : Node) → map (λ (y : Node). y.key) (xs ++ x ∷ []) ≡ map (λ (y : Node). y.key) xs ++ x.key ∷ []
map_last [] x = refl
map_last (y ∷ ys) x = ap (λ (l : List ℕ). y.key ∷ l) (map_last ys x)

module _ (f : ℕ → ℕ → List ℕ) (up q : List ℕ) (p : ℕ) (k : Filled) where
  pub stored_none : p ≡ 0 → k ≡ put_all f (new_of up (keys_to q p)) k
  stored_none e = put_none f k ∙ ap (λ (ys : List Node). put_all f (new_of up (map (λ y. y.key) ys)) k) (sym (list_none q p e))

  pub stored_last : {b m : ℕ} {x y : Filled} → (p ≡ 0 → ⊥) → b ≡ previous q (p - 1) → m ≡ node_word q (p - 1) 1
      → x ≡ put_all f (new_of up (keys_to q b)) k → y ≡ put_all f (new_of up (m ∷ [])) x → y ≡ put_all f (new_of up (keys_to q p)) k
  stored_last {b} {m} g e w h i = new_both f up (keys_to q b) (m ∷ []) k h i ∙ ap (λ (ms : List ℕ). put_all f (new_of up ms) k) keys
    where
      keys : keys_to q b ++ m ∷ [] ≡ keys_to q p
      keys =
          let z : p ≡ suc (p - 1) = omega arith in
          ap (λ (i : ℕ). keys_to q i ++ m ∷ []) e ∙ ap (λ (i : ℕ). keys_to q (previous q (p - 1)) ++ i ∷ []) w
          ∙ sym (ap (keys_to q) z ∙ ap (map (λ (y : Node). y.key)) (list_more q (p - 1)) ∙ map_last (chain_to q (previous q (p - 1))) (node_at q (p - 1)))

-- Own names, by the row or the record of class c.
module _ (O : Outside) (f : ℕ → ℕ → List ℕ) (up : List ℕ) (s : Sheet) (o : Store) (j c : ℕ) (k : Filled) where
  module _ (t : true ≡ of_sheet s c) {x : Filled} (h : x ≡ put_all f (new_of up (map (a s) (kids_of s j (c - 256)))) k) where
    by_row : put_all f (new_of up (row_names s o j (c - 256))) k ≡ put_all f (new_of up (own_in O s o j c)) k
    unfolding own_in
    by_row = ap (λ (u : Bool). put_all f (new_of up (when u then row_names s o j (c - 256) else recorded_names O j c)) k) t

    -- fields: listed, then stored
    pub own_stored : {p : ℕ} {y : Filled} → j ≡ 10 → p ≡ cell o.table (c - 256) 7 → y ≡ put_all f (new_of up (keys_to o.nodes p)) x → y ≡ put_all f (new_of up (own_in O s o j c)) k
    unfolding row_names list_at
    own_stored e w i = new_both f up (map (a s) (kids_of s j (c - 256))) (keys_to o.nodes (cell o.table (c - 256) 7)) k h (rw w at i)
        ∙ ap (λ (u : Bool). put_all f (new_of up (map (a s) (kids_of s j (c - 256)) ++ (when u then keys_to o.nodes (cell o.table (c - 256) 7) else []))) k) (sym (eq-eqb j 10 e)) ∙ by_row

    -- methods: listed
    pub own_listed : (j ≡ 10 → ⊥) → x ≡ put_all f (new_of up (own_in O s o j c)) k
    unfolding row_names
    own_listed e = h ∙ ap (λ (ms : List ℕ). put_all f (new_of up ms) k) (sym (append-nil (map (a s) (kids_of s j (c - 256)))))
        ∙ ap (λ (u : Bool). put_all f (new_of up (map (a s) (kids_of s j (c - 256)) ++ (when u then map (λ y. y.key) (list_at o (8 * (c - 256) + 7)) else []))) k) (sym (ne_eqb j 10 e)) ∙ by_row

  pub own_recorded : {ms : List ℕ} {x : Filled} → false ≡ of_sheet s c → ms ≡ recorded_names O j c → x ≡ put_all f (new_of up ms) k → x ≡ put_all f (new_of up (own_in O s o j c)) k
  unfolding own_in
  own_recorded t e h = h ∙ ap (λ (ms : List ℕ). put_all f (new_of up ms) k) e ∙ ap (λ (u : Bool). put_all f (new_of up (when u then row_names s o j (c - 256) else recorded_names O j c)) k) t

-- Names after inheritance: above class c, with n classes left to climb, stands class p.
pub names_zero : (O : Outside) (f : ℕ → ℕ → List ℕ) (s : Sheet) (o : Store) (j n c : ℕ) (k : Filled) → n ≡ 0 → k ≡ put_all f (names_in O s o j n c) k
unfolding names_in
names_zero O f s o j zero c k e = put_none f k
names_zero O f s o j (suc n) c k e = absurd (omega arith)

module _ (O : Outside) (f : ℕ → ℕ → List ℕ) (s : Sheet) (o : Store) (j n c : ℕ) (k : Filled) (l : n ≡ 0 → ⊥) {p : ℕ} (e : p ≡ parent_in s o c) where
  split : inherited O s o j (n - 1) p ++ new_of (inherited O s o j (n - 1) p) (own_in O s o j c) ≡ names_in O s o j n c
  split =
      let z : n ≡ suc (n - 1) = omega arith in
      ap (λ (i : ℕ). inherited O s o j (n - 1) i ++ new_of (inherited O s o j (n - 1) i) (own_in O s o j c)) e
      ∙ sym (ap (λ (i : ℕ). names_in O s o j i c) z ∙ names_split O s o j (n - 1) c)

  both : {x y : Filled} → x ≡ put_all f (inherited O s o j (n - 1) p) k → y ≡ put_all f (new_of (inherited O s o j (n - 1) p) (own_in O s o j c)) x → y ≡ put_all f (names_in O s o j n c) k
  both g h =
      put_then f (inherited O s o j (n - 1) p) (new_of (inherited O s o j (n - 1) p) (own_in O s o j c)) k g h ∙ ap (λ (ms : List ℕ). put_all f ms k) split

  pub names_first : {y : Filled} → p ≡ 0 → y ≡ put_all f (new_of (inherited O s o j (n - 1) p) (own_in O s o j c)) k → y ≡ put_all f (names_in O s o j n c) k
  unfolding inherited
  names_first z h = both (rw (eq-eqb p 0 z) (put_none f k)) h

  pub names_after : {x y : Filled} → (p ≡ 0 → ⊥) → x ≡ put_all f (names_in O s o j (n - 1) p) k
      → y ≡ put_all f (new_of (inherited O s o j (n - 1) p) (own_in O s o j c)) x → y ≡ put_all f (names_in O s o j n c) k
  unfolding inherited
  names_after z g h = both (rw (ne_eqb p 0 z) g) h

-- The slot counts the names.
pub slot_counts : (f : ℕ → ℕ → List ℕ) (ms : List ℕ) (k : Filled) → k.slot ≤ 4294967295 → (put_all f ms k).slot ≡ min (k.slot + length ms) 4294967295
unfolding put_all put
slot_counts f [] k l = omega arith
slot_counts f (m ∷ ms) k l = slot_counts f ms (put f m k) (go (ltb k.slot 4294967295) refl).0 ∙ (go (ltb k.slot 4294967295) refl).1
  where
    go : (t : Bool) → ltb k.slot 4294967295 ≡ t
        → (one_more k.slot ≤ 4294967295) × (min (one_more k.slot + length ms) 4294967295 ≡ min (k.slot + suc (length ms)) 4294967295)
    go true e = let h : k.slot < 4294967295 = ltb-true k.slot 4294967295 e in rw e (omega arith, omega arith)
    go false e = let h : 4294967295 ≤ k.slot = ltb-false k.slot 4294967295 e in rw e (omega arith, omega arith)

-- The number of the names, as the slot counts them from 0 on.
pub names_counted : (f : ℕ → ℕ → List ℕ) (ms : List ℕ) (k : Filled) {x : Filled} → k.slot ≡ 0 → x ≡ put_all f ms k → x.slot ≡ min (length ms) 4294967295
names_counted f ms k z e = ap (λ (y : Filled). y.slot) e ∙ slot_counts f ms k (omega arith) ∙ omega arith
