-- The open entries agree with the definition's stack, event by event.
use mathlib.Core.Path.{◌≡◌, refl, sym, ap, ◌∙◌, subst}
use mathlib.Core.Logic.{◌⊎◌, inl, inr, ⊎_elim}
use mathlib.Core.List.{List, [], ◌∷◌}
use mathlib.Core.Bool.{Bool, true, false, true≢false}
use Prim.Native.Nat.{ℕ, suc, ◌+◌, ◌*◌, ◌/◌, ◌<◌, ◌≤◌}
use native.Mathlib.Omega.{arith}
use lib.ListN.{length, get_or}
use lib.Seq.{sets, length-sets}
use lib.Dec.{eqb, leb, ltb}
use borrow.Author.Tests.{lt-ltb, ltb-true, ltb-false, eqb-true, eqb-false}
use Rattle.definition.specs.Basics.{when◌then◌else◌, head}
use Rattle.definition.specs.Sheet.{Sheet, is, a}
use Rattle.definition.specs.Meaning.{Meaning, nothing, function, class, global, toplevel, variable}
use Rattle.definition.specs.Walk.{Event, enter, leave, loop, declare, bring, visit}
use Rattle.definition.specs.Scope.{Entry, scope, looping, bound, Stack, lookup, around, closed, declared, step, inside}
use Rattle.definition.specs.Slots.{is_local, open_locals}
use Rattle.machine.specs.Machine.{entry_room, entry_word, tag_of, first_of, second_of, last_mark, Scopes, searched, lookup_meaning}
use Rattle.machine.specs.Machine.{open_functions, current_function, count_pushed, words_pushed, one_more, push_name}
use Rattle.machine.specs.Machine.{new_meaning, step_scopes}
use Rattle.machine.proofs.Words.{sets_in, sets_out}
use Rattle.machine.proofs.Entries.{entry_of, entries, entries_length, find_is, top_is, around_is, closed_is, mark_le, mark_lt, entries_same}

pub record ScopesAgree (s : Sheet) (z : Stack) (p : Scopes) : Type 0 where
  pub stack_is : entries p.env p.count ≡ z
  pub whole : p.count ≤ length p.env / 5
  pub slot_is : p.slot ≡ open_locals s z
  pub slots : (i : ℕ) → i < p.count → entry_word p.env i 4 ≡ open_locals s (entries p.env i)
  pub fun_is_lem : p.fun ≡ inside s z
  pub funs_kept : (i : ℕ) → i < p.count → leb (entry_word p.env i 0) 1 ≡ true → entry_word p.env i 2 ≡ head (around s (entries p.env i))

-- An entry pushed. The length of the buffer does not change.
pub pushed_length : (v : List ℕ) (n : ℕ) (ws : List ℕ) → length (words_pushed v n ws) ≡ length v
pushed_length v n ws = by (ltb n (entry_room v))
  where
    by : (t : Bool) → length (when t then sets v (5 * n) ws else v) ≡ length v
    by true = length-sets v (5 * n) ws
    by false = refl

module _ (v : List ℕ) (n t m x y k : ℕ) (room : n < entry_room v) where
  pub push_below : (i : ℕ) → i < n → (c : ℕ) → c < 5 → entry_word (words_pushed v n (t ∷ m ∷ x ∷ y ∷ k ∷ [])) i c ≡ entry_word v i c
  push_below i h c g = rw (lt-ltb n (entry_room v) room) (sets_out (t ∷ m ∷ x ∷ y ∷ k ∷ []) v (5 * n) (5 * i + c) (inl (omega arith)))

  pub push_at : (c : ℕ) → c < 5 → entry_word (words_pushed v n (t ∷ m ∷ x ∷ y ∷ k ∷ [])) n c ≡ get_or (t ∷ m ∷ x ∷ y ∷ k ∷ []) c 0
  push_at c g = rw (lt-ltb n (entry_room v) room) (sets_in (t ∷ m ∷ x ∷ y ∷ k ∷ []) v (5 * n) c g (omega arith))

  pub push_more : count_pushed v n ≡ suc n
  push_more = rw (lt-ltb n (entry_room v) room)

  push_entries : entries (words_pushed v n (t ∷ m ∷ x ∷ y ∷ k ∷ [])) (suc n) ≡ entry_of t m x y ∷ entries v n
  unfolding entries
  push_entries =
      let g₀ = push_at 0 (omega arith) in
      let g₁ = push_at 1 (omega arith) in
      let g₂ = push_at 2 (omega arith) in
      let g₃ = push_at 3 (omega arith) in
      rw (g₀, g₁, g₂, g₃, entries_same v (words_pushed v n (t ∷ m ∷ x ∷ y ∷ k ∷ [])) n push_below)

pub split_lt : (i n : ℕ) → i < suc n → (i ≡ n) ⊎ (i < n)
split_lt i n h = go (ltb i n) refl
  where
    go : (t : Bool) → ltb i n ≡ t → (i ≡ n) ⊎ (i < n)
    go true e = inr (ltb-true i n e)
    go false e = inl (omega (arith, ltb-false i n e))

pub upto : (P : ℕ → Type 0) (n i : ℕ) → P n → ((j : ℕ) → j < n → P j) → i < suc n → P i
upto P n i last before h = ⊎_elim (λ (e : i ≡ n). subst P (sym e) last) (λ (l : i < n). before i l) (split_lt i n h)

-- the scopes with an entry pushed
pub scopes_push : (s : Sheet) (z : Stack) (p : Scopes) (e : Entry) (t m x y k' g f' : ℕ) → ScopesAgree s z p → length z < entry_room p.env
    → entry_of t m x y ≡ e → k' ≡ open_locals s (e ∷ z)
    → f' ≡ head (around s (e ∷ z)) → (leb t 1 ≡ true → x ≡ p.fun)
    → ScopesAgree s (e ∷ z)
    (record { count = count_pushed p.env p.count; slot = k'; fun = f'; next_global = g; env = words_pushed p.env p.count (t ∷ m ∷ x ∷ y ∷ p.slot ∷ []) })
scopes_push s z p e t m x y k' g f' o room ee ek ef ex =
    let v : List ℕ = p.env in
    let n : ℕ = p.count in
    let ln : length z ≡ n = ap length (sym o.stack_is) ∙ entries_length v n in
    let r : n < entry_room v = omega arith in
    let v' : List ℕ = words_pushed v n (t ∷ m ∷ x ∷ y ∷ p.slot ∷ []) in
    let same : (i : ℕ) → i < n → (c : ℕ) → c < 5 → entry_word v' i c ≡ entry_word v i c = push_below v n t m x y p.slot r in
    let mo : count_pushed v n ≡ suc n = push_more v n t m x y p.slot r in
    record {
      stack_is = ap (entries v') mo ∙ push_entries v n t m x y p.slot r ∙ ap (λ (q : Entry). q ∷ entries v n) ee ∙ ap (λ (q : Stack). e ∷ q) o.stack_is;
      whole = omega (arith, mo, r, pushed_length v n (t ∷ m ∷ x ∷ y ∷ p.slot ∷ []));
      slot_is = ek;
      slots = λ i h. upto (λ q. entry_word v' q 4 ≡ open_locals s (entries v' q)) n i
          (push_at v n t m x y p.slot r 4 (omega arith) ∙ o.slot_is ∙ ap (open_locals s) (sym o.stack_is ∙ sym (entries_same v v' n same)))
          (λ j l. same j l 4 (omega arith) ∙ o.slots j l ∙ ap (open_locals s) (sym (entries_same v v' j (λ i₁ l₁ c q. same i₁ (omega arith) c q))))
          (subst (λ (q : ℕ). i < q) mo h);
      fun_is_lem = ef;
      funs_kept = λ i h. upto (λ q. leb (entry_word v' q 0) 1 ≡ true → entry_word v' q 2 ≡ head (around s (entries v' q))) n i
          (λ b. push_at v n t m x y p.slot r 2 (omega arith) ∙ ex (ap (λ (k : ℕ). leb k 1) (sym (push_at v n t m x y p.slot r 0 (omega arith))) ∙ b)
          ∙ o.fun_is_lem ∙ ap (λ (st : Stack). head (around s st)) (sym o.stack_is ∙ sym (entries_same v v' n same)))
          (λ j l b. same j l 2 (omega arith) ∙ o.funs_kept j l (ap (λ (k : ℕ). leb k 1) (sym (same j l 0 (omega arith))) ∙ b)
          ∙ ap (λ (st : Stack). head (around s st)) (sym (entries_same v v' j (λ i₁ l₁ c q. same i₁ (omega arith) c q))))
          (subst (λ (q : ℕ). i < q) mo h);
    }

-- the words of a declaration's entry give back what it declares
coded : (m n : ℕ) (d : Meaning) → entry_of (tag_of d) m (first_of d) (second_of d n) ≡ bound m d
coded m n nothing = refl
coded m n (function f) = refl
coded m n (class c) = refl
coded m n (global g k) = refl
coded m n (toplevel r) = refl
coded m n (variable r f) = refl

no_mark : (d : Meaning) (x : ℕ) → leb (tag_of d) 1 ≡ true → first_of d ≡ x
no_mark nothing x e = absurd (true≢false (sym e))
no_mark (function f) x e = absurd (true≢false (sym e))
no_mark (class c) x e = absurd (true≢false (sym e))
no_mark (global g m) x e = absurd (true≢false (sym e))
no_mark (toplevel r) x e = absurd (true≢false (sym e))
no_mark (variable r f) x e = absurd (true≢false (sym e))

-- no more locals are open than entries
locals_le : (s : Sheet) (st : Stack) → open_locals s st ≤ length st
locals_le s [] = omega arith
locals_le s (scope r ∷ st) = omega (arith, locals_le s st)
locals_le s (looping ∷ st) = omega (arith, locals_le s st)
locals_le s (bound m d ∷ st) = by (is_local s d) (locals_le s st)
  where
    by : (t : Bool) → open_locals s st ≤ length st → (when t then suc (open_locals s st) else open_locals s st) ≤ suc (length st)
    by true h = omega arith
    by false h = omega arith

pub one_more_is : (n : ℕ) → n < 4294967295 → one_more n ≡ suc n
one_more_is n h = rw (lt-ltb n 4294967295 h)

pub slot_small : (s : Sheet) (z : Stack) (p : Scopes) → ScopesAgree s z p → length z < 4294967295 → p.slot < 4294967295
slot_small s z p o h = omega (arith, o.slot_is, locals_le s z)

pub scopes_name : (s : Sheet) (m : ℕ) (d : Meaning) (z : Stack) (p : Scopes) → length z < entry_room p.env → length z < 4294967295
    → ScopesAgree s z p → ScopesAgree s (bound m d ∷ z) (push_name s m d p)
scopes_name s m d z p room small o =
    scopes_push s z p (bound m d) (tag_of d) m (first_of d) (second_of d p.next_global) _ _ p.fun o room (coded m p.next_global d)
    (ap (λ (k : ℕ). when is_local s d then k else p.slot) (one_more_is p.slot (slot_small s z p o small))
    ∙ ap (λ (k : ℕ). when is_local s d then suc k else k) o.slot_is)
    o.fun_is_lem (no_mark d p.fun)

-- what is looked up
module _ (s : Sheet) (z : Stack) (p : Scopes) (o : ScopesAgree s z p) where
  -- all entries in use are searched
  pub searched_is : searched p ≡ p.count
  unfolding searched
  searched_is = omega (arith, o.whole)

  pub lookup_is : (m : ℕ) → lookup m z ≡ lookup_meaning p m
  unfolding lookup_meaning
  lookup_is m = rw (searched_is, ← o.stack_is, find_is, top_is)

  pub functions_is : around s z ≡ open_functions s p
  unfolding open_functions
  functions_is = rw (← o.stack_is) (around_is s p.env p.count)

  pub current_is : inside s z ≡ current_function p
  unfolding current_function
  current_is = sym o.fun_is_lem

  pub new_meaning_is : (r : ℕ) → declared s r (inside s z) ≡ new_meaning s r p
  unfolding new_meaning
  new_meaning_is r = rw current_is

-- the slot at the last mark
slot_at : (s : Sheet) (v : List ℕ) (n : ℕ) → ((i : ℕ) → i < n → entry_word v i 4 ≡ open_locals s (entries v i))
    → (when eqb (last_mark v n) 0 then 0 else entry_word v (last_mark v n) 4) ≡ open_locals s (entries v (last_mark v n))
unfolding entries
slot_at s v n h = go (eqb (last_mark v n) 0) refl (mark_lt v n)
  where
    go : (t : Bool) → eqb (last_mark v n) 0 ≡ t
        → (last_mark v n ≡ 0) ⊎ ((last_mark v n < n) × (leb (entry_word v (last_mark v n) 0) 1 ≡ true))
        → (when t then 0 else entry_word v (last_mark v n) 4) ≡ open_locals s (entries v (last_mark v n))
    go true e m = rw (eqb-true (last_mark v n) 0 e)
    go false e (inl m) = absurd (eqb-false (last_mark v n) 0 e m)
    go false e (inr l) = h (last_mark v n) l.0

-- the function at the last mark
fun_at : (s : Sheet) (v : List ℕ) (n : ℕ) → ((i : ℕ) → i < n → leb (entry_word v i 0) 1 ≡ true → entry_word v i 2 ≡ head (around s (entries v i)))
    → (when eqb (last_mark v n) 0 then 0 else entry_word v (last_mark v n) 2) ≡ head (around s (entries v (last_mark v n)))
unfolding entries
fun_at s v n h = go (eqb (last_mark v n) 0) refl (mark_lt v n)
  where
    go : (t : Bool) → eqb (last_mark v n) 0 ≡ t
        → (last_mark v n ≡ 0) ⊎ ((last_mark v n < n) × (leb (entry_word v (last_mark v n) 0) 1 ≡ true))
        → (when t then 0 else entry_word v (last_mark v n) 2) ≡ head (around s (entries v (last_mark v n)))
    go true e m = rw (eqb-true (last_mark v n) 0 e)
    go false e (inl m) = absurd (eqb-false (last_mark v n) 0 e m)
    go false e (inr l) = h (last_mark v n) l.0 l.1

-- the entries agree after an event, if there is room for one more
pub scopes_step : (s : Sheet) (e : Event) (z : Stack) (p : Scopes) → length z < entry_room p.env → length z < 4294967295 → ScopesAgree s z p → ScopesAgree s (step s z e) (step_scopes s e p)
unfolding step_scopes
scopes_step s (enter r) z p room small o =
    scopes_push s z p (scope r) 1 r p.fun 0 p.slot p.next_global (when is s 6 r then r else p.fun) o room refl
    o.slot_is (enter_fun (is s 6 r)) (λ e. refl)
  where
    enter_fun : (t : Bool) → (when t then r else p.fun) ≡ head (when t then r ∷ around s z else around s z)
    enter_fun true = refl
    enter_fun false = o.fun_is_lem
scopes_step s leave z p room small o =
    record {
      stack_is = closed_at;
      whole = omega (arith, mark_le p.env p.count, o.whole);
      slot_is = slot_at s p.env p.count o.slots ∙ ap (open_locals s) closed_at;
      slots = λ i h. o.slots i (omega (arith, mark_le p.env p.count));
      fun_is_lem = fun_at s p.env p.count o.funs_kept ∙ ap (λ (st : Stack). head (around s st)) closed_at;
      funs_kept = λ i h. o.funs_kept i (omega (arith, mark_le p.env p.count));
    }
  where
    closed_at : entries p.env (last_mark p.env p.count) ≡ closed z
    closed_at = sym (closed_is p.env p.count) ∙ ap closed o.stack_is
scopes_step s loop z p room small o = scopes_push s z p looping 0 0 p.fun 0 p.slot p.next_global p.fun o room refl o.slot_is o.fun_is_lem (λ e. refl)
scopes_step s (declare r) z p room small o =
    subst (λ (d : Meaning). ScopesAgree s (bound (a s r) d ∷ z) (push_name s (a s r) (new_meaning s r p) p)) (sym (new_meaning_is s z p o r))
    (scopes_name s (a s r) (new_meaning s r p) z p room small o)
scopes_step s (bring r n d) z p room small o = scopes_name s n d z p room small o
scopes_step s (visit r) z p room small o = o
