-- What the open entries leave when the body ends is what is laid over, and the state is otherwise as after the whole walk.
use mathlib.Core.Path.{◌≡◌, refl, sym, ap, ◌∙◌, subst}
use mathlib.Core.List.{List, [], ◌∷◌, ◌++◌, map, append-nil, append_assoc}
use mathlib.Core.Bool.{Bool, true, false, not, true≢false}
use Prim.Native.Nat.{ℕ, zero, suc, ◌+◌, ◌-◌, ◌/◌, ◌≤◌}
use native.Mathlib.Omega.{arith}
use lib.ListN.{length, drop, length-append, length-map}
use lib.Seq.{drop_at}
use lib.Dec.{eqb, leb}
use borrow.Author.Tests.{ne_eqb, eqb-true}
use Rattle.definition.specs.Basics.{when◌then◌else◌, bit, head}
use Rattle.definition.specs.Sheet.{Sheet, kind, child, rows, b, kids_of}
use Rattle.definition.specs.Meaning.{Meaning, Named, named, nothing, function, class, global, toplevel, variable}
use Rattle.definition.specs.Outside.{Outside, based}
use Rattle.definition.specs.Walk.{Event, leave}
use Rattle.definition.specs.Scope.{Stack, scope, looping, bound, Moment, start, run, moments, history}
use Rattle.definition.specs.Answer.{raised_function, raised_class}
use Rattle.definition.proofs.Lists.Members.{map_append}
use Rattle.definition.proofs.Walk.Moments.{moments_append}
use Rattle.definition.specs.Question.{Refusal}
use Rattle.definition.specs.Format.{sheet_fits}
use Rattle.definition.proofs.Lists.Tests.{true_of}
use Rattle.definition.proofs.Format.Facts.{facts, header_kind}
use Rattle.machine.specs.Machine.{State, Scopes, Store, entry_room, node_room, entry_word, meaning_of, meaning_at, global_at, start_state, step_state, run_state, step_scopes, check_event}
use Rattle.machine.specs.Machine.{step_store, store_row, store_hidden, store_local, store_capture, store_field, store_call}
use Rattle.machine.specs.Reads.{StoreReads, Walked, later_refusal, walk_refusal}
use Rattle.machine.proofs.Refinement.{StateAgrees}
use Rattle.machine.proofs.Theorems.{walk_refines, walk_agrees}
use Rattle.walk.proofs.RunLaws.{run_append}
use Rattle.row_events.specs.Prepared.{Ready}
use Rattle.machine.proofs.Entries.{entries, entries_length}
use Rattle.machine.proofs.Globals.{Known, numbered, unnumbered, known_on}
use Rattle.session.specs.Enter.{left, laid_by, scope_of}
use Rattle.entry_walk.specs.Laid.{OneUnit, left_by, left_in, left_from, BodyWalked}
use Rattle.session.proofs.UnitRows.{UnitRows}
use Rattle.session.proofs.UnitEvents.{body_events, walk_is}
use Rattle.session.proofs.UnitStack.{declared_on, declared_is, on_start}

-- one open entry more, and a run in two parts
left_split : (s : Sheet) (n : ℕ) (v : List ℕ) (k i m : ℕ) → left_from s n v k (i + m) ≡ left_from s n v k i ++ left_from s n v (k + i) m
unfolding left_from
left_split s n v k zero m =
    let e₁ : 0 + m ≡ m = omega arith in
    let e₂ : k ≡ k + 0 = omega arith in
    ap (left_from s n v k) e₁ ∙ ap (λ (j : ℕ). left_from s n v j m) e₂
left_split s n v k (suc i) m =
    let e₁ : suc i + m ≡ suc (i + m) = omega arith in
    let e₂ : suc k + i ≡ k + suc i = omega arith in
    ap (left_from s n v k) e₁ ∙ ap (λ (l : List Named). left_in s n v k ++ l) (left_split s n v (suc k) i m)
    ∙ sym (append_assoc (left_in s n v k) (left_from s n v (suc k) i) (left_from s n v (suc k + i) m))
    ∙ ap (λ (j : ℕ). left_in s n v k ++ left_from s n v (suc k) i ++ left_from s n v j m) e₂

left_one : (s : Sheet) (n : ℕ) (v : List ℕ) (i : ℕ) → left_from s n v 0 (suc i) ≡ left_from s n v 0 i ++ left_in s n v i
unfolding left_from
left_one s n v i =
    let e₁ : suc i ≡ i + 1 = omega arith in
    let e₂ : 0 + i ≡ i = omega arith in
    ap (left_from s n v 0) e₁ ∙ left_split s n v 0 i 1 ∙ ap (λ (l : List Named). left_from s n v 0 i ++ l) (append-nil (left_in s n v (0 + i)) ∙ ap (left_in s n v) e₂)

module _ (O : Outside) (s : Sheet) (n : ℕ) where
  -- what a declaration means to later entries
  abbrev kept : Named → Named
  kept x = named x.name (left (based O n) s x.means)

  -- an open entry's words tell it, by the tests on its tag
  left_cases : (b₃ b₄ b₅ b₆ b₇ : Bool) (x y : ℕ) → (b₆ ≡ true → b₇ ≡ false)
      → Known s (history O s) y (when b₃ then function x else when b₄ then class x else when b₅ then global x y else when b₆ then variable x y else when b₇ then toplevel x else nothing)
      → (when b₃ then function (raised_function n x) else when b₄ then class (raised_class n x) else when b₅ then global x y else when b₇ then global y (bit (eqb (b s x) 1)) else nothing)
      ≡ left (based O n) s (when b₃ then function x else when b₄ then class x else when b₅ then global x y else when b₆ then variable x y else when b₇ then toplevel x else nothing)
  left_cases true b₄ b₅ b₆ b₇ x y h k = refl
  left_cases false true b₅ b₆ b₇ x y h k = refl
  left_cases false false true b₆ b₇ x y h k = refl
  left_cases false false false true true x y h k = absurd (true≢false (h refl))
  left_cases false false false true false x y h k = refl
  left_cases false false false false true x y h (numbered e l) = ap (λ (g : ℕ). global g (bit (eqb (b s x) 1))) e
  left_cases false false false false true x y h (unnumbered e) = absurd (true≢false e)
  left_cases false false false false false x y h k = refl

  left_is : (t x y : ℕ) → Known s (history O s) y (meaning_of t x y) → left_by s n t x y ≡ left (based O n) s (meaning_of t x y)
  left_is t x y k =
      left_cases (eqb t 3) (eqb t 4) (eqb t 5) (eqb t 6) (eqb t 7) x y (λ e. let six : t ≡ 6 = eqb-true t 6 e in ne_eqb t 7 (λ q. omega arith)) k

  -- the names declared on the first k entries, as they are left
  names_left : (v : List ℕ) (k : ℕ) → ((i : ℕ) → i ≤ k → Known s (history O s) (global_at v i) (meaning_at v i)) → left_from s n v 0 k ≡ map kept (declared_on (entries v k))
  unfolding left_from entries meaning_at global_at
  names_left v zero h = refl
  names_left v (suc k) h =
      left_one s n v k ∙ ap (λ (l : List Named). l ++ left_in s n v k) (names_left v k (λ i l. h i (omega arith)))
      ∙ one (leb (entry_word v k 0) 1) refl (eqb (entry_word v k 0) 0)
    where
      one : (t : Bool) → leb (entry_word v k 0) 1 ≡ t → (u : Bool)
          → map kept (declared_on (entries v k))
          ++ (when t then [] else named (entry_word v k 1) (left_by s n (entry_word v k 0) (entry_word v k 2) (entry_word v k 3)) ∷ [])
          ≡ map kept (declared_on ((when t then (when u then looping else scope (entry_word v k 1)) else bound (entry_word v k 1)
          (meaning_of (entry_word v k 0) (entry_word v k 2) (entry_word v k 3))) ∷ entries v k))
      one true e true = append-nil (map kept (declared_on (entries v k)))
      one true e false = append-nil (map kept (declared_on (entries v k)))
      one false e u =
          ap (λ (d : Meaning). map kept (declared_on (entries v k)) ++ (named (entry_word v k 1) d ∷ [])) (left_is (entry_word v k 0) (entry_word v k 2) (entry_word v k 3) (h (suc k) (omega arith)))
          ∙ sym (map_append kept (declared_on (entries v k)) (named (entry_word v k 1) (meaning_of (entry_word v k 0) (entry_word v k 2) (entry_word v k 3)) ∷ []))

  -- those above the first m
  above : (v : List ℕ) (m k : ℕ) (lower upper : List Named) → m ≤ k → ((i : ℕ) → i ≤ k → Known s (history O s) (global_at v i) (meaning_at v i))
      → declared_on (entries v m) ≡ lower → declared_on (entries v k) ≡ lower ++ upper → left_from s n v m (k - m) ≡ map kept upper
  above v m k lower upper l h e₁ e₂ =
      cancel (map kept lower)
      (ap (λ (x : List Named). x ++ left_from s n v m (k - m)) (sym (names_left v m (λ i q. h i (omega arith)) ∙ ap (map kept) e₁))
      ∙ ap (λ (j : ℕ). left_from s n v 0 m ++ left_from s n v j (k - m)) at_m ∙ sym (left_split s n v 0 m (k - m)) ∙ ap (left_from s n v 0) whole
      ∙ names_left v k h ∙ ap (map kept) e₂ ∙ map_append kept lower upper)
    where
      at_m : m ≡ 0 + m
      at_m = omega arith

      whole : m + (k - m) ≡ k
      whole = omega arith

      cancel : (xs : List Named) {ys zs : List Named} → xs ++ ys ≡ xs ++ zs → ys ≡ zs
      cancel [] e = e
      cancel (x ∷ xs) e = cancel xs (ap (drop 1) e)

-- the first k entries are a tail of the stack
entries_below_lem : (v : List ℕ) (k m : ℕ) → drop m (entries v (m + k)) ≡ entries v k
unfolding entries
entries_below_lem v k zero = let e : 0 + k ≡ k = omega arith in ap (entries v) e
entries_below_lem v k (suc m) = let e : suc m + k ≡ suc (m + k) = omega arith in ap (λ (j : ℕ). drop (suc m) (entries v j)) e ∙ entries_below_lem v k m

-- A scope that closes changes nothing that is read after the walk.
leave_stores : (O : Outside) (s : Sheet) (p : Scopes) (o : Store) → step_store O s leave p o ≡ o
unfolding step_store store_row store_hidden store_local store_capture store_field store_call
leave_stores O s p o = refl

leave_state : (O : Outside) (s : Sheet) (x : State) → ((step_state O s leave x).refusal ≡ x.refusal)
    × ((step_state O s leave x).scopes.next_global ≡ x.scopes.next_global) × ((step_state O s leave x).store ≡ x.store)
unfolding step_state step_scopes check_event
leave_state O s x = by (not (eqb x.refusal.number 0))
  where
    by : (t : Bool) → let y : State = when t then x else record { scopes = step_scopes s leave x.scopes; store = step_store O s leave x.scopes x.store; refusal = x.refusal } in
        (y.refusal ≡ x.refusal) × (y.scopes.next_global ≡ x.scopes.next_global) × (y.store ≡ x.store)
    by true = (refl, refl, refl)
    by false = (refl, refl, leave_stores O s x.scopes x.store)

walked_before : (O : Outside) (s : Sheet) (x : State) → Walked O s (step_state O s leave x) → Walked O s x
walked_before O s x w =
    let e = leave_state O s x in
    record {
      refused = λ k. sym e.0 ∙ w.refused k;
      globals = sym e.1 ∙ w.globals;
      accepted = λ k. ap (λ (r : Refusal). r.number) (sym e.0) ∙ w.accepted k;
      store = λ k. subst (StoreReads O s) e.2 (w.store k);
      later = λ k. w.later k ∙ ap (later_refusal O s) e.2;
    }

-- The state at the end of the body.
module _ {O : Outside} {s : Sheet} {cs v t q : List ℕ} (ready : Ready O s cs v t q) (one : OneUnit s) {u f b : ℕ} (ok : UnitRows s u f b) where
  es : List Event
  es = body_events (rows s - 4) s u f b

  header : kind s 0 ≡ 0
  header = header_kind ready.past.names s (facts ready.past.names s (true_of (sheet_fits ready.past.names s) ready.past.fitting))

  x : State
  x = run_state O s es (start_state O s v t q)

  as_walked : Walked O s x
  unfolding es x run_state
  as_walked =
      walked_before O s x (walked_before O s (step_state O s leave x) (walked_before O s (step_state O s leave (step_state O s leave x))
      (subst (Walked O s) (ap (λ (l : List Event). run_state O s l (start_state O s v t q)) (walk_is s u f b ok header) ∙ run_append O s es (leave ∷ leave ∷ leave ∷ []) (start_state O s v t q))
      (walk_refines s v t q ready.past ready.lent.clear_rows.zeros ready.lent.for_entries ready.lent.for_rows ready.lent.for_nodes))))

  agrees : (walk_refusal O s).number ≡ 0
      → StateAgrees O s (record { entries = entry_room v; rows = length t / 8; nodes = node_room q }) (moments s (start O) es) (run s (start O) es) x
  unfolding es x
  agrees none =
      walk_agrees s v t q ready.past ready.lent.clear_rows.zeros ready.lent.for_entries ready.lent.for_rows ready.lent.for_nodes none es (leave ∷ leave ∷ leave ∷ [])
      (walk_is s u f b ok header)

  -- what is known of a number stays known
  known_more : (h ms : List Moment) {g : ℕ} {d : Meaning} → Known s h g d → Known s (h ++ ms) g d
  known_more h [] {g} {d} k = subst (λ (l : List Moment). Known s l g d) (sym (append-nil h)) k
  known_more h (m ∷ ms) {g} {d} k = subst (λ (l : List Moment). Known s l g d) (append_assoc h (m ∷ []) ms) (known_more (h ++ (m ∷ [])) ms (known_on s h m k))

  knows : (walk_refusal O s).number ≡ 0 → (i : ℕ) → i ≤ x.scopes.count → Known s (history O s) (global_at x.scopes.env i) (meaning_at x.scopes.env i)
  unfolding es
  knows none i l =
      subst (λ (h : List Moment). Known s h (global_at x.scopes.env i) (meaning_at x.scopes.env i))
      (sym (ap (moments s (start O)) (walk_is s u f b ok header) ∙ moments_append s (start O) es (leave ∷ leave ∷ leave ∷ [])))
      (known_more (moments s (start O) es) _ ((agrees none).numbered.numbers i l))

  laid_left : (walk_refusal O s).number ≡ 0 → (n : ℕ) → left_from s n x.scopes.env (length O.names) (x.scopes.count - length O.names) ≡ laid_by (based O n) s
  unfolding es
  laid_left none n =
      above O s n x.scopes.env (length O.names) x.scopes.count (declared_on (start O)) (scope_of O s u ++ scope_of O s b) (omega (arith, counted)) (knows none)
      (ap declared_on bottom) (ap declared_on there ∙ declared_is O s u f b ok header)
      ∙ ap (λ (l : List Named). map (kept O s n) l) rows_are
    where
      there : entries x.scopes.env x.scopes.count ≡ run s (start O) es
      there = (agrees none).opened.stack_is

      pre : Stack
      pre = (on_start O s u f b ok header).0

      counted : x.scopes.count ≡ length pre + length O.names
      counted =
          sym (entries_length x.scopes.env x.scopes.count) ∙ ap length (there ∙ (on_start O s u f b ok header).1) ∙ length-append pre (start O)
          ∙ ap (λ (m : ℕ). length pre + m) (length-map O.names (λ y. bound y.name y.means))

      bottom : entries x.scopes.env (length O.names) ≡ start O
      bottom =
          sym (entries_below_lem x.scopes.env (length O.names) (length pre)) ∙ ap (λ (m : ℕ). drop (length pre) (entries x.scopes.env m)) (sym counted)
          ∙ ap (drop (length pre)) (there ∙ (on_start O s u f b ok header).1) ∙ drop_at pre (start O) (length pre) refl

      rows_are : scope_of O s u ++ scope_of O s b ≡ scope_of O s (child s 0) ++ scope_of O s (child s (head (kids_of s 6 (child s 0))))
      rows_are =
          ap (λ (r : ℕ). scope_of O s r ++ scope_of O s b) ok.unit_is
          ∙ ap (λ (r : ℕ). scope_of O s (child s 0) ++ scope_of O s r) (ok.body_is ∙ ap (child s) (ok.function_is ∙ ap (λ (r : ℕ). head (kids_of s 6 r)) ok.unit_is))

  pub body_walked : BodyWalked O s (run_state O s (body_events (rows s - 4) s u f b) (start_state O s v t q))
  unfolding es x
  body_walked = record { walked = as_walked; laid = laid_left }
