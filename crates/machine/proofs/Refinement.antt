-- The machine, run over a list of events, agrees with the definition after them, or refuses with the definition's first no.
use mathlib.Core.Path.{◌≡◌, refl, sym, ap, ◌∙◌, subst}
use mathlib.Core.List.{List, [], ◌∷◌, ◌++◌, map, append-nil, append_assoc}
use mathlib.Core.Bool.{Bool, true, false}
use Prim.Native.Nat.{ℕ, ◌/◌, ◌<◌, ◌≤◌, min}
use native.Mathlib.Omega.{arith}
use lib.ListN.{length}
use lib.Dec.{eqb}
use borrow.Author.Tests.{eq-eqb, ne_eqb, eqb-true, eqb-false}
use Rattle.definition.specs.Basics.{◌∈?◌}
use Rattle.definition.specs.Sheet.{Sheet, kind, a}
use Rattle.definition.specs.Outside.{Outside}
use Rattle.definition.specs.Walk.{Event, enter, leave, loop, declare, bring, visit}
use Rattle.definition.specs.Scope.{Stack, Moment, around, inside, step, run, moments}
use Rattle.definition.specs.Slots.{final_globals}
use Rattle.definition.specs.Question.{Refusal, first_no, open_on, ask_event, until_no}
use Rattle.machine.specs.Machine.{node_room, entry_room, tag_of, first_of, second_of, new_meaning, Scopes, Store, State, step_scopes, step_store, check_event, step_state, run_state}
use Rattle.machine.proofs.Nodes.{Extends, extends_trans}
use Rattle.machine.proofs.ScopesAgree.{pushed_length, slot_small, ScopesAgree, scopes_step}
use Rattle.machine.proofs.Questions.{check_is}
use Rattle.machine.proofs.Stacks.{WellFormed, Proper, well_formed_step}
use Rattle.machine.proofs.Captures.{Outward}
use Rattle.machine.proofs.Columns.{store_call_unchanged, store_field_unchanged, store_capture_unchanged, store_local_unchanged, store_hidden_unchanged, store_row_unchanged}
use Rattle.machine.proofs.StoreParts.{nodes_needed}
use Rattle.machine.proofs.Globals.{Numbered, Unlisted, numbered_step, new_known, known_on, number_look}
use Rattle.machine.proofs.StoreAgrees.{StoreAgrees, store_step}

-- How much room the buffers have: open entries, rows, nodes.
pub record Room : Type 0 where
  pub entries : ℕ
  pub rows : ℕ
  pub nodes : ℕ

pub record StateAgrees (O : Outside) (s : Sheet) (room : Room) (h : List Moment) (z : Stack) (x : State) : Type 0 where
  pub opened : ScopesAgree s z x.scopes
  pub numbered : Numbered s h x.scopes
  pub sound : WellFormed s z
  pub kept : StoreAgrees O s h x.store
  pub agreed : x.refusal.number ≡ 0
  pub entries_are : entry_room x.scopes.env ≡ room.entries
  pub rows_are : length x.store.table / 8 ≡ room.rows
  pub nodes_are : node_room x.store.nodes ≡ room.nodes

-- Events that a walk can have, for which there is room, up to the first no.
pub data Runs (O : Outside) (s : Sheet) (room : Room) : List Moment → Stack → List Event → Type 0 where
  over : {h : List Moment} {z : Stack} → Runs O s room h z []
  next : {h : List Moment} {z : Stack} {e : Event} {es : List Event}
      → Proper s z e → Unlisted s h e → length z < 4294967295 → final_globals s h < 4294967295 → length z < room.entries → inside s z < room.rows
      → ((g : ℕ) → (g ∈? around s z) ≡ true → g < room.rows) → Outward s h (record { event = e; stack = z })
      → nodes_needed s (h ++ record { event = e; stack = z } ∷ []) ≤ room.nodes
      → ((ask_event O s e (open_on s z)).number ≡ 0 → Runs O s room (h ++ record { event = e; stack = z } ∷ []) (step s z e) es)
      → Runs O s room h z (e ∷ es)

abbrev pub refusal_of : Outside → Sheet → Stack → List Event → Refusal
refusal_of O s z es = first_no (map (λ m. ask_event O s m.event (open_on s m.stack)) (moments s z es))

-- after a refusal nothing changes
refused_one : (O : Outside) (s : Sheet) (e : Event) (x : State) → (x.refusal.number ≡ 0 → ⊥) → step_state O s e x ≡ x
unfolding step_state
refused_one O s e x n = rw (ne_eqb x.refusal.number 0 n)

pub refused_run : (O : Outside) (s : Sheet) (es : List Event) (x : State) → (x.refusal.number ≡ 0 → ⊥) → run_state O s es x ≡ x
unfolding run_state
refused_run O s [] x n = refl
refused_run O s (e ∷ es) x n = ap (run_state O s es) (refused_one O s e x n) ∙ refused_run O s es x n

-- the lengths of the buffers do not change
move_length : (s : Sheet) (e : Event) (p : Scopes) → length (step_scopes s e p).env ≡ length p.env
unfolding step_scopes
move_length s (enter r) p = pushed_length p.env p.count (1 ∷ r ∷ p.fun ∷ 0 ∷ p.slot ∷ [])
move_length s leave p = refl
move_length s loop p = pushed_length p.env p.count (0 ∷ 0 ∷ p.fun ∷ 0 ∷ p.slot ∷ [])
move_length s (declare r) p = pushed_length p.env p.count (tag_of (new_meaning s r p) ∷ a s r ∷ first_of (new_meaning s r p) ∷ second_of (new_meaning s r p) p.next_global ∷ p.slot ∷ [])
move_length s (bring r n d) p = pushed_length p.env p.count (tag_of d ∷ n ∷ first_of d ∷ second_of d p.next_global ∷ p.slot ∷ [])
move_length s (visit r) p = refl

pub store_extends : (O : Outside) (s : Sheet) (e : Event) (p : Scopes) (o : Store) → Extends o (step_store O s e p o)
unfolding step_store
store_extends O s e p o =
    extends_trans (store_call_unchanged O s e p o).grows (extends_trans (store_field_unchanged O s e p _).grows (extends_trans (store_capture_unchanged O s e p _).grows
    (extends_trans (store_local_unchanged O s e p _).grows (extends_trans (store_hidden_unchanged O s e p _).grows (store_row_unchanged O s e p _).grows))))

-- one event that is not refused
step_accepted : (O : Outside) (s : Sheet) (e : Event) (x : State) → x.refusal.number ≡ 0 → (check_event O s e x.scopes).number ≡ 0
    → step_state O s e x ≡ record { scopes = step_scopes s e x.scopes; store = step_store O s e x.scopes x.store; refusal = x.refusal }
unfolding step_state
step_accepted O s e x y d = rw (eq-eqb x.refusal.number 0 y, eq-eqb (check_event O s e x.scopes).number 0 d)

step_refused : (O : Outside) (s : Sheet) (e : Event) (x : State) → x.refusal.number ≡ 0 → ((check_event O s e x.scopes).number ≡ 0 → ⊥)
    → step_state O s e x ≡ record { scopes = x.scopes; store = x.store; refusal = check_event O s e x.scopes }
unfolding step_state
step_refused O s e x y d = rw (eq-eqb x.refusal.number 0 y, ne_eqb (check_event O s e x.scopes).number 0 d)

state_step : (O : Outside) (s : Sheet) → kind s 0 ≡ 0 → (room : Room) (h : List Moment) (z : Stack) (e : Event) (x : State)
    → Proper s z e → Unlisted s h e → length z < 4294967295 → final_globals s h < 4294967295 → length z < room.entries → inside s z < room.rows
    → ((g : ℕ) → (g ∈? around s z) ≡ true → g < room.rows) → Outward s h (record { event = e; stack = z }) → nodes_needed s (h ++ record { event = e; stack = z } ∷ []) ≤ room.nodes
    → (ask_event O s e (open_on s z)).number ≡ 0
    → StateAgrees O s room h z x → StateAgrees O s room (h ++ record { event = e; stack = z } ∷ []) (step s z e) (step_state O s e x)
state_step O s hd room h z e x pr un w₁ w₂ r₁ r₂ rs out r₃ y g =
    rw (step_accepted O s e x g.agreed (ap (λ (q : Refusal). q.number) (sym (check_is O s z x.scopes g.opened e)) ∙ y))
    (record {
      opened = scopes_step s e z x.scopes (omega (arith, g.entries_are, r₁)) w₁ g.opened;
      numbered = numbered_step s hd h z x.scopes g.opened g.numbered e (omega (arith, g.entries_are, r₁)) (omega (arith, g.numbered.next_is)) un pr;
      sound = well_formed_step s z e pr g.sound;
      kept = store_step O s hd h z x.scopes g.opened g.sound e x.store (λ v. new_known s hd h z x.scopes g.opened g.numbered e v un)
          (λ m. known_on s h (record { event = e; stack = z }) (number_look s h x.scopes g.numbered m))
          (slot_small s z x.scopes g.opened w₁) (omega (arith, g.nodes_are, r₃)) (omega (arith, g.rows_are, r₂))
          (λ k m. omega (arith, g.rows_are, rs k m)) out g.kept;
      agreed = g.agreed;
      entries_are = ap (λ (n : ℕ). min (n / 5) 4294967295) (move_length s e x.scopes) ∙ g.entries_are;
      rows_are = ap (λ (n : ℕ). n / 8) (store_extends O s e x.scopes x.store).table_length ∙ g.rows_are;
      nodes_are = ap (λ (n : ℕ). min (n / 4) 4294967295) (store_extends O s e x.scopes x.store).nodes_length ∙ g.nodes_are;
    })

-- what can be run as a whole can be run up to any event
pub runs_part : {O : Outside} {s : Sheet} {room : Room} {h : List Moment} {z : Stack} (es fs : List Event) → Runs O s room h z (es ++ fs) → Runs O s room h z es
runs_part [] fs w = over
runs_part {h = h} {z = z} (e ∷ es) fs (next pr un w₁ w₂ r₁ r₂ rs out r₃ w) = next pr un w₁ w₂ r₁ r₂ rs out r₃ (λ q. runs_part {h = h ++ record { event = e; stack = z } ∷ []} es fs (w q))

-- How a run ends: accepted in agreement with the definition, or refused with its first no, and globals counted up to there.
pub data Ends (O : Outside) (s : Sheet) (room : Room) (h : List Moment) (z : Stack) (es : List Event) (x : State) : Type 0 where
  accepted : (refusal_of O s z es).number ≡ 0 → StateAgrees O s room (h ++ moments s z es) (run s z es) x → Ends O s room h z es x
  refused : ((refusal_of O s z es).number ≡ 0 → ⊥) → x.refusal ≡ refusal_of O s z es → x.scopes.next_global ≡ final_globals s (h ++ until_no O s (moments s z es))
      → Ends O s room h z es x

no_later : (O : Outside) (s : Sheet) (z : Stack) (e : Event) (es : List Event) → (ask_event O s e (open_on s z)).number ≡ 0 → refusal_of O s z (e ∷ es) ≡ refusal_of O s (step s z e) es
no_later O s z e es q = rw (eq-eqb (ask_event O s e (open_on s z)).number 0 q)

no_here : (O : Outside) (s : Sheet) (z : Stack) (e : Event) (es : List Event) → ((ask_event O s e (open_on s z)).number ≡ 0 → ⊥) → refusal_of O s z (e ∷ es) ≡ ask_event O s e (open_on s z)
no_here O s z e es q = rw (ne_eqb (ask_event O s e (open_on s z)).number 0 q)

numbers : {x y : Refusal} → x ≡ y → x.number ≡ y.number
numbers e = ap (λ (q : Refusal). q.number) e

-- a part of the events has no no either
pub refusal_part : (O : Outside) (s : Sheet) (z : Stack) (es fs : List Event) → (refusal_of O s z (es ++ fs)).number ≡ 0 → (refusal_of O s z es).number ≡ 0
refusal_part O s z [] fs n = refl
refusal_part O s z (e ∷ es) fs n = by (eqb (ask_event O s e (open_on s z)).number 0) refl (refusal_part O s (step s z e) es fs)
  where
    by : (t : Bool) → eqb (ask_event O s e (open_on s z)).number 0 ≡ t → ((refusal_of O s (step s z e) (es ++ fs)).number ≡ 0 → (refusal_of O s (step s z e) es).number ≡ 0)
        → (refusal_of O s z (e ∷ es)).number ≡ 0
    by true q i =
        let y = eqb-true (ask_event O s e (open_on s z)).number 0 q in
        numbers (no_later O s z e es y) ∙ i (sym (numbers (no_later O s z e (es ++ fs) y)) ∙ n)
    by false q i =
        let y = eqb-false (ask_event O s e (open_on s z)).number 0 q in
        absurd (y (sym (numbers (no_here O s z e (es ++ fs) y)) ∙ n))

-- a refused state does not change
refused_here : (O : Outside) (s : Sheet) (z : Stack) (e : Event) (es : List Event) (x : State) → ScopesAgree s z x.scopes → x.refusal.number ≡ 0 → ((ask_event O s e (open_on s z)).number ≡ 0 → ⊥)
    → run_state O s es (step_state O s e x) ≡ record { scopes = x.scopes; store = x.store; refusal = ask_event O s e (open_on s z) }
refused_here O s z e es x o y q =
    let d : ask_event O s e (open_on s z) ≡ check_event O s e x.scopes = check_is O s z x.scopes o e in
    let n : (check_event O s e x.scopes).number ≡ 0 → ⊥ = λ k. q (numbers d ∙ k) in
    ap (run_state O s es) (step_refused O s e x y n)
    ∙ refused_run O s es (record { scopes = x.scopes; store = x.store; refusal = check_event O s e x.scopes }) n
    ∙ ap (λ (k : Refusal). record { scopes = x.scopes; store = x.store; refusal = k }) (sym d)

-- the moments up to the first no, by the question of the first
until_later : (O : Outside) (s : Sheet) (z : Stack) (e : Event) (es : List Event) → (ask_event O s e (open_on s z)).number ≡ 0
    → until_no O s (moments s z (e ∷ es)) ≡ record { event = e; stack = z } ∷ until_no O s (moments s (step s z e) es)
until_later O s z e es q = rw (eq-eqb (ask_event O s e (open_on s z)).number 0 q)

until_here : (O : Outside) (s : Sheet) (z : Stack) (e : Event) (es : List Event) → ((ask_event O s e (open_on s z)).number ≡ 0 → ⊥) → until_no O s (moments s z (e ∷ es)) ≡ []
until_here O s z e es q = rw (ne_eqb (ask_event O s e (open_on s z)).number 0 q)

-- where no question gets a no, they are all
pub until_all : (O : Outside) (s : Sheet) (z : Stack) (es : List Event) → (refusal_of O s z es).number ≡ 0 → until_no O s (moments s z es) ≡ moments s z es
until_all O s z [] n = refl
until_all O s z (e ∷ es) n = by (eqb (ask_event O s e (open_on s z)).number 0) refl (until_all O s (step s z e) es)
  where
    by : (t : Bool) → eqb (ask_event O s e (open_on s z)).number 0 ≡ t
        → ((refusal_of O s (step s z e) es).number ≡ 0 → until_no O s (moments s (step s z e) es) ≡ moments s (step s z e) es) → until_no O s (moments s z (e ∷ es)) ≡ moments s z (e ∷ es)
    by true q i =
        let y = eqb-true (ask_event O s e (open_on s z)).number 0 q in
        until_later O s z e es y ∙ ap (λ (l : List Moment). record { event = e; stack = z } ∷ l) (i (sym (numbers (no_later O s z e es y)) ∙ n))
    by false q i =
        let y = eqb-false (ask_event O s e (open_on s z)).number 0 q in
        absurd (y (sym (numbers (no_here O s z e es y)) ∙ n))

pub refine : (O : Outside) (s : Sheet) → kind s 0 ≡ 0 → (room : Room) (h : List Moment) (z : Stack) (es : List Event) (x : State)
    → Runs O s room h z es → StateAgrees O s room h z x → Ends O s room h z es (run_state O s es x)
unfolding run_state
refine O s hd room h z [] x over g = accepted refl (subst (λ (l : List Moment). StateAgrees O s room l z x) (sym (append-nil h)) g)
refine O s hd room h z (e ∷ es) x (next pr un w₁ w₂ r₁ r₂ rs out r₃ w) g =
    by (eqb (ask_event O s e (open_on s z)).number 0) refl
    (λ q. refine O s hd room (h ++ record { event = e; stack = z } ∷ []) (step s z e) es (step_state O s e x) (w q) (state_step O s hd room h z e x pr un w₁ w₂ r₁ r₂ rs out r₃ q g))
  where
    pass : (ask_event O s e (open_on s z)).number ≡ 0
        → Ends O s room (h ++ record { event = e; stack = z } ∷ []) (step s z e) es (run_state O s es (step_state O s e x)) → Ends O s room h z (e ∷ es) (run_state O s es (step_state O s e x))
    pass q (accepted n i) =
        accepted (numbers (no_later O s z e es q) ∙ n)
        (subst
        (λ (l : List Moment). StateAgrees O s room l (run s (step s z e) es) (run_state O s es (step_state O s e x)))
        (append_assoc h (record { event = e; stack = z } ∷ []) (moments s (step s z e) es)) i)
    pass q (refused n i j) =
        refused (λ k. n (sym (numbers (no_later O s z e es q)) ∙ k)) (i ∙ sym (no_later O s z e es q))
        (j ∙ ap (final_globals s) (append_assoc h (record { event = e; stack = z } ∷ []) _ ∙ ap (λ (l : List Moment). h ++ l) (sym (until_later O s z e es q))))

    by : (t : Bool) → eqb (ask_event O s e (open_on s z)).number 0 ≡ t
        → ((ask_event O s e (open_on s z)).number ≡ 0 → Ends O s room (h ++ record { event = e; stack = z } ∷ []) (step s z e) es (run_state O s es (step_state O s e x)))
        → Ends O s room h z (e ∷ es) (run_state O s es (step_state O s e x))
    by true q i = pass (eqb-true (ask_event O s e (open_on s z)).number 0 q) (i (eqb-true (ask_event O s e (open_on s z)).number 0 q))
    by false q i =
        let n : (ask_event O s e (open_on s z)).number ≡ 0 → ⊥ = eqb-false (ask_event O s e (open_on s z)).number 0 q in
        let stays = refused_here O s z e es x g.opened g.agreed n in
        refused (λ k. n (sym (numbers (no_here O s z e es n)) ∙ k)) (ap (λ (w : State). w.refusal) stays ∙ sym (no_here O s z e es n))
        (ap (λ (w : State). w.scopes.next_global) stays ∙ g.numbered.next_is
        ∙ ap (final_globals s) (sym (append-nil h) ∙ ap (λ (l : List Moment). h ++ l) (sym (until_here O s z e es n))))
