-- What must hold of a sheet for the refinement to hold of its walk.
use mathlib.Core.Path.{◌≡◌, refl, sym, subst}
use mathlib.Core.List.{List, [], ◌∷◌, ◌++◌}
use mathlib.Core.Bool.{Bool, true, false, not, true≢false}
use Prim.Native.Nat.{ℕ, ◌+◌, ◌/◌, ◌<◌, ◌≤◌}
use native.Mathlib.Omega.{arith}
use lib.ListN.{length, get_or}
use lib.Dec.{eqb, ltb, T}
use borrow.Author.Tests.{eqb-true, ltb-true}
use Rattle.definition.specs.Basics.{when◌then◌else◌, count, ◌∈?◌, head}
use Rattle.definition.specs.Sheet.{Sheet, kind, is, rows}
use Rattle.definition.specs.Outside.{Outside, OutsideFits}
use Rattle.definition.specs.Meaning.{Meaning, is_variable, owner_of}
use Rattle.definition.specs.Walk.{Event, enter, leave, loop, declare, bring, visit, walk}
use Rattle.definition.specs.Scope.{Stack, Moment, scope, looping, bound, around, closed, inside, declared, step, start, history, declares}
use Rattle.definition.specs.Slots.{final_globals}
use Rattle.definition.proofs.Lists.Members.{Every, every_one}
use Rattle.definition.proofs.Closure.Declared.{Plain, PlainEvent, plain_trace}
use Rattle.definition.proofs.Walk.Moments.{around_names}
use Rattle.machine.proofs.Stacks.{Proper, p_enter, p_leave, p_loop, p_declare, p_bring, p_visit, Distinct}
use Rattle.machine.proofs.AfterRows.{All, al_none, al_one}
use Rattle.machine.proofs.StoreParts.{nodes_needed}
use Rattle.machine.specs.Machine.{node_room, entry_room, start_state, run_state}
use Rattle.machine.proofs.Refinement.{Room, Runs, Ends, runs_part}
use Rattle.machine.proofs.Reached.{Reached, r_here, r_later, AllOutward, runs_reached, functions_entered, enters_fresh}
use Rattle.machine.proofs.EntryBound.{ImportShallow, entries_pushed, walk_bound, entries_below}
use Rattle.machine.proofs.ImportedMeanings.{NoLet, trace_fixed}
use Rattle.machine.proofs.Start.{refine_start}

-- nothing imported is a local or argument
reached_plain : (O : Outside) (s : Sheet) {z : Stack} {es : List Event} {m : Moment} → Reached O s z es m → Plain es → PlainEvent m.event
reached_plain O s r_here (Plain.one e p) = e
reached_plain O s (r_later q w) (Plain.one e p) = reached_plain O s w p

reached_no_let : (O : Outside) (s : Sheet) {z : Stack} {es : List Event} {m : Moment} → Reached O s z es m → Every NoLet es → NoLet m.event
reached_no_let O s r_here (every_one h f) = h
reached_no_let O s (r_later q w) (every_one h f) = reached_no_let O s w f

not_t : (t : Bool) → T (not t) → t ≡ false
not_t true h = absurd h
not_t false h = refl

plain_bring : {r n : ℕ} {d : Meaning} → PlainEvent (bring r n d) → is_variable d ≡ false
plain_bring {d = d} (PlainEvent.p_bring h) = not_t (is_variable d) h

-- the functions around have been entered
below_closed : (s : Sheet) (n : ℕ) (st : Stack) → All (λ r. ltb r n) (around s st) → All (λ r. ltb r n) (around s (closed st))
below_closed s n [] h = h
below_closed s n (scope r ∷ st) h = by (is s 6 r) h
  where
    by : (t : Bool) → All (λ r. ltb r n) (when t then r ∷ around s st else around s st) → All (λ r. ltb r n) (around s st)
    by true (al_one e q) = q
    by false q = q
below_closed s n (looping ∷ st) h = below_closed s n st h
below_closed s n (bound m d ∷ st) h = below_closed s n st h

entered_tail : (s : Sheet) (n : ℕ) (e : Event) (es : List Event) → All (λ r. ltb r n) (functions_entered s (e ∷ es)) → All (λ r. ltb r n) (functions_entered s es)
entered_tail s n (enter k) es h = by (is s 6 k) h
  where
    by : (t : Bool) → All (λ r. ltb r n) (when t then k ∷ functions_entered s es else functions_entered s es) → All (λ r. ltb r n) (functions_entered s es)
    by true (al_one e q) = q
    by false q = q
entered_tail s n leave es h = h
entered_tail s n loop es h = h
entered_tail s n (declare k) es h = h
entered_tail s n (bring k m d) es h = h
entered_tail s n (visit k) es h = h

below_step : (s : Sheet) (n : ℕ) (z : Stack) (e : Event) (es : List Event)
    → All (λ r. ltb r n) (functions_entered s (e ∷ es)) → All (λ r. ltb r n) (around s z)
    → All (λ r. ltb r n) (around s ((step s z e)))
below_step s n z (enter k) es h g = by (is s 6 k) h
  where
    by : (t : Bool) → All (λ r. ltb r n) (when t then k ∷ functions_entered s es else functions_entered s es) → All (λ r. ltb r n) (when t then k ∷ around s z else around s z)
    by true (al_one e q) = al_one e g
    by false q = g
below_step s n z leave es h g = below_closed s n z g
below_step s n z loop es h g = g
below_step s n z (declare k) es h g = g
below_step s n z (bring k m d) es h g = g
below_step s n z (visit k) es h g = g

around_below : (O : Outside) (s : Sheet) (n : ℕ) {z : Stack} {es : List Event} {m : Moment} → Reached O s z es m
    → All (λ r. ltb r n) (functions_entered s es) → All (λ r. ltb r n) (around s z) → All (λ r. ltb r n) (around s m.stack)
around_below O s n r_here h g = g
around_below O s n (r_later {z} {e} {es} q w) h g = around_below O s n w (entered_tail s n e es h) (below_step s n z e es h g)

head_below : (n : ℕ) (fs : List ℕ) → 0 < n → All (λ r. ltb r n) fs → head fs < n
head_below n [] z h = z
head_below n (f ∷ fs) z (al_one e h) = ltb-true f n e

all_below : (n : ℕ) (fs : List ℕ) → All (λ r. ltb r n) fs → (g : ℕ) → (g ∈? fs) ≡ true → g < n
all_below n [] h g i = absurd (true≢false (sym i))
all_below n (f ∷ fs) (al_one e h) g i = by (eqb g f) refl (all_below n fs h g)
  where
    by : (t : Bool) → eqb g f ≡ t → ((g ∈? fs) ≡ true → g < n) → g < n
    by true q k = let l : f < n = ltb-true f n e in let d : g ≡ f = eqb-true g f q in omega arith
    by false q k = k (rw q at i)

-- Functions are entered once, and are rows; lets are declared once; locals and arguments are declared in functions; captures go outward; imports stand in
-- a unit's scope, and names are below n; the counters fit words, and there is room.
pub record WalkReady (O : Outside) (s : Sheet) (room : Room) (n : ℕ) : Type 0 where
  pub known : OutsideFits O
  pub header : kind s 0 ≡ 0
  pub once : Distinct (functions_entered s (walk s))
  pub are_rows : All (λ r. ltb r room.rows) (functions_entered s (walk s))
  pub some_row : 0 < room.rows
  pub inside_function : (m : Moment) → Reached O s (start O) (walk s) m → (r : ℕ) → m.event ≡ declare r
      → is_variable (declared s r (inside s m.stack)) ≡ true → (owner_of (declared s r (inside s m.stack)) ∈? around s m.stack) ≡ true
  pub outward : AllOutward s (history O s)
  pub lets_once : (r : ℕ) → is s 29 r ≡ true → count (λ e. eqb (declares e) r) (walk s) ≤ 1
  pub shallow : (m : Moment) → Reached O s (start O) (walk s) m → ImportShallow n (entries_below O) m
  pub small_entries : n + entries_below O + entries_pushed (walk s) < 4294967295
  pub small_globals : final_globals s (history O s) < 4294967295
  pub enough_entries : n + entries_below O + entries_pushed (walk s) < room.entries
  pub enough_nodes : nodes_needed s (history O s) ≤ room.nodes

proper_by : (O : Outside) (s : Sheet) (room : Room) (n : ℕ) → WalkReady O s room n → (m : Moment) → Reached O s (start O) (walk s) m → (e : Event) → m.event ≡ e → Proper s m.stack e
proper_by O s room n y m w (enter r) q = p_enter (λ h. enters_fresh O s m y.once w r q h)
proper_by O s room n y m w leave q = p_leave
proper_by O s room n y m w loop q = p_loop
proper_by O s room n y m w (declare r) q = p_declare (y.inside_function m w r q)
proper_by O s room n y m w (bring r k d) q =
    p_bring (plain_bring (subst PlainEvent q (reached_plain O s w (plain_trace (rows s) s 0)))) (subst NoLet q (reached_no_let O s w (trace_fixed (rows s) s 0)))
proper_by O s room n y m w (visit r) q = p_visit

pub ready_runs : (O : Outside) (s : Sheet) (room : Room) (n : ℕ) → WalkReady O s room n → Runs O s room [] (start O) (walk s)
ready_runs O s room n y =
    runs_reached O s room [] (start O) (walk s)
    (λ m w. record {
      proper = proper_by O s room n y m w m.event refl;
      entries_small = omega (arith, walk_bound y.known s n m y.shallow w, y.small_entries);
      entries_left_lem = omega (arith, walk_bound y.known s n m y.shallow w, y.enough_entries);
      row_there = head_below room.rows (around s m.stack) y.some_row (around_below O s room.rows w y.are_rows none_around);
      rows_there = all_below room.rows (around s m.stack) (around_below O s room.rows w y.are_rows none_around);
    })
    y.outward (λ r k. omega (arith, y.lets_once r k)) y.small_globals y.enough_nodes
  where
    none_around : All (λ r. ltb r room.rows) (around s (start O))
    none_around = subst (All (λ r. ltb r room.rows)) (sym (around_names s O.names)) al_none

-- the walk of such a sheet up to any event, with a table of zeros
pub ready_ends : (O : Outside) (s : Sheet) (n : ℕ) (v t q : List ℕ) → ((j : ℕ) → get_or t j 0 ≡ 0)
    → WalkReady O s (record { entries = entry_room v; rows = length t / 8; nodes = node_room q }) n
    → (es fs : List Event) → walk s ≡ es ++ fs
    → Ends O s (record { entries = entry_room v; rows = length t / 8; nodes = node_room q }) [] (start O) es (run_state O s es (start_state O s v t q))
ready_ends O s n v t q z y es fs e =
    refine_start y.known s y.header v t q (omega (arith, y.enough_entries)) z es (runs_part es fs (subst (Runs O s _ [] (start O)) e (ready_runs O s _ n y)))
