-- The hypotheses of the refinement, from facts about the moments that the walk reaches before its first no.
use mathlib.Core.Path.{◌≡◌, refl, sym, ap, ◌∙◌, subst}
use mathlib.Core.List.{List, [], ◌∷◌, ◌++◌, append_assoc}
use mathlib.Core.Bool.{Bool, true, false, ◌||◌, true≢false}
use Prim.Native.Nat.{ℕ, ◌+◌, ◌<◌, ◌≤◌}
use native.Mathlib.Omega.{arith}
use lib.ListN.{length}
use lib.Dec.{eqb}
use borrow.Author.Tests.{eqb-true}
use Rattle.definition.specs.Basics.{when◌then◌else◌, any, bit, count, ◌∈?◌}
use Rattle.definition.specs.Sheet.{Sheet, is}
use Rattle.definition.specs.Outside.{Outside}
use Rattle.definition.specs.Walk.{Event, enter, leave, loop, declare, bring, visit, walk}
use Rattle.definition.specs.Scope.{Stack, Moment, scope, looping, bound, around, closed, inside, step, moments, start, declares}
use Rattle.definition.specs.Question.{open_on, ask_event}
use Rattle.machine.proofs.Lists.{eqb_self}
use Rattle.machine.proofs.Stacks.{Proper, Distinct, a_one}
use Rattle.machine.proofs.Captures.{Outward}
use Rattle.definition.specs.Slots.{global_lets, final_globals}
use Rattle.definition.proofs.Walk.Moments.{around_names}
use Rattle.machine.proofs.Globals.{Unlisted, listed_more, globals_le}
use Rattle.machine.proofs.StoreParts.{nodes_needed}
use Rattle.machine.proofs.Refinement.{Room, Runs, over, next}

-- a moment of the walk before which no question has a no
pub data Reached (O : Outside) (s : Sheet) : Stack → List Event → Moment → Type 0 where
  r_here : {z : Stack} {e : Event} {es : List Event} → Reached O s z (e ∷ es) (record { event = e; stack = z })
  r_later : {z : Stack} {e : Event} {es : List Event} {m : Moment} → (ask_event O s e (open_on s z)).number ≡ 0 → Reached O s (step s z e) es m → Reached O s z (e ∷ es) m

pub record StepReady (s : Sheet) (room : Room) (m : Moment) : Type 0 where
  pub proper : Proper s m.stack m.event
  pub entries_small : length m.stack < 4294967295
  pub entries_left_lem : length m.stack < room.entries
  pub row_there : inside s m.stack < room.rows
  pub rows_there : (g : ℕ) → (g ∈? around s m.stack) ≡ true → g < room.rows

needed_append : (s : Sheet) (xs ys : List Moment) → nodes_needed s (xs ++ ys) ≡ nodes_needed s xs + nodes_needed s ys
needed_append s [] ys = omega arith
needed_append s (x ∷ xs) ys = omega (arith, needed_append s xs ys)

-- Lets are declared once: the events to come declare no let that is numbered already, and none twice.
abbrev pub OnceMore : Sheet → List Moment → List Event → Type 0
OnceMore s h es = (r : ℕ) → is s 29 r ≡ true → bit (any (eqb r) (global_lets s h)) + count (λ e. eqb (declares e) r) es ≤ 1

once_unlisted : (s : Sheet) (h : List Moment) (e : Event) (es : List Event) → OnceMore s h (e ∷ es) → Unlisted s h e
once_unlisted s h e es f r q k = by (any (eqb r) (global_lets s h)) (subst (λ (x : Event). bit (any (eqb r) (global_lets s h)) + count (λ e. eqb (declares e) r) (x ∷ es) ≤ 1) q (f r k))
  where
    by : (t : Bool) → bit t + (bit (eqb r r) + count (λ e. eqb (declares e) r) es) ≤ 1 → t ≡ false
    by true l = absurd (omega (arith, ap bit (eqb_self r)))
    by false l = refl

once_later : (s : Sheet) (h : List Moment) (z : Stack) (e : Event) (es : List Event) → OnceMore s h (e ∷ es) → OnceMore s (h ++ record { event = e; stack = z } ∷ []) es
once_later s h z e es f r k = omega (arith, f r k, listed_more s h (record { event = e; stack = z }) r)

-- at each moment of a history, what a function around has captured those further out have captured
abbrev pub AllOutward : Sheet → List Moment → Type 0
AllOutward s all = (h : List Moment) (m : Moment) (rest : List Moment) → all ≡ h ++ m ∷ rest → Outward s h m

pub runs_reached : (O : Outside) (s : Sheet) (room : Room) (h : List Moment) (z : Stack) (es : List Event)
    → ((m : Moment) → Reached O s z es m → StepReady s room m) → AllOutward s (h ++ moments s z es) → OnceMore s h es
    → final_globals s (h ++ moments s z es) < 4294967295 → nodes_needed s (h ++ moments s z es) ≤ room.nodes
    → Runs O s room h z es
runs_reached O s room h z [] f out u g l = over
runs_reached O s room h z (e ∷ es) f out u g l =
    let m : Moment = record { event = e; stack = z } in
    let x : StepReady s room m = f m r_here in
    let w : nodes_needed s (h ++ m ∷ moments s (step s z e) es)
    ≡ nodes_needed s ((h ++ m ∷ []) ++ moments s (step s z e) es) =
    ap (nodes_needed s) (sym (append_assoc h (m ∷ []) (moments s (step s z e) es))) in
    let v : nodes_needed s ((h ++ m ∷ []) ++ moments s (step s z e) es)
    ≡ nodes_needed s (h ++ m ∷ []) + nodes_needed s (moments s (step s z e) es) =
    needed_append s (h ++ m ∷ []) (moments s (step s z e) es) in
    next {h = h} x.proper (once_unlisted s h e es u) x.entries_small
    (omega (arith, g, globals_le s h (m ∷ moments s (step s z e) es))) x.entries_left_lem x.row_there x.rows_there
    (out h m (moments s (step s z e) es) refl) (omega (arith, l, w, v))
    (λ q. runs_reached O s room (h ++ m ∷ []) (step s z e) es (λ n r. f n (r_later q r))
    (subst (AllOutward s) (sym (append_assoc h (m ∷ []) (moments s (step s z e) es))) out) (once_later s h z e es u)
    (subst (λ (l : List Moment). final_globals s l < 4294967295)
    (sym (append_assoc h (m ∷ []) (moments s (step s z e) es))) g)
    (subst (λ (k : ℕ). k ≤ room.nodes) w l))

-- The rows of functions that events enter.
abbrev pub functions_entered : Sheet → List Event → List ℕ
functions_entered s [] = []
functions_entered s (enter r ∷ es) = when is s 6 r then r ∷ functions_entered s es else functions_entered s es
functions_entered s (leave ∷ es) = functions_entered s es
functions_entered s (loop ∷ es) = functions_entered s es
functions_entered s (declare r ∷ es) = functions_entered s es
functions_entered s (bring r n d ∷ es) = functions_entered s es
functions_entered s (visit r ∷ es) = functions_entered s es

-- no function that is entered later is open
abbrev Ahead : Sheet → Stack → List ℕ → Type 0
Ahead s st fs = (r : ℕ) → (r ∈? fs) ≡ true → (r ∈? around s st) ≡ false

closed_less : (s : Sheet) (st : Stack) (r : ℕ) → (r ∈? around s st) ≡ false → (r ∈? around s (closed st)) ≡ false
closed_less s [] r h = h
closed_less s (scope k ∷ st) r h = go (is s 6 k) h
  where
    go : (t : Bool) → (r ∈? (when t then k ∷ around s st else around s st)) ≡ false → (r ∈? around s st) ≡ false
    go true q = or_right (eqb r k) q
      where
        or_right : (x : Bool) {y : Bool} → (x || y) ≡ false → y ≡ false
        or_right true q = absurd (true≢false q)
        or_right false q = q
    go false q = q
closed_less s (looping ∷ st) r h = closed_less s st r h
closed_less s (bound m d ∷ st) r h = closed_less s st r h

apart_tail : (s : Sheet) (e : Event) (es : List Event) → Distinct (functions_entered s (e ∷ es)) → Distinct (functions_entered s es)
apart_tail s (enter k) es p = go (is s 6 k) p
  where
    go : (t : Bool) → Distinct (when t then k ∷ functions_entered s es else functions_entered s es) → Distinct (functions_entered s es)
    go true (a_one n q) = q
    go false q = q
apart_tail s leave es p = p
apart_tail s loop es p = p
apart_tail s (declare k) es p = p
apart_tail s (bring k n d) es p = p
apart_tail s (visit k) es p = p

or_true : (x : Bool) {y : Bool} → y ≡ true → (x || y) ≡ true
or_true true q = refl
or_true false q = q

ahead_step : (s : Sheet) (z : Stack) (e : Event) (es : List Event) → Distinct (functions_entered s (e ∷ es)) → Ahead s z (functions_entered s (e ∷ es))
    → Ahead s ((step s z e)) (functions_entered s es)
ahead_step s z (enter k) es p f = go (is s 6 k) p f
  where
    go : (t : Bool) → Distinct (when t then k ∷ functions_entered s es else functions_entered s es) → Ahead s z (when t then k ∷ functions_entered s es else functions_entered s es)
        → (r : ℕ) → (r ∈? functions_entered s es) ≡ true → (r ∈? (when t then k ∷ around s z else around s z)) ≡ false
    go true (a_one n q) g r h = by (eqb r k) refl
      where
        by : (u : Bool) → eqb r k ≡ u → (u || r ∈? around s z) ≡ false
        by true e = absurd (true≢false (sym h ∙ ap (λ (j : ℕ). j ∈? functions_entered s es) (eqb-true r k e) ∙ n))
        by false e = g r (or_true (eqb r k) h)
    go false q g r h = g r h
ahead_step s z leave es p f = λ r h. closed_less s z r (f r h)
ahead_step s z loop es p f = f
ahead_step s z (declare k) es p f = f
ahead_step s z (bring k n d) es p f = f
ahead_step s z (visit k) es p f = f

-- If no function is entered twice, none is entered that is open.
pub enters_apart : (O : Outside) (s : Sheet) {z : Stack} {es : List Event} {m : Moment} → Reached O s z es m → Distinct (functions_entered s es) → Ahead s z (functions_entered s es)
    → (r : ℕ) → m.event ≡ enter r → is s 6 r ≡ true → (r ∈? around s m.stack) ≡ false
enters_apart O s (r_here {z} {e} {es}) p f r q h =
    f r (ap (λ (x : Event). r ∈? functions_entered s (x ∷ es)) q
    ∙ ap (λ (t : Bool). r ∈? (when t then r ∷ functions_entered s es else functions_entered s es)) h
    ∙ ap (λ (t : Bool). t || r ∈? functions_entered s es) (eqb_self r))
enters_apart O s (r_later {z} {e} {es} y w) p f r q h = enters_apart O s w (apart_tail s e es p) (ahead_step s z e es p f) r q h

-- the whole walk: no function is open before it
pub enters_fresh : (O : Outside) (s : Sheet) (m : Moment) → Distinct (functions_entered s (walk s))
    → Reached O s (start O) (walk s) m → (r : ℕ) → m.event ≡ enter r → is s 6 r ≡ true
    → (r ∈? around s m.stack) ≡ false
enters_fresh O s m p w = enters_apart O s w p (λ r h. ap (λ (fs : List ℕ). r ∈? fs) (around_names s O.names))
