-- How many entries are open: before the first no the names of a scope are distinct, so imports push no more entries than there are names.
use mathlib.Core.Path.{◌≡◌, refl, sym, ap, ◌∙◌}
use mathlib.Core.List.{List, [], ◌∷◌, map}
use mathlib.Core.Bool.{Bool, true, false, not, ◌||◌, ◌&&◌, true≢false}
use Prim.Native.Nat.{ℕ, zero, suc, ◌+◌, ◌<◌, ◌≤◌}
use native.Mathlib.Omega.{arith}
use lib.ListN.{length}
use lib.Dec.{eqb, ltb, T}
use borrow.Author.Tests.{eqb-true, eqb-false, ltb-true, lt-ltb}
use Rattle.definition.specs.Basics.{when◌then◌else◌, filter, ◌∈?◌, any, unlike}
use Rattle.definition.specs.Sheet.{Sheet, is, a}
use Rattle.definition.specs.Outside.{Outside, OutsideFits}
use Rattle.definition.specs.Meaning.{Meaning, is_declared, Named}
use Rattle.definition.specs.Walk.{Event, enter, leave, loop, declare, bring, visit, literal_let, walk}
use Rattle.definition.specs.Scope.{Stack, Moment, scope, looping, bound, taken, closed, step, start}
use Rattle.definition.specs.Question.{ask, open_on, ask_event}
use Rattle.definition.proofs.Lists.Tests.{and_left, and_right, true_of}
use Rattle.machine.proofs.Lists.{eqb_same}
use Rattle.machine.proofs.Stacks.{Distinct, a_none, a_one}
use Rattle.machine.proofs.AfterRows.{All, al_none, al_one}
use Rattle.machine.proofs.Reached.{Reached, r_here, r_later}

-- There are at most n distinct numbers below n.
abbrev without : ℕ → List ℕ → List ℕ
without k xs = filter (λ x. not (eqb k x)) xs

without_in : (k y : ℕ) (xs : List ℕ) → (y ∈? xs) ≡ false → (y ∈? without k xs) ≡ false
without_in k y [] h = refl
without_in k y (x ∷ xs) h = go (eqb k x) (eqb y x) refl (λ q. without_in k y xs q)
  where
    go : (t u : Bool) → eqb y x ≡ u → ((y ∈? xs) ≡ false → (y ∈? without k xs) ≡ false) → (y ∈? (when not t then x ∷ without k xs else without k xs)) ≡ false
    go t true e i = absurd (true≢false (sym (ap (λ (b : Bool). b || y ∈? xs) e) ∙ h))
    go true false e i = i (rw e at h)
    go false false e i = rw e (i (rw e at h))

without_apart : (k : ℕ) {xs : List ℕ} → Distinct xs → Distinct (without k xs)
without_apart k a_none = a_none
without_apart k (a_one {g = x} {gs = xs} n p) = go (eqb k x) (without_apart k p)
  where
    go : (t : Bool) → Distinct (without k xs) → Distinct (when not t then x ∷ without k xs else without k xs)
    go true i = i
    go false i = a_one (without_in k x xs n) i

without_same : (k : ℕ) (xs : List ℕ) → (k ∈? xs) ≡ false → length (without k xs) ≡ length xs
without_same k [] h = refl
without_same k (x ∷ xs) h = go (eqb k x) refl (λ q. without_same k xs q)
  where
    go : (t : Bool) → eqb k x ≡ t → ((k ∈? xs) ≡ false → length (without k xs) ≡ length xs) → length (when not t then x ∷ without k xs else without k xs) ≡ suc (length xs)
    go true e i = absurd (true≢false (sym (ap (λ (b : Bool). b || k ∈? xs) e) ∙ h))
    go false e i = ap suc (i (rw e at h))

without_length : (k : ℕ) {xs : List ℕ} → Distinct xs → length xs ≤ suc (length (without k xs))
without_length k a_none = omega arith
without_length k (a_one {g = x} {gs = xs} n p) = go (eqb k x) refl (without_length k p)
  where
    go : (t : Bool) → eqb k x ≡ t → length xs ≤ suc (length (without k xs)) → suc (length xs) ≤ suc (length (when not t then x ∷ without k xs else without k xs))
    go true e i = omega (arith, without_same k xs (ap (λ (j : ℕ). j ∈? xs) (eqb-true k x e) ∙ n))
    go false e i = omega arith

without_below : (n : ℕ) {xs : List ℕ} → All (λ x. ltb x (suc n)) xs → All (λ x. ltb x n) (without n xs)
without_below n al_none = al_none
without_below n (al_one {x} {xs} h p) = go (eqb n x) refl (without_below n p)
  where
    go : (t : Bool) → eqb n x ≡ t → All (λ x. ltb x n) (without n xs) → All (λ x. ltb x n) (when not t then x ∷ without n xs else without n xs)
    go true e i = i
    go false e i = let ne : n ≡ x → ⊥ = eqb-false n x e in let l : x < suc n = ltb-true x (suc n) h in al_one (lt-ltb x n (omega arith)) i

pub pigeons : (n : ℕ) (xs : List ℕ) → Distinct xs → All (λ x. ltb x n) xs → length xs ≤ n
pigeons zero [] p h = omega arith
pigeons zero (x ∷ xs) p (al_one e h) = let l : x < 0 = ltb-true x 0 e in absurd (omega arith)
pigeons (suc n) xs p h = omega (arith, without_length n p, pigeons n (without n xs) (without_apart n p) (without_below n h))

-- The names of one scope.
abbrev pub top_names : Stack → List ℕ
top_names [] = []
top_names (scope r ∷ st) = []
top_names (looping ∷ st) = top_names st
top_names (bound m d ∷ st) = m ∷ top_names st

taken_names : (n : ℕ) (st : Stack) → taken n st ≡ (n ∈? top_names st)
taken_names n [] = refl
taken_names n (scope r ∷ st) = refl
taken_names n (looping ∷ st) = taken_names n st
taken_names n (bound m d ∷ st) = ap (λ (t : Bool). t || taken n st) (eqb_same m n) ∙ ap (λ (t : Bool). eqb n m || t) (taken_names n st)

pub data NamesApart : Stack → Type 0 where
  n_none : NamesApart []
  n_scope : {r : ℕ} {st : Stack} → NamesApart st → NamesApart (scope r ∷ st)
  n_loop : {st : Stack} → NamesApart st → NamesApart (looping ∷ st)
  n_name : {m : ℕ} {d : Meaning} {st : Stack} → taken m st ≡ false → NamesApart st → NamesApart (bound m d ∷ st)

pub top_apart : {st : Stack} → NamesApart st → Distinct (top_names st)
top_apart n_none = a_none
top_apart (n_scope p) = a_none
top_apart (n_loop p) = top_apart p
top_apart (n_name {m} {d} {st} h p) = a_one (sym (taken_names m st) ∙ h) (top_apart p)

names_closed : {st : Stack} → NamesApart st → NamesApart (closed st)
names_closed n_none = n_none
names_closed (n_scope p) = p
names_closed (n_loop p) = names_closed p
names_closed (n_name h p) = names_closed p

-- a question with a no has a number
asked : (q r n : ℕ) (t : Bool) → (q ≡ 0 → ⊥) → (ask q r n t).number ≡ 0 → t ≡ true
asked q r n true nz e = refl
asked q r n false nz e = absurd (nz e)

not_taken : (t : Bool) → not t ≡ true → t ≡ false
not_taken true e = sym e
not_taken false e = refl

names_step : (O : Outside) (s : Sheet) (z : Stack) (e : Event) → (ask_event O s e (open_on s z)).number ≡ 0 → NamesApart z → NamesApart ((step s z e))
names_step O s z (enter r) q p = n_scope p
names_step O s z leave q p = names_closed p
names_step O s z loop q p = n_loop p
names_step O s z (declare r) q p =
    n_name (not_taken (taken (a s r) z) (asked (when is s 29 r && not (literal_let s r) then 7 else 16) r (a s r)
    (not (taken (a s r) z)) (by (is s 29 r && not (literal_let s r))) q))
    p
  where
    by : (t : Bool) → ◌≡◌ {A = ℕ} (when t then 7 else 16) 0 → ⊥
    by true e = omega arith
    by false e = omega arith
names_step O s z (bring r n d) q p = n_name (by (is_declared d) q) p
  where
    by : (t : Bool) → (when t then ask 16 r n (not (taken n z)) else ask 15 r n false).number ≡ 0 → taken n z ≡ false
    by true e = not_taken (taken n z) (asked 16 r n (not (taken n z)) (λ k. omega arith) e)
    by false e = absurd (omega arith)
names_step O s z (visit r) q p = p

pub names_reached : (O : Outside) (s : Sheet) {z : Stack} {es : List Event} {m : Moment} → Reached O s z es m → NamesApart z → NamesApart m.stack
names_reached O s r_here p = p
names_reached O s (r_later {z} {e} q w) p = names_reached O s w (names_step O s z e q p)

-- Lengths.
abbrev pub entries_pushed : List Event → ℕ
entries_pushed [] = 0
entries_pushed (enter r ∷ es) = suc (entries_pushed es)
entries_pushed (leave ∷ es) = entries_pushed es
entries_pushed (loop ∷ es) = suc (entries_pushed es)
entries_pushed (declare r ∷ es) = suc (entries_pushed es)
entries_pushed (bring r n d ∷ es) = entries_pushed es
entries_pushed (visit r ∷ es) = entries_pushed es

closed_length : (st : Stack) → length (closed st) ≤ length st
closed_length [] = omega arith
closed_length (scope r ∷ st) = omega arith
closed_length (looping ∷ st) = omega (arith, closed_length st)
closed_length (bound m d ∷ st) = omega (arith, closed_length st)

-- An import stands in a scope with at most c entries below it, and names are below n.
unfoldable pub ImportShallow : ℕ → ℕ → Moment → Type 0
ImportShallow n c m = (r k : ℕ) (d : Meaning) → m.event ≡ bring r k d → (length m.stack ≤ length (top_names m.stack) + c) × All (λ x. ltb x n) (k ∷ top_names m.stack)

step_length : (O : Outside) (s : Sheet) (z : Stack) (e : Event) (n c B : ℕ) → n + c ≤ B → length z ≤ B → NamesApart z → (ask_event O s e (open_on s z)).number ≡ 0
    → ImportShallow n c (record { event = e; stack = z }) → length ((step s z e)) + entries_pushed [] ≤ B + entries_pushed (e ∷ [])
unfolding ImportShallow
step_length O s z (enter r) n c B h l p q f = omega arith
step_length O s z leave n c B h l p q f = omega (arith, closed_length z)
step_length O s z loop n c B h l p q f = omega arith
step_length O s z (declare r) n c B h l p q f = omega arith
step_length O s z (bring r k d) n c B h l p q f =
    let g = f r k d refl in
    let w : length (k ∷ top_names z) ≤ n = pigeons n (k ∷ top_names z) (top_apart (names_step O s z (bring r k d) q p)) g.1 in
    omega (arith, w, g.0)
step_length O s z (visit r) n c B h l p q f = omega arith

pushes_cons : (e : Event) (es : List Event) → entries_pushed (e ∷ es) ≡ entries_pushed (e ∷ []) + entries_pushed es
pushes_cons (enter r) es = omega arith
pushes_cons leave es = omega arith
pushes_cons loop es = omega arith
pushes_cons (declare r) es = omega arith
pushes_cons (bring r n d) es = omega arith
pushes_cons (visit r) es = omega arith

pub stack_bound : (O : Outside) (s : Sheet) (n c B : ℕ) → n + c ≤ B → {z : Stack} {es : List Event} {m : Moment} → Reached O s z es m
    → ((x : Moment) → Reached O s z es x → ImportShallow n c x) → NamesApart z → length z ≤ B → length m.stack ≤ B + entries_pushed es
stack_bound O s n c B h (r_here {z} {e} {es}) f p l = omega arith
stack_bound O s n c B h (r_later {z} {e} {es} q w) f p l =
    let i = stack_bound O s n c (B + entries_pushed (e ∷ [])) (omega arith) w (λ x r. f x (r_later q r)) (names_step O s z e q p)
    (omega (arith, step_length O s z e n c B h l p q (f (record { event = e; stack = z }) r_here))) in
    omega (arith, i, pushes_cons e es)

names_taken : (m : ℕ) (xs : List Named) → taken m (map (λ x. bound x.name x.means) xs) ≡ any (λ y. eqb y.name m) xs
names_taken m [] = refl
names_taken m (x ∷ xs) = ap (λ (t : Bool). eqb x.name m || t) (names_taken m xs)

start_apart : (xs : List Named) → T (unlike (λ x y. eqb y.name x.name) xs) → NamesApart (map (λ x. bound x.name x.means) xs)
start_apart [] h = n_none
start_apart (x ∷ xs) h =
    let fresh : Bool = not (any (λ y. eqb y.name x.name) xs) in
    let rest : Bool = unlike (λ x y. eqb y.name x.name) xs in
    n_name (names_taken x.name xs ∙ not_taken (any (λ y. eqb y.name x.name) xs) (true_of fresh (and_left fresh rest h)))
    (start_apart xs (and_right fresh rest h))

pub start_length : (xs : List Named) → length (map (λ x. bound x.name x.means) xs) ≡ length xs
start_length [] = refl
start_length (x ∷ xs) = ap suc (start_length xs)

-- the entries below an import: the names from outside and the mark of the unit's scope
abbrev pub entries_below : Outside → ℕ
entries_below O = suc (length O.names)

-- In the walk of a sheet whose names are below n, before the first no, at most n entries, one for each name from outside and one
-- more, and one for each scope, loop and declaration are open.
pub walk_bound : {O : Outside} → OutsideFits O → (s : Sheet) (n : ℕ) (m : Moment) → ((x : Moment) → Reached O s (start O) (walk s) x → ImportShallow n (entries_below O) x)
    → Reached O s (start O) (walk s) m → length m.stack ≤ n + entries_below O + entries_pushed (walk s)
walk_bound {O} known s n m f w =
    stack_bound O s n (entries_below O) (n + entries_below O) (omega arith) w f (start_apart O.names known.apart) (omega (arith, start_length O.names))
