-- What holds of the stacks of a walk: no function is open twice, and an open local or argument was declared in the function then innermost.
use mathlib.Core.Path.{◌≡◌, refl, sym, ap, ◌∙◌, subst}
use mathlib.Core.List.{List, [], ◌∷◌, map}
use mathlib.Core.Bool.{Bool, true, false, ◌&&◌, ◌||◌, true≢false}
use Prim.Native.Nat.{ℕ, ◌+◌, ◌-◌}
use native.Mathlib.Omega.{arith}
use lib.ListN.{length}
use lib.Dec.{eqb, leb, T, T_not}
use borrow.Author.Tests.{eq-eqb, eqb-true}
use Rattle.definition.specs.Basics.{when◌then◌else◌, ◌∈?◌, all, head, place}
use Rattle.definition.specs.Sheet.{Sheet, is, b, child}
use Rattle.definition.specs.Outside.{Outside, OutsideFits, is_outward}
use Rattle.definition.specs.Meaning.{Meaning, class, function, global, toplevel, variable, is_variable, is_toplevel, owner_of, Named}
use Rattle.definition.specs.Walk.{Event, enter, leave, loop, declare, bring, visit}
use Rattle.definition.specs.Scope.{scope, looping, bound, Stack, find, top, lookup, around, closed, new_global, declared, step, inside, start}
use Rattle.definition.specs.Capture.{beyond}
use Rattle.definition.proofs.Lists.Tests.{and_left, and_right}
use Rattle.definition.proofs.Walk.Moments.{around_names}
use Rattle.definition.proofs.Closure.Declared.{outward_plain}
use Rattle.machine.proofs.Nodes.{is_before}
use Rattle.machine.proofs.Lists.{eqb_same}

-- no number stands twice
pub data Distinct : List ℕ → Type 0 where
  a_none : Distinct []
  a_one : {g : ℕ} {gs : List ℕ} → (g ∈? gs) ≡ false → Distinct gs → Distinct (g ∷ gs)

beyond_in : (f w : ℕ) (gs : List ℕ) → (w ∈? gs) ≡ false → (w ∈? beyond f gs) ≡ false
beyond_in f w [] h = refl
beyond_in f w (g ∷ gs) h = go (eqb w g) refl (eqb g f) (λ k. beyond_in f w gs k)
  where
    go : (t : Bool) → eqb w g ≡ t → (u : Bool) → ((w ∈? gs) ≡ false → (w ∈? beyond f gs) ≡ false) → (w ∈? (when u then gs else beyond f gs)) ≡ false
    go true e u i = absurd (true≢false (sym (rw e) ∙ h))
    go false e true i = rw e at h
    go false e false i = i (rw e at h)

-- w stands after the first f if f stands before w
pub beyond_early : (f w : ℕ) {fs : List ℕ} → Distinct fs → (w ∈? fs) ≡ true → (w ∈? beyond f fs) ≡ is_before w fs f
beyond_early f w a_none h = absurd (true≢false (sym h))
beyond_early f w (a_one {g} {gs} n p) h = go (eqb g w) refl (eqb g f) (λ k. beyond_early f w p k)
  where
    go : (t : Bool) → eqb g w ≡ t → (u : Bool) → ((w ∈? gs) ≡ true → (w ∈? beyond f gs) ≡ is_before w gs f)
        → (w ∈? (when u then gs else beyond f gs)) ≡ (when t then false else (u || is_before w gs f))
    go true e true i = ap (λ (k : ℕ). k ∈? gs) (sym (eqb-true g w e)) ∙ n
    go true e false i = beyond_in f w gs (ap (λ (k : ℕ). k ∈? gs) (sym (eqb-true g w e)) ∙ n)
    go false e true i = rw (eqb_same w g ∙ e) at h
    go false e false i = i (rw (eqb_same w g ∙ e) at h)

-- every open local or argument belongs to the innermost of the functions that were open when it was declared
pub data Owned (s : Sheet) : Stack → Type 0 where
  o_none : Owned s []
  o_scope : {r : ℕ} {st : Stack} → Owned s st → Owned s (scope r ∷ st)
  o_loop : {st : Stack} → Owned s st → Owned s (looping ∷ st)
  o_name : {n : ℕ} {d : Meaning} {st : Stack} → (is_variable d ≡ true → ((owner_of d ∈? around s st) ≡ true) × (owner_of d ≡ inside s st)) → Owned s st → Owned s (bound n d ∷ st)

pub or_right : (x : Bool) {y : Bool} → y ≡ true → (x || y) ≡ true
or_right true h = refl
or_right false h = h

in_scope : (s : Sheet) (w r : ℕ) (st : Stack) → (w ∈? around s st) ≡ true → (w ∈? around s (scope r ∷ st)) ≡ true
in_scope s w r st h = go (is s 6 r)
  where
    go : (t : Bool) → (w ∈? (when t then r ∷ around s st else around s st)) ≡ true
    go true = or_right (eqb w r) h
    go false = h

pub owned_find : (s : Sheet) (n : ℕ) {st : Stack} → Owned s st → is_variable (lookup n st) ≡ true → (owner_of (lookup n st) ∈? around s st) ≡ true
owned_find s n o_none v = absurd (true≢false (sym v))
owned_find s n (o_scope {r} {st} o) v = in_scope s _ r st (owned_find s n o v)
owned_find s n (o_loop o) v = owned_find s n o v
owned_find s n (o_name {n = m} {d} {st} h o) v = go (eqb m n) refl (λ k. owned_find s n o k)
  where
    go : (t : Bool) → eqb m n ≡ t → (is_variable (lookup n st) ≡ true → (owner_of (lookup n st) ∈? around s st) ≡ true)
        → (owner_of (top (when eqb m n then bound m d ∷ st else find n st)) ∈? around s st) ≡ true
    go true e i = rw e (h (rw e at v)).0
    go false e i = rw e (i (rw e at v))

head_place : (w : ℕ) (fs : List ℕ) → (w ∈? fs) ≡ true → w ≡ head fs → place (eqb w) fs ≡ 0
head_place w [] h e = absurd (true≢false (sym h))
head_place w (f ∷ fs) h e = rw (eq-eqb w f e)

not_there : (w r : ℕ) (fs : List ℕ) → (r ∈? fs) ≡ false → (w ∈? fs) ≡ true → eqb w r ≡ false
not_there w r fs n h = go (eqb w r) refl
  where
    go : (t : Bool) → eqb w r ≡ t → t ≡ false
    go true e = absurd (true≢false (sym h ∙ ap (λ (k : ℕ). k ∈? fs) (eqb-true w r e) ∙ n))
    go false e = refl

-- around an open local or argument's use, the functions inside its own are those opened after its declaration
pub owned_far : (s : Sheet) (n : ℕ) {st : Stack} → Distinct (around s st) → Owned s st → is_variable (lookup n st) ≡ true
    → place (eqb (owner_of (lookup n st))) (around s st) + length (around s (find n st)) ≡ length (around s st)
owned_far s n p o_none v = absurd (true≢false (sym v))
owned_far s n p (o_scope {r} {st} o) v = go (is s 6 r) p (λ q. owned_far s n q o v)
  where
    w : ℕ
    w = owner_of (lookup n st)

    go : (t : Bool) → Distinct (when t then r ∷ around s st else around s st)
        → (Distinct (around s st) → place (eqb w) (around s st) + length (around s (find n st)) ≡ length (around s st))
        → place (eqb w) (when t then r ∷ around s st else around s st) + length (around s (find n st)) ≡ length (when t then r ∷ around s st else around s st)
    go true (a_one g q) below = rw (not_there w r (around s st) g (owned_find s n o v)) (omega (arith, below q))
    go false q below = below q
owned_far s n p (o_loop o) v = owned_far s n p o v
owned_far s n p (o_name {n = m} {d} {st} h o) v = go (eqb m n) refl (λ k. owned_far s n p o k)
  where
    go : (t : Bool) → eqb m n ≡ t → (is_variable (lookup n st) ≡ true → place (eqb (owner_of (lookup n st))) (around s st) + length (around s (find n st)) ≡ length (around s st))
        → place (eqb (owner_of (top (when eqb m n then bound m d ∷ st else find n st)))) (around s st) + length (around s (when eqb m n then bound m d ∷ st else find n st))
        ≡ length (around s st)
    go true e i = let k = h (rw e at v) in rw e (omega (arith, head_place (owner_of d) (around s st) k.0 k.1))
    go false e i = rw e (i (rw e at v))

owned_closed : (s : Sheet) {st : Stack} → Owned s st → Owned s (closed st)
owned_closed s o_none = o_none
owned_closed s (o_scope o) = o
owned_closed s (o_loop o) = owned_closed s o
owned_closed s (o_name h o) = owned_closed s o

apart_closed : (s : Sheet) (st : Stack) → Distinct (around s st) → Distinct (around s (closed st))
apart_closed s [] p = p
apart_closed s (scope r ∷ st) p = go (is s 6 r) p
  where
    go : (t : Bool) → Distinct (when t then r ∷ around s st else around s st) → Distinct (around s st)
    go true (a_one n q) = q
    go false q = q
apart_closed s (looping ∷ st) p = apart_closed s st p
apart_closed s (bound m d ∷ st) p = apart_closed s st p

pub record WellFormed (s : Sheet) (st : Stack) : Type 0 where
  pub apart : Distinct (around s st)
  pub owned : Owned s st

-- a local or argument belongs to the function in which it is declared
declared_owner : (s : Sheet) (r f : ℕ) → is_variable (declared s r f) ≡ true → owner_of (declared s r f) ≡ f
declared_owner s r f = go (is s 4 r) (is s 29 r && leb 2 (b s r)) (new_global s r f) (is s 29 r && eqb (b s f) 1)
  where
    chosen : Bool → Bool → Bool → Bool → Meaning
    chosen t u v w = when t then class (256 + r) else when u then global (b s r - 2) 0 else when v then toplevel r else when w then function (child s (child s r)) else variable r f

    go : (t u v w : Bool) → is_variable (chosen t u v w) ≡ true → owner_of (chosen t u v w) ≡ f
    go true u v w e = absurd (true≢false (sym e))
    go false true v w e = absurd (true≢false (sym e))
    go false false true w e = absurd (true≢false (sym e))
    go false false false true e = absurd (true≢false (sym e))
    go false false false false e = refl

-- An event that a walk can have: it enters a function that is not open, declares a local or argument in an open function, and imports
-- neither a local or argument nor a let of a unit.
pub data Proper (s : Sheet) (z : Stack) : Event → Type 0 where
  p_enter : {r : ℕ} → (is s 6 r ≡ true → (r ∈? around s z) ≡ false) → Proper s z (enter r)
  p_leave : Proper s z leave
  p_loop : Proper s z loop
  p_declare : {r : ℕ} → (is_variable (declared s r (inside s z)) ≡ true → (owner_of (declared s r (inside s z)) ∈? around s z) ≡ true) → Proper s z (declare r)
  p_bring : {r n : ℕ} {d : Meaning} → is_variable d ≡ false → is_toplevel d ≡ false → Proper s z (bring r n d)
  p_visit : {r : ℕ} → Proper s z (visit r)

pub well_formed_step : (s : Sheet) (z : Stack) (e : Event) → Proper s z e → WellFormed s z → WellFormed s ((step s z e))
well_formed_step s z (enter r) (p_enter h) o = record { apart = go (is s 6 r) refl; owned = o_scope o.owned }
  where
    go : (t : Bool) → is s 6 r ≡ t → Distinct (when t then r ∷ around s z else around s z)
    go true e = a_one (h e) o.apart
    go false e = o.apart
well_formed_step s z leave p_leave o = record { apart = apart_closed s z o.apart; owned = owned_closed s o.owned }
well_formed_step s z loop p_loop o = record { apart = o.apart; owned = o_loop o.owned }
well_formed_step s z (declare r) (p_declare h) o = record { apart = o.apart; owned = o_name (λ v. (h v, declared_owner s r (inside s z) v)) o.owned }
well_formed_step s z (bring r n d) (p_bring h g) o = record { apart = o.apart; owned = o_name (λ v. absurd (true≢false (sym v ∙ h))) o.owned }
well_formed_step s z (visit r) p_visit o = o

-- names from outside
owned_names : (s : Sheet) (xs : List Named) → T (all (λ x. is_outward x.means) xs) → Owned s (map (λ x. bound x.name x.means) xs)
owned_names s [] h = o_none
owned_names s (x ∷ xs) h =
    o_name (λ v. absurd (T_not (is_variable x.means) (outward_plain x.means (and_left (is_outward x.means) (all (λ y. is_outward y.means) xs) h)) (subst T (sym v) tt)))
    (owned_names s xs (and_right (is_outward x.means) (all (λ y. is_outward y.means) xs) h))

pub well_formed_start : {O : Outside} → OutsideFits O → (s : Sheet) → WellFormed s (start O)
well_formed_start {O} known s = record { apart = subst Distinct (sym (around_names s O.names)) a_none; owned = owned_names s O.names known.outward }
