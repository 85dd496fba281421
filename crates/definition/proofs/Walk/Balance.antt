-- The walk of a row closes every scope that it opens: it leaves the scopes that were open, and may declare names in the innermost.
use mathlib.Core.Path.{◌≡◌, refl, sym, subst}
use mathlib.Core.List.{List, [], ◌∷◌, ◌++◌, map}
use mathlib.Core.Bool.{Bool, true, false, ◌||◌, ◌&&◌}
use Prim.Native.Nat.{ℕ, zero, suc}
use lib.Dec.{eqb}
use Rattle.definition.specs.Basics.{when◌then◌else◌, filter, concat_map}
use Rattle.definition.specs.Sheet.{Sheet, child, b, is, kids, kids_of}
use Rattle.definition.specs.Meaning.{Meaning}
use Rattle.definition.specs.Walk.{Event, enter, leave, loop, declare, bring, visit, imports, seen, literal_let, parts, each, trace}
use Rattle.definition.specs.Scope.{Stack, scope, looping, bound, around, closed, step, run}
use Rattle.definition.proofs.Walk.Moments.{run_append}

-- a stack with names and loops added to another, and no scope
pub data Grown (st : Stack) : Stack → Type 0 where
  same : Grown st st
  named : {st' : Stack} {n : ℕ} {d : Meaning} → Grown st st' → Grown st (bound n d ∷ st')
  looped : {st' : Stack} → Grown st st' → Grown st (looping ∷ st')

pub grown_trans : {x y z : Stack} → Grown x y → Grown y z → Grown x z
grown_trans g same = g
grown_trans g (named h) = named (grown_trans g h)
grown_trans g (looped h) = looped (grown_trans g h)

-- what is closed then is the scope that was opened
pub closed_grown : (r : ℕ) (st : Stack) {st' : Stack} → Grown (scope r ∷ st) st' → closed st' ≡ st
closed_grown r st same = refl
closed_grown r st (named g) = closed_grown r st g
closed_grown r st (looped g) = closed_grown r st g

-- the functions around stay
pub around_grown : (s : Sheet) (st : Stack) {st' : Stack} → Grown st st' → around s st' ≡ around s st
around_grown s st same = refl
around_grown s st (named g) = around_grown s st g
around_grown s st (looped g) = around_grown s st g

-- events that open and close nothing
pub data Flat : List Event → Type 0 where
  none : Flat []
  a_loop : {es : List Event} → Flat es → Flat (loop ∷ es)
  a_name : {r : ℕ} {es : List Event} → Flat es → Flat (declare r ∷ es)
  an_import : {r n : ℕ} {d : Meaning} {es : List Event} → Flat es → Flat (bring r n d ∷ es)
  a_visit : {r : ℕ} {es : List Event} → Flat es → Flat (visit r ∷ es)

pub flat_append : {xs ys : List Event} → Flat xs → Flat ys → Flat (xs ++ ys)
flat_append none g = g
flat_append (a_loop f) g = a_loop (flat_append f g)
flat_append (a_name f) g = a_name (flat_append f g)
flat_append (an_import f) g = an_import (flat_append f g)
flat_append (a_visit f) g = a_visit (flat_append f g)

pub flat_declares : (rs : List ℕ) → Flat (map declare rs)
flat_declares [] = none
flat_declares (r ∷ rs) = a_name (flat_declares rs)

flat_brings : {A : Type 0} (i : ℕ) (n : A → ℕ) (d : A → Meaning) (xs : List A) → Flat (map (λ x. bring i (n x) (d x)) xs)
flat_brings i n d [] = none
flat_brings i n d (x ∷ xs) = an_import (flat_brings i n d xs)

pub flat_if : (t : Bool) {xs ys : List Event} → Flat xs → Flat ys → Flat (when t then xs else ys)
flat_if true f g = f
flat_if false f g = g

pub flat_imports : (s : Sheet) (u : ℕ) (is : List ℕ) → Flat (concat_map (imports s u) is)
flat_imports s u [] = none
flat_imports s u (i ∷ is) =
    flat_append (flat_append (flat_if (eqb (b s i) 1) (flat_brings i _ _ (seen s u i)) none) (flat_brings i _ _ (kids s i)))
    (flat_imports s u is)

pub run_flat : (s : Sheet) (z : Stack) {es : List Event} → Flat es → Grown z (run s z es)
run_flat s z none = same
run_flat s z (a_loop f) = grown_trans (looped same) (run_flat s (step s z loop) f)
run_flat s z (a_name {r = r} f) = grown_trans (named same) (run_flat s (step s z (declare r)) f)
run_flat s z (an_import {r = r} {n = n} {d = d} f) = grown_trans (named same) (run_flat s (step s z (bring r n d)) f)
run_flat s z (a_visit {r = r} f) = run_flat s (step s z (visit r)) f

-- events whose run keeps the open scopes
unfoldable pub Keeps : Sheet → List Event → Type 0
Keeps s es = (z : Stack) → Grown z (run s z es)

pub keeps_append : (s : Sheet) (xs ys : List Event) → Keeps s xs → Keeps s ys → Keeps s (xs ++ ys)
unfolding Keeps
keeps_append s xs ys f g z = rw run_append (grown_trans (f z) (g (run s z xs)))

pub keeps_flat : (s : Sheet) {es : List Event} → Flat es → Keeps s es
unfolding Keeps
keeps_flat s f z = run_flat s z f

-- a scope: opened, kept, closed
keeps_scope : (s : Sheet) (r : ℕ) (es : List Event) → Keeps s es → Keeps s ((enter r ∷ es) ++ (leave ∷ []))
unfolding Keeps
keeps_scope s r es f z =
    rw run_append (subst (λ (st : Stack). Grown z st) (sym (closed_grown r z (f (step s z (enter r))))) same)

-- a row: what comes before its parts, the parts, what comes after, by the tests on its kind
keeps_row : (s : Sheet) (r : ℕ) (ms : List Event) (t2 t6 t25 t27 t30 t29 t52 tv : Bool) {e2 e6 e25 : List Event}
    → Flat e2 → Flat e6 → Flat e25 → Keeps s ms
    → Keeps s ((when t2 then enter r ∷ e2 else when t6 then enter r ∷ e6 else when t25 then enter r ∷ e25 else when t27 then enter r ∷ [] else when t30 then visit r ∷ [] else [])
    ++ ms
    ++ (when t2 || t6 || t25 || t27 then leave ∷ [] else when t29 then (when t52 then [] else declare r ∷ []) else when tv then visit r ∷ [] else []))
keeps_row s r ms true t6 t25 t27 t30 t29 t52 tv {e2} f2 f6 f25 k = keeps_scope s r (e2 ++ ms) (keeps_append s e2 ms (keeps_flat s f2) k)
keeps_row s r ms false true t25 t27 t30 t29 t52 tv {e6 = e6} f2 f6 f25 k = keeps_scope s r (e6 ++ ms) (keeps_append s e6 ms (keeps_flat s f6) k)
keeps_row s r ms false false true t27 t30 t29 t52 tv {e25 = e25} f2 f6 f25 k = keeps_scope s r (e25 ++ ms) (keeps_append s e25 ms (keeps_flat s f25) k)
keeps_row s r ms false false false true t30 t29 t52 tv f2 f6 f25 k = keeps_scope s r ms k
keeps_row s r ms false false false false t30 t29 t52 tv f2 f6 f25 k =
    keeps_append s _ _ (keeps_append s _ _ (keeps_flat s (flat_if t30 (a_visit none) none)) k)
    (keeps_flat s (flat_if t29 (flat_if t52 none (a_name none)) (flat_if tv (a_visit none) none)))

pub keeps_each : (s : Sheet) (go : ℕ → List Event) (r i : ℕ) (ks : List ℕ) → ((k : ℕ) → Keeps s (go k)) → Keeps s (each go s r i ks)
keeps_each s go r i [] f = keeps_flat s none
keeps_each s go r i (k ∷ ks) f =
    keeps_append s _ _ (keeps_append s _ _ (f k) (keeps_flat s (flat_if (is s 59 r && eqb i 0) (a_visit none) (flat_if (is s 27 r && eqb i 1) (a_loop none) none))))
    (keeps_each s go r (suc i) ks f)

pub keeps_trace : (d : ℕ) (s : Sheet) (r : ℕ) → Keeps s (trace d s r)
keeps_trace zero s r = keeps_flat s none
keeps_trace (suc d) s r =
    keeps_row s r (each (trace d s) s r 0 (parts s r)) (is s 2 r) (is s 6 r) (is s 25 r) (is s 27 r) (is s 30 r) (is s 29 r) (is s 52 (child s r))
    (is s 21 r || is s 23 r || is s 24 r || is s 50 r || is s 51 r || is s 52 r || is s 55 r)
    (flat_append (flat_imports s r (kids_of s 3 r)) (flat_declares (kids_of s 4 r)))
    (flat_declares (kids_of s 11 r)) (flat_declares (filter (literal_let s) (kids s r)))
    (keeps_each s (trace d s) r 0 (parts s r) (keeps_trace d s))
