-- Every open variable was declared at an earlier moment, on the stack that is below it now; so its slot is below the local count.
use mathlib.Core.Path.{◌≡◌, refl, sym, ap, ◌∙◌, subst}
use mathlib.Core.Logic.{◌⊎◌, inl, inr}
use mathlib.Core.List.{List, [], ◌∷◌, ◌++◌, map, Memᴰ}
use mathlib.Core.Bool.{Bool, true, false, not, ◌||◌, ◌&&◌}
use Prim.Native.Nat.{ℕ, zero, suc, ◌+◌, ◌-◌, ◌<◌, ◌≤◌}
use native.Mathlib.Omega.{arith}
use lib.Dec.{eqb, leb, T, T_not, le→leb}
use Rattle.definition.specs.Basics.{when◌then◌else◌, all, filter, first, concat_map, largest, bit}
use Rattle.definition.specs.Sheet.{Sheet, rows, child, a, b, is, kids, kids_of}
use Rattle.definition.specs.Outside.{Outside, OutsideFits, is_outward}
use Rattle.definition.specs.Meaning.{Meaning, nothing, variable, row_of, owner_of, is_variable, global, function, class, toplevel, Named, named}
use Rattle.definition.specs.Walk.{Event, enter, leave, loop, declare, bring, visit, imports, seen, literal_let, before, after, parts, each, trace, walk}
use Rattle.definition.specs.Scope.{Stack, Moment, Entry, scope, looping, bound, closed, step, moments, history, start, inside, within, declared, new_global, declares, declarings, declaration}
use Rattle.definition.specs.Slots.{is_local, open_locals, local_count}
use Rattle.definition.proofs.Lists.Tests.{and_both, and_left, and_right, eqb_of}
use Rattle.definition.proofs.Lists.Members.{mem_filter}
use Rattle.definition.proofs.Closure.Open.{OpenAt}

-- an event that brings in no variable: imports bring functions, classes and globals
pub data PlainEvent : Event → Type 0 where
  p_enter : {r : ℕ} → PlainEvent (enter r)
  p_leave : PlainEvent leave
  p_loop : PlainEvent loop
  p_declare : {r : ℕ} → PlainEvent (declare r)
  p_bring : {r n : ℕ} {d : Meaning} → T (not (is_variable d)) → PlainEvent (bring r n d)
  p_visit : {r : ℕ} → PlainEvent (visit r)

pub data Plain : List Event → Type 0 where
  none : Plain []
  one : {e : Event} {es : List Event} → PlainEvent e → Plain es → Plain (e ∷ es)

plain_append : {xs ys : List Event} → Plain xs → Plain ys → Plain (xs ++ ys)
plain_append none q = q
plain_append (one e p) q = one e (plain_append p q)

plain_if : (t : Bool) {xs ys : List Event} → Plain xs → Plain ys → Plain (when t then xs else ys)
plain_if true p q = p
plain_if false p q = q

plain_declares : (rs : List ℕ) → Plain (map declare rs)
plain_declares [] = none
plain_declares (r ∷ rs) = one p_declare (plain_declares rs)

data PlainNameds : List Named → Type 0 where
  no_more : PlainNameds []
  export : {x : Named} {xs : List Named} → T (not (is_variable x.means)) → PlainNameds xs → PlainNameds (x ∷ xs)

exports_append : {xs ys : List Named} → PlainNameds xs → PlainNameds ys → PlainNameds (xs ++ ys)
exports_append no_more q = q
exports_append (export h p) q = export h (exports_append p q)

exports_map : (f : ℕ → Named) → ((r : ℕ) → T (not (is_variable (f r).means))) → (rs : List ℕ) → PlainNameds (map f rs)
exports_map f h [] = no_more
exports_map f h (r ∷ rs) = export (h r) (exports_map f h rs)

exports_if : (t : Bool) {xs ys : List Named} → PlainNameds xs → PlainNameds ys → PlainNameds (when t then xs else ys)
exports_if true p q = p
exports_if false p q = q

plain_seen : (s : Sheet) (u i : ℕ) → PlainNameds (seen s u i)
plain_seen s u i =
    exports_if (eqb (a s i) u) no_more
    (exports_append (exports_append (exports_map _ (λ r. tt) (kids_of s 7 (a s i))) (exports_map _ (λ r. tt) (kids_of s 4 (a s i))))
    (exports_map _ (λ r. tt) (kids_of s 8 (a s i))))

plain_all : (i : ℕ) {xs : List Named} → PlainNameds xs → Plain (map (λ e. bring i e.name e.means) xs)
plain_all i no_more = none
plain_all i (export h p) = one (p_bring h) (plain_all i p)

plain_choice : (t : Bool) (x y : Named) → T (not (is_variable x.means)) → T (not (is_variable y.means)) → T (not (is_variable (when t then x else y).means))
plain_choice true x y p q = p
plain_choice false x y p q = q

plain_first : (p : Named → Bool) (d : Named) {xs : List Named} → T (not (is_variable d.means)) → PlainNameds xs → T (not (is_variable (first p d xs).means))
plain_first p d h no_more = h
plain_first p d h (export {x = x} {xs = xs} k q) = plain_choice (p x) x (first p d xs) k (plain_first p d h q)

plain_listed : (s : Sheet) (i : ℕ) {xs : List Named} → PlainNameds xs → (ks : List ℕ)
    → Plain (map (λ k. bring i (a s k) (first (λ e. eqb e.name (a s k)) (named 0 nothing) xs).means) ks)
plain_listed s i p [] = none
plain_listed s i p (k ∷ ks) = one (p_bring (plain_first _ (named 0 nothing) tt p)) (plain_listed s i p ks)

plain_imports : (s : Sheet) (u : ℕ) (is : List ℕ) → Plain (concat_map (imports s u) is)
plain_imports s u [] = none
plain_imports s u (i ∷ is) =
    plain_append (plain_append (plain_if (eqb (b s i) 1) (plain_all i (plain_seen s u i)) none) (plain_listed s i (plain_seen s u i) (kids s i)))
    (plain_imports s u is)

plain_before : (s : Sheet) (r : ℕ) → Plain (before s r)
plain_before s r =
    plain_if (is s 2 r) (one p_enter (plain_append (plain_imports s r (kids_of s 3 r)) (plain_declares (kids_of s 4 r))))
    (plain_if (is s 6 r) (one p_enter (plain_declares (kids_of s 11 r)))
    (plain_if (is s 25 r) (one p_enter (plain_declares (filter (literal_let s) (kids s r))))
    (plain_if (is s 27 r) (one p_enter none) (plain_if (is s 30 r) (one p_visit none) none))))

plain_after : (s : Sheet) (r : ℕ) → Plain (after s r)
plain_after s r =
    plain_if (is s 2 r || is s 6 r || is s 25 r || is s 27 r) (one p_leave none)
    (plain_if (is s 29 r) (plain_if (is s 52 (child s r)) none (one p_declare none))
    (plain_if (is s 21 r || is s 23 r || is s 24 r || is s 50 r || is s 51 r || is s 52 r || is s 55 r) (one p_visit none) none))

plain_each : (s : Sheet) (go : ℕ → List Event) (r i : ℕ) (ks : List ℕ) → ((k : ℕ) → Plain (go k)) → Plain (each go s r i ks)
plain_each s go r i [] f = none
plain_each s go r i (k ∷ ks) f =
    plain_append (plain_append (f k) (plain_if (is s 59 r && eqb i 0) (one p_visit none) (plain_if (is s 27 r && eqb i 1) (one p_loop none) none)))
    (plain_each s go r (suc i) ks f)

pub plain_trace : (d : ℕ) (s : Sheet) (r : ℕ) → Plain (trace d s r)
plain_trace zero s r = none
plain_trace (suc d) s r =
    plain_append (plain_append (plain_before s r) (plain_each s (trace d s) r 0 (parts s r) (plain_trace d s))) (plain_after s r)

-- what is open after a scope closed was open before
open_closed : (S : Stack) (j n : ℕ) (d : Meaning) (st : Stack) → OpenAt (closed S) j n d st → (i : ℕ) × OpenAt S i n d st
open_closed [] j n d st p = (j, p)
open_closed (scope r ∷ S) j n d st p = (suc j, p)
open_closed (looping ∷ S) j n d st p = let q = open_closed S j n d st p in (suc q.0, q.1)
open_closed (bound m e ∷ S) j n d st p = let q = open_closed S j n d st p in (suc q.0, q.1)

-- what a row declares as a variable, it declares as its own, and it is no class and no let of a unit function
as_variable : (t4 tc tg tf : Bool) (c k g f r o : ℕ)
    → T (is_variable (when t4 then class c else when tc then global k 0 else when tg then toplevel g else when tf then function f else variable r o))
    → ((when t4 then class c else when tc then global k 0 else when tg then toplevel g else when tf then function f else variable r o) ≡ variable r o) × T (not t4) × T (not tf)
as_variable true tc tg tf c k g f r o h = absurd h
as_variable false true tg tf c k g f r o h = absurd h
as_variable false false true tf c k g f r o h = absurd h
as_variable false false false true c k g f r o h = absurd h
as_variable false false false false c k g f r o h = (refl, tt, tt)

-- a let that declares a local or argument is no constant: its mutability is 0 or 1
no_constant : (t4 t29 t2 tg tf : Bool) (c k g f r o : ℕ) → T t29
    → T (is_variable (when t4 then class c else when t29 && t2 then global k 0 else when tg then toplevel g else when tf then function f else variable r o)) → T (not t2)
no_constant true t29 t2 tg tf c k g f r o t h = absurd h
no_constant false true true tg tf c k g f r o t h = absurd h
no_constant false true false tg tf c k g f r o t h = tt
no_constant false false t2 tg tf c k g f r o t h = absurd t

small_bit : (n : ℕ) → T (not (leb 2 n)) → bit (eqb n 1) ≡ n
small_bit zero h = refl
small_bit (suc zero) h = refl
small_bit (suc (suc n)) h = absurd (T_not (leb 2 (suc (suc n))) h (le→leb 2 (suc (suc n)) (omega arith)))

pub declared_bit : (s : Sheet) (r f : ℕ) → T (is s 29 r) → T (is_variable (declared s r f)) → bit (eqb (b s r) 1) ≡ b s r
declared_bit s r f t h =
    small_bit (b s r)
    (no_constant (is s 4 r) (is s 29 r) (leb 2 (b s r)) (new_global s r f) (is s 29 r && eqb (b s f) 1) (256 + r) (b s r - 2) r (child s (child s r)) r f t h)

pub declared_variable : (s : Sheet) (r f : ℕ) → T (is_variable (declared s r f))
    → (declared s r f ≡ variable r f) × T (not (is s 4 r)) × T (not (is s 29 r && eqb (b s f) 1))
declared_variable s r f h =
    as_variable (is s 4 r) (is s 29 r && leb 2 (b s r)) (new_global s r f) (is s 29 r && eqb (b s f) 1) (256 + r) (b s r - 2) r (child s (child s r)) r f h

Back : Sheet → Stack → Event → ℕ → Meaning → Stack → Type 0
Back s z e n d st =
    ((j : ℕ) × OpenAt z j n d st)
    ⊎ ((e ≡ declare (row_of d)) × (z ≡ st) × (declared s (row_of d) (inside s z) ≡ d))

-- one event back: an open variable was open, or is declared by the event
back_pushed : (s : Sheet) (z : Stack) (e : Event) (x : Entry) (j n : ℕ) (d : Meaning) (st : Stack)
    → (x ≡ bound n d → ⊥) → OpenAt (x ∷ z) j n d st → Back s z e n d st
unfolding Back
back_pushed s z e x zero n d st f p = absurd (f (cc))
back_pushed s z e x (suc j) n d st f p = inl (j, p)

clash : ◌≡◌ {A = ℕ} 0 1 → ⊥
clash e = omega arith

back : (s : Sheet) (z : Stack) (e : Event) → PlainEvent e → (j n : ℕ) (d : Meaning) (st : Stack)
    → OpenAt (step s z e) j n d st → T (is_variable d) → Back s z e n d st
unfolding Back
back s z (enter r) p_enter j n d st p v = back_pushed s z (enter r) (scope r) j n d st (λ q. clash (cc)) p
back s z leave p_leave j n d st p v = inl (open_closed z j n d st p)
back s z loop p_loop j n d st p v = back_pushed s z loop looping j n d st (λ q. clash (cc)) p
back s z (declare r) p_declare zero n d st p v =
    let e : declared s r (inside s z) ≡ d = cc in
    let w : z ≡ st = cc in
    let q : row_of d ≡ r = ap row_of (sym e ∙ (declared_variable s r (inside s z) (subst (λ (x : Meaning). T (is_variable x)) (sym e) v)).0) in
    inr (ap declare (sym q), w, ap (λ (k : ℕ). declared s k (inside s z)) q ∙ e)
back s z (declare r) p_declare (suc j) n d st p v = inl (j, p)
back s z (bring r k c) (p_bring pl) zero n d st p v =
    let e : c ≡ d = cc in
    absurd (T_not (is_variable d) (subst (λ (x : Meaning). T (not (is_variable x))) e pl) v)
back s z (bring r k c) (p_bring pl) (suc j) n d st p v = inl (j, p)
back s z (visit r) p_visit j n d st p v = inl (j, p)

-- an earlier moment that declares a variable
pub record Declares (s : Sheet) (ms : List Moment) (d : Meaning) (st : Stack) : Type 0 where
  pub moment : Moment
  pub among : Memᴰ moment ms
  pub event_is : moment.event ≡ declare (row_of d)
  pub stack_is : moment.stack ≡ st
  pub decl_is : declared s (row_of d) (within s moment) ≡ d

later : (s : Sheet) (x : Moment) (ms : List Moment) (d : Meaning) (st : Stack) → Declares s ms d st → Declares s (x ∷ ms) d st
later s x ms d st r = record { moment = r.moment; among = mathlib.Core.List.Memᴰ.tail r.among; event_is = r.event_is; stack_is = r.stack_is; decl_is = r.decl_is }

Was : Sheet → Stack → List Event → ℕ → Meaning → Stack → Type 0
Was s z es n d st = ((j : ℕ) × OpenAt z j n d st) ⊎ Declares s (moments s z es) d st

was_step : (s : Sheet) (z : Stack) (e : Event) (es : List Event) → PlainEvent e → (n : ℕ) (d : Meaning) (st : Stack) → T (is_variable d)
    → Was s (step s z e) es n d st → Was s z (e ∷ es) n d st
unfolding Was Back
was_step s z e es pl n d st v (inr r) = inr (later s (record { event = e; stack = z }) _ d st r)
was_step s z e es pl n d st v (inl p) = go (back s z e pl p.0 n d st p.1 v)
  where
    go : Back s z e n d st → Was s z (e ∷ es) n d st
    go (inl q) = inl q
    go (inr q) =
        inr (record {
          moment = record { event = e; stack = z };
          among = mathlib.Core.List.Memᴰ.head refl;
          event_is = q.0;
          stack_is = q.1;
          decl_is = q.2;
        })

was : (s : Sheet) (z : Stack) (es : List Event) → Plain es → (m : Moment) → Memᴰ m (moments s z es)
    → (i n : ℕ) (d : Meaning) (st : Stack) → OpenAt m.stack i n d st → T (is_variable d) → Was s z es n d st
unfolding Was
was s z [] pl m q i n d st p v = absurd (mathlib.Core.List.Memᴰ.not-nil q)
was s z (e ∷ es) (one pe pl) m (mathlib.Core.List.Memᴰ.head q) i n d st p v = inl (i, subst (λ (x : Moment). OpenAt x.stack i n d st) q p)
was s z (e ∷ es) (one pe pl) m (mathlib.Core.List.Memᴰ.tail q) i n d st p v = was_step s z e es pe n d st v (was s (step s z e) es pl m q i n d st p v)

-- a stack on which no variable is open
data PlainStack : Stack → Type 0 where
  bare : PlainStack []
  plainly : {n : ℕ} {d : Meaning} {st : Stack} → T (not (is_variable d)) → PlainStack st → PlainStack (bound n d ∷ st)

none_open : {S : Stack} → PlainStack S → (j n : ℕ) (d : Meaning) (st : Stack) → OpenAt S j n d st → T (is_variable d) → ⊥
none_open bare zero n d st p v = clash (cc)
none_open bare (suc j) n d st p v = clash (cc)
none_open (plainly {d = c} h q) zero n d st p v =
    let e : c ≡ d = cc in
    T_not (is_variable d) (subst (λ (x : Meaning). T (not (is_variable x))) e h) v
none_open (plainly h q) (suc j) n d st p v = none_open q j n d st p v

pub outward_plain : (d : Meaning) → T (is_outward d) → T (not (is_variable d))
outward_plain nothing h = tt
outward_plain (function f) h = tt
outward_plain (class c) h = tt
outward_plain (global g m) h = tt
outward_plain (toplevel r) h = tt
outward_plain (variable r f) h = h

start_plain : (xs : List Named) → T (all (λ x. is_outward x.means) xs) → PlainStack (map (λ x. bound x.name x.means) xs)
start_plain [] h = bare
start_plain (x ∷ xs) h =
    plainly (outward_plain x.means (and_left (is_outward x.means) (all (λ y. is_outward y.means) xs) h))
    (start_plain xs (and_right (is_outward x.means) (all (λ y. is_outward y.means) xs) h))

pub earlier : {O : Outside} → OutsideFits O → (s : Sheet) (m : Moment) → Memᴰ m (history O s) → (i n : ℕ) (d : Meaning) (st : Stack)
    → OpenAt m.stack i n d st → T (is_variable d) → Declares s (history O s) d st
unfolding Was
earlier {O} known s m q i n d st p v = go (was s (start O) (walk s) (plain_trace (rows s) s 0) m q i n d st p v)
  where
    go : ((j : ℕ) × OpenAt (start O) j n d st) ⊎ Declares s (history O s) d st → Declares s (history O s) d st
    go (inl w) = absurd (none_open (start_plain O.names known.outward) w.0 n d st w.1 v)
    go (inr r) = r

mem_largest : (f : Moment → ℕ) {x : Moment} {xs : List Moment} → Memᴰ x xs → f x ≤ largest (map f xs)
mem_largest f {x} (mathlib.Core.List.Memᴰ.head {x = y} {xs = ys} e) =
    let g : f x ≡ f y = ap f e in
    omega arith
mem_largest f (mathlib.Core.List.Memᴰ.tail {x = y} q) = omega (arith, mem_largest f q)

-- a local's slot is below the local count of its function
pub slots_counted : {O : Outside} → OutsideFits O → (s : Sheet) (m : Moment) → Memᴰ m (history O s) → (i n : ℕ) (d : Meaning) (st : Stack) → OpenAt m.stack i n d st → T (is_local s d)
    → open_locals s st < local_count s (history O s) (owner_of d)
slots_counted {O} known s m q i n d st p l =
    let v : T (is_variable d) = and_left (is_variable d) (is s 29 (row_of d)) l in
    let r = earlier known s m q i n d st p v in
    let m' : Moment = r.moment in
    let row : row_of d ≡ declares m'.event = sym (ap declares r.event_is) in
    let decl : declaration s m' ≡ d = ap (λ (k : ℕ). declared s k (within s m')) (sym row) ∙ r.decl_is in
    let own : owner_of d ≡ within s m' =
    ap owner_of (sym r.decl_is ∙ (declared_variable s (row_of d) (within s m') (subst (λ (x : Meaning). T (is_variable x)) (sym r.decl_is) v)).0) in
    let first_in : Memᴰ m' (declarings s (history O s) 29) =
    mem_filter (λ x. is s 29 (declares x.event)) m' (history O s)
    (subst (λ (k : ℕ). T (is s 29 k)) row (and_right (is_variable d) (is s 29 (row_of d)) l)) r.among in
    let then_in : Memᴰ m' (filter (λ x. is_local s (declaration s x) && eqb (within s x) (owner_of d)) (declarings s (history O s) 29)) =
    mem_filter (λ x. is_local s (declaration s x) && eqb (within s x) (owner_of d)) m' (declarings s (history O s) 29)
    (and_both (is_local s (declaration s m')) (eqb (within s m') (owner_of d)) (subst (λ (x : Meaning). T (is_local s x)) (sym decl) l) (eqb_of (within s m') (owner_of d) (sym own))) first_in in
    subst (λ (x : Stack). suc (open_locals s x) ≤ local_count s (history O s) (owner_of d)) r.stack_is
    (mem_largest (λ x. suc (open_locals s x.stack)) then_in)
