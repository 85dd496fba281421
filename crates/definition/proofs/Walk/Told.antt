-- At each moment the functions around, read off the scopes that are open, are those that the row visited or declared lies in.
use mathlib.Core.Path.{◌≡◌, refl, sym, ap, ◌∙◌, subst}
use mathlib.Core.List.Memᴰ.{head as here}
use mathlib.Core.List.Memᴰ.{tail as there}
use mathlib.Core.List.{List, [], ◌∷◌, ◌++◌, map, Memᴰ as Mem}
use mathlib.Core.Bool.{Bool, true, false, not, ◌||◌, ◌&&◌}
use Prim.Native.Nat.{ℕ, zero, suc, ◌+◌, ◌<◌, ◌≤◌}
use native.Mathlib.Omega.{arith}
use lib.Dec.{eqb, leb, T, not_T, eqb→eq}
use Rattle.definition.specs.Basics.{when◌then◌else◌, filter, head}
use Rattle.definition.specs.Sheet.{Sheet, kind, child, rows, kids, is, kids_of, functions_of}
use Rattle.definition.specs.Outside.{Outside}
use Rattle.definition.specs.Meaning.{Meaning}
use Rattle.definition.specs.Walk.{Event, enter, leave, loop, declare, bring, visit, literal_let, after_part, parts, each, trace}
use Rattle.definition.specs.Scope.{Stack, Moment, around, step, run, moments, history, start}
use Rattle.definition.specs.Bounds.{walked}
use Rattle.definition.proofs.Walk.Moments.{moments_append, around_names}
use Rattle.definition.proofs.Walk.Balance.{Flat, none, a_loop, a_name, an_import, a_visit, flat_append}
use Rattle.definition.proofs.Walk.Balance.{flat_declares, flat_imports, flat_if, around_grown, Keeps}
use Rattle.definition.proofs.Walk.Balance.{keeps_append, keeps_flat, keeps_each, keeps_trace}
use Rattle.definition.proofs.Lists.Tests.{and_left, if_true, if_false, kind_apart}
use Rattle.definition.proofs.Lists.Members.{mem_concat_map, Every, every_none, every_one, every_append, every_mem, filter_mem}
use Rattle.definition.proofs.Walk.Fits.{Fits}
use Rattle.definition.proofs.Walk.Rows.{Reached, reached_root, reached_part, part_lies, lies_in_reached, kids_row, chain_nonzero}
use Rattle.definition.proofs.Walk.Around.{Walks, inner, functions_step, functions_zero, in_function}
use Rattle.definition.proofs.Walk.Once.{Brings, brings_imports}

-- what a declaring row is: a class, a parameter of the innermost function, or a let
pub data Declarer (s : Sheet) (fs : List ℕ) (x : ℕ) : Type 0 where
  a_class : T (is s 4 x) → Declarer s fs x
  a_parameter : T (is s 11 x) → T (is s 6 (head fs)) → head fs < rows s → Mem x (kids s (head fs)) → Declarer s fs x
  a_let : T (is s 29 x) → (fs ≡ [] → ⊥) → Declarer s fs x

-- an event with the functions fs around it
pub data Told (s : Sheet) (fs : List ℕ) : Event → Type 0 where
  t_enter : {r : ℕ} → Told s fs (enter r)
  t_leave : Told s fs leave
  t_loop : Told s fs loop
  t_declare : {x : ℕ} → fs ≡ functions_of s x → x < rows s → Declarer s fs x → Told s fs (declare x)
  t_bring : {r n : ℕ} {d : Meaning} → Told s fs (bring r n d)
  t_visit : {x : ℕ} → fs ≡ functions_of s x → Walks s x → Told s fs (visit x)

abbrev pub ToldAt : Sheet → Moment → Type 0
ToldAt s m = Told s (around s m.stack) m.event

-- events of which all moments are so, from any state with the functions fs around
unfoldable pub Settled : Sheet → List ℕ → List Event → Type 0
Settled s fs es = (z : Stack) → around s z ≡ fs → Every (ToldAt s) (moments s z es)

settled_append : (s : Sheet) (fs : List ℕ) (xs ys : List Event) → Keeps s xs → Settled s fs xs → Settled s fs ys → Settled s fs (xs ++ ys)
unfolding Keeps Settled
settled_append s fs xs ys k f g z e =
    rw moments_append (every_append (f z e) (g (run s z xs) (around_grown s z (k z) ∙ e)))

told_at : (s : Sheet) (fs : List ℕ) (z : Stack) (e : Event) → around s z ≡ fs → Told s fs e → ToldAt s (record { event = e; stack = z })
told_at s fs z e q t = subst (λ (l : List ℕ). Told s l e) (sym q) t

settled_flat : (s : Sheet) (fs : List ℕ) {es : List Event} → Flat es → Every (Told s fs) es → Settled s fs es
unfolding Settled
settled_flat s fs none t z e = every_none
settled_flat s fs (a_loop f) (every_one t ts) z e = every_one (told_at s fs z loop e t) (settled_flat s fs f ts (step s z loop) e)
settled_flat s fs (a_name {r = r} f) (every_one t ts) z e = every_one (told_at s fs z (declare r) e t) (settled_flat s fs f ts (step s z (declare r)) e)
settled_flat s fs (an_import {r = r} {n = n} {d = d} f) (every_one t ts) z e = every_one (told_at s fs z (bring r n d) e t) (settled_flat s fs f ts (step s z (bring r n d)) e)
settled_flat s fs (a_visit {r = r} f) (every_one t ts) z e = every_one (told_at s fs z (visit r) e t) (settled_flat s fs f ts (step s z (visit r)) e)

-- a scope: the functions around what is in it
abbrev entered : Sheet → ℕ → List ℕ → List ℕ
entered s r fs = when is s 6 r then r ∷ fs else fs

settled_scope : (s : Sheet) (r : ℕ) (fs : List ℕ) (es : List Event) → Settled s (entered s r fs) es → Settled s fs ((enter r ∷ es) ++ (leave ∷ []))
unfolding Settled
settled_scope s r fs es f z e =
    let y : Stack = step s z (enter r) in
    every_one t_enter (subst (λ (l : List Moment). Every (ToldAt s) l) (sym (moments_append s y es (leave ∷ []))) (every_append (f y (ap (entered s r) e)) (every_one t_leave every_none)))

every_if : {P : Event → Type 0} (t : Bool) {xs : List Event} → (T t → Every P xs) → Every P (when t then xs else [])
every_if true f = f tt
every_if false f = every_none

settled_row : (s : Sheet) (r : ℕ) (fs : List ℕ) (ms : List Event) (t2 t6 t25 t27 t30 t29 t52 tv : Bool) {e2 e6 e25 : List Event}
    → Flat e2 → Flat e6 → Flat e25 → Keeps s ms → (T (not t6) → entered s r fs ≡ fs)
    → (T t2 → Every (Told s (entered s r fs)) e2) → (T t6 → Every (Told s (entered s r fs)) e6) → (T t25 → Every (Told s (entered s r fs)) e25)
    → Told s fs (visit r) → (T t29 → Told s fs (declare r)) → Settled s (entered s r fs) ms
    → Settled s fs ((when t2 then enter r ∷ e2 else when t6 then enter r ∷ e6 else when t25 then enter r ∷ e25 else when t27 then enter r ∷ [] else when t30 then visit r ∷ [] else [])
    ++ ms
    ++ (when t2 || t6 || t25 || t27 then leave ∷ [] else when t29 then (when t52 then [] else declare r ∷ []) else when tv then visit r ∷ [] else []))
settled_row s r fs ms true t6 t25 t27 t30 t29 t52 tv {e2} f2 f6 f25 k n g2 g6 g25 v d h =
    settled_scope s r fs (e2 ++ ms) (settled_append s (entered s r fs) e2 ms (keeps_flat s f2) (settled_flat s (entered s r fs) f2 (g2 tt)) h)
settled_row s r fs ms false true t25 t27 t30 t29 t52 tv {e6 = e6} f2 f6 f25 k n g2 g6 g25 v d h =
    settled_scope s r fs (e6 ++ ms) (settled_append s (entered s r fs) e6 ms (keeps_flat s f6) (settled_flat s (entered s r fs) f6 (g6 tt)) h)
settled_row s r fs ms false false true t27 t30 t29 t52 tv {e25 = e25} f2 f6 f25 k n g2 g6 g25 v d h =
    settled_scope s r fs (e25 ++ ms) (settled_append s (entered s r fs) e25 ms (keeps_flat s f25) (settled_flat s (entered s r fs) f25 (g25 tt)) h)
settled_row s r fs ms false false false true t30 t29 t52 tv f2 f6 f25 k n g2 g6 g25 v d h = settled_scope s r fs ms h
settled_row s r fs ms false false false false t30 t29 t52 tv f2 f6 f25 k n g2 g6 g25 v d h =
    let first_flat : Flat (when t30 then visit r ∷ [] else []) = flat_if t30 (a_visit none) none in
    let first_told : Every (Told s fs) (when t30 then visit r ∷ [] else []) = every_if t30 (λ t. every_one v every_none) in
    settled_append s fs ((when t30 then visit r ∷ [] else []) ++ ms) _
    (keeps_append s _ _ (keeps_flat s first_flat) k)
    (settled_append s fs (when t30 then visit r ∷ [] else []) ms (keeps_flat s first_flat) (settled_flat s fs first_flat first_told) (subst (λ (l : List ℕ). Settled s l ms) (n tt) h))
    (settled_flat s fs (flat_if t29 (flat_if t52 none (a_name none)) (flat_if tv (a_visit none) none)) (last t29 t52 tv d))
  where
    last : (t29 t52 tv : Bool) → (T t29 → Told s fs (declare r)) → Every (Told s fs) (when t29 then (when t52 then [] else declare r ∷ []) else when tv then visit r ∷ [] else [])
    last true true tv d = every_none
    last true false tv d = every_one (d tt) every_none
    last false t52 true d = every_one v every_none
    last false t52 false d = every_none

settled_each : (s : Sheet) (fs : List ℕ) (go : ℕ → List Event) (r i : ℕ) (ks : List ℕ) → ((k : ℕ) → Keeps s (go k)) → (T (is s 59 r) → Told s fs (visit r)) → ((k : ℕ) → Mem k ks → Settled s fs (go k))
    → Settled s fs (each go s r i ks)
settled_each s fs go r i [] k v f = settled_flat s fs none every_none
settled_each s fs go r i (j ∷ ks) k v f =
    settled_append s fs (go j ++ after_part s r i) (each go s r (suc i) ks) (keeps_append s (go j) (after_part s r i) (k j) (keeps_flat s flat))
    (settled_append s fs (go j) (after_part s r i) (k j) (f j (here refl)) (settled_flat s fs flat (told (is s 59 r) (eqb i 0) (is s 27 r && eqb i 1) v)))
    (settled_each s fs go r (suc i) ks k v (λ l m. f l (there m)))
  where
    flat : Flat (after_part s r i)
    flat = flat_if (is s 59 r && eqb i 0) (a_visit none) (flat_if (is s 27 r && eqb i 1) (a_loop none) none)

    told : (t59 t0 t27 : Bool) → (T t59 → Told s fs (visit r)) → Every (Told s fs) (when t59 && t0 then visit r ∷ [] else when t27 then loop ∷ [] else [])
    told true true t27 w = every_one (w tt) every_none
    told true false true w = every_one t_loop every_none
    told true false false w = every_none
    told false t0 true w = every_one t_loop every_none
    told false t0 false w = every_none

every_brings : (s : Sheet) (fs : List ℕ) {es : List Event} → Brings es → Every (Told s fs) es
every_brings s fs Brings.none = every_none
every_brings s fs (Brings.more p) = every_one t_bring (every_brings s fs p)

every_declares : {P : Event → Type 0} (ks : List ℕ) → ((k : ℕ) → Mem k ks → P (declare k)) → Every P (map declare ks)
every_declares [] f = every_none
every_declares (k ∷ ks) f = every_one (f k (here refl)) (every_declares ks (λ j m. f j (there m)))

module _ {O : Outside} {s : Sheet} (ok : Fits O s) where
  -- the functions around a child or a part
  kid_around : {n r : ℕ} (k : ℕ) → Reached s n r → suc n ≤ rows s → Mem k (kids s r) → inner s r ≡ functions_of s k
  kid_around {n} {r} k w h m = sym (functions_step ok k r w.deep h (chain_nonzero (rows s) s (child s r) k m) (lies_in_reached ok k w m))

  some_around : (x : ℕ) → Walks s x → (j : ℕ) → T (leb 20 j) → T (is s j x) → functions_of s x ≡ [] → ⊥
  some_around x m j l h e =
      let q = in_function ok x m (subst (λ (k : ℕ). T (leb 20 k)) (sym (eqb→eq (kind s x) j h)) l) in
      let f : q.0 ∷ q.1 ≡ [] = sym q.2 ∙ e in
      let z : ◌≡◌ {A = ℕ} 0 1 = cc in
      omega arith

  some_inner : (r : ℕ) → (functions_of s r ≡ [] → ⊥) → inner s r ≡ [] → ⊥
  some_inner r f e = f (go (is s 6 r) e)
    where
      go : (t : Bool) → (when t then r ∷ functions_of s r else functions_of s r) ≡ [] → functions_of s r ≡ []
      go true q = let z : ◌≡◌ {A = ℕ} 0 1 = cc in absurd (omega arith)
      go false q = q

  settled_trace : (d n r : ℕ) → Reached s n r → n + d ≤ rows s → ((x : ℕ) → Mem x (walked d s r) → Walks s x) → Settled s (functions_of s r) (trace d s r)
  settled_trace zero n r w h up = settled_flat s (functions_of s r) none every_none
  settled_trace (suc d) n r w h up =
      let l : suc n ≤ rows s = omega arith in
      settled_row s r (functions_of s r) (each (trace d s) s r 0 (parts s r)) (is s 2 r) (is s 6 r) (is s 25 r) (is s 27 r) (is s 30 r) (is s 29 r) (is s 52 (child s r))
      (is s 21 r || is s 23 r || is s 24 r || is s 50 r || is s 51 r || is s 52 r || is s 55 r)
      (flat_append (flat_imports s r (kids_of s 3 r)) (flat_declares (kids_of s 4 r)))
      (flat_declares (kids_of s 11 r)) (flat_declares (filter (literal_let s) (kids s r)))
      (keeps_each s (trace d s) r 0 (parts s r) (keeps_trace d s))
      (λ t. if_false (is s 6 r) (r ∷ functions_of s r) (functions_of s r) t)
      (λ t. every_append (every_brings s (inner s r) (brings_imports s r (kids_of s 3 r)))
      (every_declares (kids_of s 4 r) (λ k m. let q = filter_mem (is s 4) k (kids s r) m in t_declare (kid_around k w l q.0) (kids_row ok r k w.in_range q.0) (a_class q.1))))
      (λ t. every_declares (kids_of s 11 r)
      (λ k m. let q = filter_mem (is s 11) k (kids s r) m in
      t_declare (kid_around k w l q.0) (kids_row ok r k w.in_range q.0) (parameter k t q.1 q.0)))
      (λ t. every_declares (filter (literal_let s) (kids s r)) (λ k m. let q = filter_mem (literal_let s) k (kids s r) m in
      t_declare (kid_around k w l q.0) (kids_row ok r k w.in_range q.0) (a_let (and_left (is s 29 k) (is s 52 (child s k)) q.1) (some_inner r (some_around r (up r (here refl)) 25 tt t)))))
      (t_visit refl (up r (here refl))) (λ t. t_declare refl w.in_range (a_let t (some_around r (up r (here refl)) 29 tt t)))
      (settled_each s (inner s r) (trace d s) r 0 (parts s r) (keeps_trace d s)
      (λ t. t_visit (if_false (is s 6 r) (r ∷ functions_of s r) (functions_of s r) (not_T (is s 6 r) (kind_apart (kind s r) 59 6 tt t))) (up r (here refl)))
      (λ k m. subst (λ (fs : List ℕ). Settled s fs (trace d s k)) (part_around k m l)
      (settled_trace d (suc n) k (reached_part ok k w m) (omega arith) (λ x q. up x (there (mem_concat_map (walked d s) k x (parts s r) m q))))))
    where
      part_around : (k : ℕ) → Mem k (parts s r) → suc n ≤ rows s → functions_of s k ≡ inner s r
      part_around k m l = let q = part_lies ok k w m in functions_step ok k r w.deep l q.2 q.0

      parameter : (k : ℕ) → T (is s 6 r) → T (is s 11 k) → Mem k (kids s r) → Declarer s (inner s r) k
      parameter k t e m =
          let i : head (inner s r) ≡ r = ap head (if_true (is s 6 r) (r ∷ functions_of s r) (functions_of s r) t) in
          a_parameter e (subst (λ (q : ℕ). T (is s 6 q)) (sym i) t) (subst (λ (q : ℕ). q < rows s) (sym i) w.in_range) (subst (λ (q : ℕ). Mem k (kids s q)) (sym i) m)

  -- every moment of the walk is so
  pub told : (m : Moment) → Mem m (history O s) → ToldAt s m
  unfolding Settled
  told m q = every_mem (settled_trace (rows s) 0 0 (reached_root ok) (omega arith) (λ x p. p) (start O) (around_names s O.names ∙ sym (functions_zero ok))) q
