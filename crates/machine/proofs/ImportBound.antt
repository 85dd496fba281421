-- Imports stand in a unit's scope, with only the outermost scope below it, and all names are below the limit.
use mathlib.Core.Path.{◌≡◌, refl, sym, ap, ◌∙◌, subst}
use mathlib.Core.Logic.{◌⊎◌, inl, inr}
use mathlib.Core.List.Memᴰ.{head as here}
use mathlib.Core.List.Memᴰ.{tail as there}
use mathlib.Core.List.{List, [], ◌∷◌, ◌++◌, map, Memᴰ as Mem}
use mathlib.Core.Bool.{Bool, true, false, not, ◌||◌, ◌&&◌}
use Prim.Native.Nat.{ℕ, zero, suc, ◌+◌, ◌<◌, ◌≤◌}
use native.Mathlib.Omega.{arith}
use lib.ListN.{length}
use lib.Dec.{eqb, leb, ltb, T, not_T, leb→le, ltb→lt}
use borrow.Author.Tests.{lt-ltb}
use Rattle.definition.specs.Basics.{when◌then◌else◌, ◌⇒◌, filter, concat_map, bit, count}
use Rattle.definition.specs.Sheet.{Sheet, kind, rows, is, a, b, child, kids, kids_of}
use Rattle.definition.specs.Outside.{Outside}
use Rattle.definition.specs.Meaning.{Meaning}
use Rattle.definition.specs.Walk.{Event, enter, leave, loop, declare, bring, visit, exports, seen, imports, literal_let, before, after, after_part, parts, each, trace}
use Rattle.definition.specs.Scope.{Stack, Moment, scope, bound, start, step, run, moments, history}
use Rattle.definition.proofs.Lists.Tests.{and_left, and_right, decide, if_true, if_false, T-imp, eqb_of}
use Rattle.definition.proofs.Lists.Members.{Every, every_none, every_one, every_append, every_mem, filter_mem, mem_test, count_append}
use Rattle.definition.proofs.Format.Facts.{SheetFacts}
use Rattle.definition.proofs.Format.Tree.{column_a, kid_edge}
use Rattle.definition.proofs.Walk.Moments.{run_append, moments_append}
use Rattle.definition.proofs.Walk.Balance.{closed_grown, Keeps, keeps_append, keeps_flat, keeps_each, keeps_trace, flat_append, flat_imports, flat_declares}
use Rattle.definition.proofs.Walk.Fits.{Fits}
use Rattle.definition.proofs.Walk.Rows.{Reached, reached_root, reached_part, part_lies, kids_row, kind_not_zero}
use Rattle.definition.proofs.Walk.Once.{count_map}
use Rattle.machine.proofs.AfterRows.{All, al_none, al_one}
use Rattle.machine.proofs.EntryBound.{top_names, ImportShallow, entries_below, start_length}

abbrev is_bring : Event → Bool
is_bring (enter r) = false
is_bring leave = false
is_bring loop = false
is_bring (declare r) = false
is_bring (bring r n d) = true
is_bring (visit r) = false

abbrev brought_name : Event → ℕ
brought_name (enter r) = 0
brought_name leave = 0
brought_name loop = 0
brought_name (declare r) = 0
brought_name (bring r n d) = n
brought_name (visit r) = 0

-- a scope on a given stack, and in it names below n
data Over (n : ℕ) (base : Stack) : Stack → Type 0 where
  o_scope : {r : ℕ} → Over n base (scope r ∷ base)
  o_name : {m : ℕ} {d : Meaning} {st : Stack} → ltb m n ≡ true → Over n base st → Over n base (bound m d ∷ st)

over_length : {n : ℕ} {base st : Stack} → Over n base st → length st ≡ length (top_names st) + suc (length base)
over_length o_scope = omega arith
over_length (o_name h o) = omega (arith, over_length o)

over_names : {n : ℕ} {base st : Stack} → Over n base st → All (λ x. ltb x n) (top_names st)
over_names o_scope = al_none
over_names (o_name h o) = al_one h (over_names o)

-- imports of names below n
data Below (n : ℕ) : List Event → Type 0 where
  b_none : Below n []
  b_bring : {r k : ℕ} {d : Meaning} {es : List Event} → ltb k n ≡ true → Below n es → Below n (bring r k d ∷ es)

below_append : {n : ℕ} {xs ys : List Event} → Below n xs → Below n ys → Below n (xs ++ ys)
below_append b_none g = g
below_append (b_bring h f) g = b_bring h (below_append f g)

below_if : {n : ℕ} (t : Bool) {xs : List Event} → Below n xs → Below n (when t then xs else [])
below_if true f = f
below_if false f = b_none

below_map : {A : Type 0} (n i : ℕ) (nm : A → ℕ) (dc : A → Meaning) {xs : List A} → Every (λ x. ltb (nm x) n ≡ true) xs → Below n (map (λ x. bring i (nm x) (dc x)) xs)
below_map n i nm dc every_none = b_none
below_map n i nm dc (every_one h f) = b_bring h (below_map n i nm dc f)

every_map : {A B : Type 0} {P : B → Type 0} (f : A → B) (xs : List A) → ((x : A) → Mem x xs → P (f x)) → Every P (map f xs)
every_map f [] g = every_none
every_map f (x ∷ xs) g = every_one (g x (here refl)) (every_map f xs (λ y m. g y (there m)))

every_of : {A : Type 0} {P : A → Type 0} (xs : List A) → ((x : A) → Mem x xs → P x) → Every P xs
every_of [] g = every_none
every_of (x ∷ xs) g = every_one (g x (here refl)) (every_of xs (λ y m. g y (there m)))

-- moments at which at most the names from outside and a mark lie below an import's scope
shallow_other : (n c : ℕ) (m : Moment) → T (not (is_bring m.event)) → ImportShallow n c m
unfolding ImportShallow
shallow_other n c m h r k d e = absurd (subst (λ (x : Event). T (not (is_bring x))) e h)

no_bit : (t : Bool) (k : ℕ) → bit t + k ≡ 0 → T (not t)
no_bit true k e = absurd (omega arith)
no_bit false k e = tt

shallow_none : (s : Sheet) (n c : ℕ) (es : List Event) → count is_bring es ≡ 0 → (z : Stack) → Every (ImportShallow n c) (moments s z es)
shallow_none s n c [] h z = every_none
shallow_none s n c (e ∷ es) h z = every_one (shallow_other n c _ (no_bit (is_bring e) (count is_bring es) h)) (shallow_none s n c es (omega arith) (step s z e))

shallow_one : (O : Outside) (n r k : ℕ) (d : Meaning) (z : Stack) → ltb k n ≡ true → Over n (start O) z → ImportShallow n (entries_below O) (record { event = bring r k d; stack = z })
unfolding ImportShallow
shallow_one O n r k d z h o r' k' d' e =
    let l : length z ≤ length (top_names z) + entries_below O = omega (arith, over_length o, start_length O.names) in
    (l, al_one (subst (λ (j : ℕ). ltb j n ≡ true) (ap brought_name e) h) (over_names o))

shallow_brings : (O : Outside) (s : Sheet) (n : ℕ) {es : List Event} → Below n es → (z : Stack) → Over n (start O) z → Every (ImportShallow n (entries_below O)) (moments s z es)
shallow_brings O s n b_none z o = every_none
shallow_brings O s n (b_bring {r} {k} {d} h f) z o =
    every_one (shallow_one O n r k d z h o)
    (shallow_brings O s n f (step s z (bring r k d)) (o_name h o))

shallow_append : (s : Sheet) (n c : ℕ) (z : Stack) (xs ys : List Event) → Every (ImportShallow n c) (moments s z xs)
    → Every (ImportShallow n c) (moments s (run s z xs) ys) → Every (ImportShallow n c) (moments s z (xs ++ ys))
shallow_append s n c z xs ys f g = subst (λ (l : List Moment). Every (ImportShallow n c) l) (sym (moments_append s z xs ys)) (every_append f g)

-- a unit's scope: imports, then none
shallow_scope : (O : Outside) (s : Sheet) (n u : ℕ) (xs ds ms : List Event) → Below n xs → count is_bring ds ≡ 0 → count is_bring ms ≡ 0 → (z : Stack) → z ≡ (start O)
    → Every (ImportShallow n (entries_below O)) (moments s z (((enter u ∷ (xs ++ ds)) ++ ms) ++ (leave ∷ [])))
shallow_scope O s n u xs ds ms f g h z e =
    let y : Stack = step s z (enter u) in
    every_one (shallow_other n (entries_below O) _ tt)
    (shallow_append s n (entries_below O) y ((xs ++ ds) ++ ms) (leave ∷ [])
    (shallow_append s n (entries_below O) y (xs ++ ds) ms
    (shallow_append s n (entries_below O) y xs ds (shallow_brings O s n f y (subst (λ (st : Stack). Over n (start O) (scope u ∷ st)) (sym e) o_scope)) (shallow_none s n (entries_below O) ds g _))
    (shallow_none s n (entries_below O) ms h _))
    (shallow_none s n (entries_below O) (leave ∷ []) refl _))

scope_back : (s : Sheet) (u : ℕ) (es : List Event) → Keeps s es → (z : Stack) → run s z ((enter u ∷ es) ++ (leave ∷ [])) ≡ z
unfolding Keeps
scope_back s u es f z = run_append s (step s z (enter u)) es (leave ∷ []) ∙ closed_grown u z (f (step s z (enter u)))

-- a row that is no unit imports nothing
bring_before : (r : ℕ) (t2 t6 t25 t27 t30 : Bool) (e2 e6 e25 : List Event) → T (not t2) → count is_bring e6 ≡ 0 → count is_bring e25 ≡ 0
    → count is_bring (when t2 then enter r ∷ e2 else when t6 then enter r ∷ e6 else when t25 then enter r ∷ e25 else when t27 then enter r ∷ [] else when t30 then visit r ∷ [] else []) ≡ 0
bring_before r true t6 t25 t27 t30 e2 e6 e25 n g h = absurd n
bring_before r false true t25 t27 t30 e2 e6 e25 n g h = omega arith
bring_before r false false true t27 t30 e2 e6 e25 n g h = omega arith
bring_before r false false false true t30 e2 e6 e25 n g h = omega arith
bring_before r false false false false true e2 e6 e25 n g h = omega arith
bring_before r false false false false false e2 e6 e25 n g h = omega arith

bring_part : (r : ℕ) (t59 t27 : Bool) → count is_bring (when t59 then visit r ∷ [] else when t27 then loop ∷ [] else []) ≡ 0
bring_part r true t27 = refl
bring_part r false true = refl
bring_part r false false = refl

bring_each : (s : Sheet) (go : ℕ → List Event) (r i : ℕ) (ks : List ℕ) → ((k : ℕ) → Mem k ks → count is_bring (go k) ≡ 0) → count is_bring (each go s r i ks) ≡ 0
bring_each s go r i [] f = refl
bring_each s go r i (k ∷ ks) f =
    omega (
      arith,
      count_append is_bring (go k ++ after_part s r i) (each go s r (suc i) ks),
      count_append is_bring (go k) (after_part s r i),
      f k (here refl),
      bring_part r (is s 59 r && eqb i 0) (is s 27 r && eqb i 1),
      bring_each s go r (suc i) ks (λ j m. f j (there m)),
    )

bring_after : (r : ℕ) (tl t29 t52 tv : Bool) → count is_bring (when tl then leave ∷ [] else when t29 then (when t52 then [] else declare r ∷ []) else when tv then visit r ∷ [] else []) ≡ 0
bring_after r true t29 t52 tv = refl
bring_after r false true true tv = refl
bring_after r false true false tv = refl
bring_after r false false t52 true = refl
bring_after r false false t52 false = refl

module _ {O : Outside} {s : Sheet} (ok : Fits O s) where
  not_unit : {j : ℕ} (r k : ℕ) → Reached s j r → (r ≡ 0 → ⊥) → Mem k (parts s r) → T (not (is s 2 k))
  not_unit r k w z m = not_T (is s 2 k) (λ t. go t (decide (is s 30 r)))
    where
      p : ℕ
      p = when is s 30 r then a s r else r

      kid : Mem k (kids s p)
      kid = (filter_mem (λ k. is s 2 k || is s 6 k || leb 20 (kind s k)) k (kids s p) m).0

      go : T (is s 2 k) → T (is s 30 r) ⊎ T (not (is s 30 r)) → ⊥
      go t (inl h) =
          let e : p ≡ a s r = if_true (is s 30 r) (a s r) r h in
          let c = ok.class_named r w.in_range h in
          kind_not_zero ok 4 (a s r) tt c.1 (ok.units (a s r) k c.0 (subst (λ (x : ℕ). Mem k (kids s x)) e kid) t)
      go t (inr h) =
          let e : p ≡ r = if_false (is s 30 r) (a s r) r h in
          z (ok.units r k w.in_range (subst (λ (x : ℕ). Mem k (kids s x)) e kid) t)

  none_brought : (d : ℕ) {j : ℕ} (r : ℕ) → Reached s j r → (r ≡ 0 → ⊥) → T (not (is s 2 r)) → count is_bring (trace d s r) ≡ 0
  none_brought zero r w z n = refl
  none_brought (suc d) r w z n =
      omega (
        arith,
        count_append is_bring (before s r ++ each (trace d s) s r 0 (parts s r)) (after s r),
        count_append is_bring (before s r) (each (trace d s) s r 0 (parts s r)),
        bring_before r (is s 2 r) (is s 6 r) (is s 25 r) (is s 27 r) (is s 30 r)
            (concat_map (imports s r) (kids_of s 3 r) ++ map declare (kids_of s 4 r)) (map declare (kids_of s 11 r)) (map declare (filter (literal_let s) (kids s r)))
            n (count_map is_bring declare (kids_of s 11 r) (λ k. tt)) (count_map is_bring declare (filter (literal_let s) (kids s r)) (λ k. tt)),
        bring_each s (trace d s) r 0 (parts s r) (λ k m. none_brought d k (reached_part ok k w m) (part_lies ok k w m).2 (not_unit r k w z m)),
        bring_after r (is s 2 r || is s 6 r || is s 25 r || is s 27 r) (is s 29 r) (is s 52 (child s r)) (is s 21 r || is s 23 r || is s 24 r || is s 50 r || is s 51 r || is s 52 r || is s 55 r),
      )

four_or : (t2 t6 t25 t27 : Bool) → T t2 → T (t2 || t6 || t25 || t27)
four_or true t6 t25 t27 h = tt
four_or false t6 t25 t27 h = absurd h

module _ (n : ℕ) {O : Outside} {s : Sheet} (ok : Fits O s) (fa : SheetFacts n s) where
  named : (v : ℕ) → T (leb 1 v && leb v n) → ltb v (suc n) ≡ true
  named v h = let l : v ≤ n = leb→le v n (and_right (leb 1 v) (leb v n) h) in lt-ltb v (suc n) (omega arith)

  exports_named : (w : ℕ) → w < rows s → Every (λ e. ltb e.name (suc n) ≡ true) (exports s w)
  exports_named w l =
      every_append
      (every_append
      (every_map _ (kids_of s 7 w) (λ r m. let q = filter_mem (is s 7) r (kids s w) m in named (a s r) (column_a n s fa 7 r q.1 (kids_row ok w r l q.0))))
      (every_map _ (kids_of s 4 w) (λ r m. let q = filter_mem (is s 4) r (kids s w) m in named (a s r) (column_a n s fa 4 r q.1 (kids_row ok w r l q.0)))))
      (every_map _ (kids_of s 8 w) (λ r m. let q = filter_mem (is s 8) r (kids s w) m in named (a s r) (column_a n s fa 8 r q.1 (kids_row ok w r l q.0))))

  seen_named : (u i : ℕ) → a s i < rows s → Every (λ e. ltb e.name (suc n) ≡ true) (seen s u i)
  seen_named u i l = go (eqb (a s i) u)
    where
      go : (t : Bool) → Every (λ e. ltb e.name (suc n) ≡ true) (when t then [] else exports s (a s i))
      go true = every_none
      go false = exports_named (a s i) l

  listed_named : (i : ℕ) → i < rows s → T (is s 3 i) → Every (λ k. ltb (a s k) (suc n) ≡ true) (kids s i)
  listed_named i l h =
      every_of (kids s i) (λ k m. named (a s k) (column_a n s fa 9 k
      (T-imp (is s 3 i) (is s 9 k) (kid_edge n s fa (λ p k. eqb p 3 ⇒ eqb k 9) tt i k l (mem_test k (kids s i) m)) h) (kids_row ok i k l m)))

  import_below : (u i : ℕ) → i < rows s → T (is s 3 i) → Below (suc n) (imports s u i)
  import_below u i l h =
      let w : a s i < rows s = ltb→lt (a s i) (rows s) (and_left (ltb (a s i) (rows s)) (is s 2 (a s i)) (column_a n s fa 3 i h l)) in
      below_append (below_if (eqb (b s i) 1) (below_map (suc n) i (λ e. e.name) (λ e. e.means) (seen_named u i w))) (below_map (suc n) i (a s) _ (listed_named i l h))

  imports_below : (u : ℕ) (ks : List ℕ) → ((i : ℕ) → Mem i ks → (i < rows s) × T (is s 3 i)) → Below (suc n) (concat_map (imports s u) ks)
  imports_below u [] f = b_none
  imports_below u (i ∷ ks) f = let q = f i (here refl) in below_append (import_below u i q.0 q.1) (imports_below u ks (λ j m. f j (there m)))

  -- a unit
  unit_trace : (d u : ℕ) → T (is s 2 u) → trace (suc d) s u
      ≡ ((enter u ∷ (concat_map (imports s u) (kids_of s 3 u) ++ map declare (kids_of s 4 u))) ++ each (trace d s) s u 0 (parts s u)) ++ (leave ∷ [])
  unit_trace d u h =
      let x : before s u ≡ enter u ∷ (concat_map (imports s u) (kids_of s 3 u) ++ map declare (kids_of s 4 u)) = if_true (is s 2 u) _ _ h in
      let y : after s u ≡ leave ∷ [] = if_true (is s 2 u || is s 6 u || is s 25 u || is s 27 u) _ _ (four_or (is s 2 u) (is s 6 u) (is s 25 u) (is s 27 u) h) in
      ap (λ (l : List Event). (l ++ each (trace d s) s u 0 (parts s u)) ++ after s u) x
      ∙ ap (λ (l : List Event). ((enter u ∷ (concat_map (imports s u) (kids_of s 3 u) ++ map declare (kids_of s 4 u))) ++ each (trace d s) s u 0 (parts s u)) ++ l) y

  unit_shallow : (d : ℕ) {j : ℕ} (u : ℕ) → Reached s j u → (u ≡ 0 → ⊥) → T (is s 2 u) → (z : Stack) → z ≡ (start O) → Every (ImportShallow (suc n) (entries_below O)) (moments s z (trace d s u))
  unit_shallow zero u w nz h z e = every_none
  unit_shallow (suc d) u w nz h z e =
      subst (λ (l : List Event). Every (ImportShallow (suc n) (entries_below O)) (moments s z l)) (sym (unit_trace d u h))
      (shallow_scope O s (suc n) u (concat_map (imports s u) (kids_of s 3 u)) (map declare (kids_of s 4 u)) (each (trace d s) s u 0 (parts s u))
      (imports_below u (kids_of s 3 u) (λ i m. let q = filter_mem (is s 3) i (kids s u) m in (kids_row ok u i w.in_range q.0, q.1)))
      (count_map is_bring declare (kids_of s 4 u) (λ k. tt))
      (bring_each s (trace d s) u 0 (parts s u) (λ k m. none_brought ok d k (reached_part ok k w m) (part_lies ok k w m).2 (not_unit ok u k w nz m)))
      z e)

  unit_back : (d u : ℕ) → T (is s 2 u) → (z : Stack) → run s z (trace d s u) ≡ z
  unit_back zero u h z = refl
  unit_back (suc d) u h z =
      ap (λ (l : List Event). run s z l) (unit_trace d u h)
      ∙ scope_back s u ((concat_map (imports s u) (kids_of s 3 u) ++ map declare (kids_of s 4 u)) ++ each (trace d s) s u 0 (parts s u))
      (keeps_append s _ _ (keeps_flat s (flat_append (flat_imports s u (kids_of s 3 u)) (flat_declares (kids_of s 4 u)))) (keeps_each s (trace d s) u 0 (parts s u) (keeps_trace d s))) z

  -- the header: units
  header_part : (i : ℕ) → after_part s 0 i ≡ []
  header_part i = rw ok.header

  header_before : before s 0 ≡ []
  header_before = rw ok.header

  header_after : after s 0 ≡ []
  header_after = rw ok.header

  units_shallow : (d i : ℕ) (ks : List ℕ) → ((k : ℕ) → Mem k ks → Reached s 1 k × (k ≡ 0 → ⊥) × T (is s 2 k)) → (z : Stack) → z ≡ (start O)
      → Every (ImportShallow (suc n) (entries_below O)) (moments s z (each (trace d s) s 0 i ks))
  units_shallow d i [] f z e = every_none
  units_shallow d i (k ∷ ks) f z e =
      let q = f k (here refl) in
      let y : Stack = run s z (trace d s k ++ after_part s 0 i) in
      let back : y ≡ (start O) =
      run_append s z (trace d s k) (after_part s 0 i) ∙ ap (λ (l : List Event). run s (run s z (trace d s k)) l) (header_part i) ∙ unit_back d k q.2 z ∙ e in
      shallow_append s (suc n) (entries_below O) z (trace d s k ++ after_part s 0 i) (each (trace d s) s 0 (suc i) ks)
      (shallow_append s (suc n) (entries_below O) z (trace d s k) (after_part s 0 i) (unit_shallow d k q.0 q.1 q.2 z e)
      (shallow_none s (suc n) (entries_below O) (after_part s 0 i) (ap (count is_bring) (header_part i)) _))
      (units_shallow d (suc i) ks (λ j m. f j (there m)) y back)

  header_unit : (k : ℕ) → Mem k (parts s 0) → Reached s 1 k × (k ≡ 0 → ⊥) × T (is s 2 k)
  header_unit k m =
      let p : ℕ = when is s 30 0 then a s 0 else 0 in
      let e : p ≡ 0 = if_false (is s 30 0) (a s 0) 0 (subst (λ (j : ℕ). T (not (eqb j 30))) (sym ok.header) tt) in
      let q = filter_mem (λ k. is s 2 k || is s 6 k || leb 20 (kind s k)) k (kids s p) m in (
        reached_part ok k (reached_root ok) m,
        (part_lies ok k (reached_root ok) m).2,
        T-imp (is s 0 0) (is s 2 k) (kid_edge n s fa (λ p k. eqb p 0 ⇒ eqb k 2) tt 0 k ok.some_row
            (mem_test k (kids s 0) (subst (λ (x : ℕ). Mem k (kids s x)) e q.0)))
            (eqb_of (kind s 0) 0 ok.header),
      )

  header_shallow : (d : ℕ) → Every (ImportShallow (suc n) (entries_below O)) (moments s (start O) (trace d s 0))
  header_shallow zero = every_none
  header_shallow (suc d) =
      let x : trace (suc d) s 0 ≡ (([] ++ each (trace d s) s 0 0 (parts s 0)) ++ []) =
      ap (λ (l : List Event). (l ++ each (trace d s) s 0 0 (parts s 0)) ++ after s 0) header_before ∙ ap (λ (l : List Event). each (trace d s) s 0 0 (parts s 0) ++ l) header_after in
      subst (λ (l : List Event). Every (ImportShallow (suc n) (entries_below O)) (moments s (start O) l)) (sym x)
      (shallow_append s (suc n) (entries_below O) (start O) (each (trace d s) s 0 0 (parts s 0)) [] (units_shallow d 0 (parts s 0) header_unit (start O) refl) every_none)

  pub walk_shallow : (m : Moment) → Mem m (history O s) → ImportShallow (suc n) (entries_below O) m
  walk_shallow m q = every_mem (header_shallow (rows s)) q
