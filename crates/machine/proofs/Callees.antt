-- The base of a member callee is visited just before its call, with the same open scopes.
use mathlib.Core.Path.{◌≡◌, refl, sym, ap, ◌∙◌, subst}
use mathlib.Core.Logic.{◌⊎◌, inl, inr}
use mathlib.Core.List.Memᴰ
use mathlib.Core.List.Memᴰ.{head as here}
use mathlib.Core.List.Memᴰ.{tail as there}
use mathlib.Core.List.{List, [], ◌∷◌, ◌++◌, Memᴰ as Mem}
use mathlib.Core.Bool.{Bool, true, false, not, ◌||◌}
use Prim.Native.Nat.{ℕ, zero, suc, ◌+◌, ◌<◌, ◌≤◌}
use native.Mathlib.Omega.{arith}
use lib.Dec.{eqb, leb, T, T_not, not_T, eqb_refl, eqb→eq}
use Rattle.definition.specs.Basics.{filter, bit, count}
use Rattle.definition.specs.Sheet.{Sheet, kind, rows, is, a, kids}
use Rattle.definition.specs.Outside.{Outside}
use Rattle.definition.specs.Walk.{Event, visit, before, after, after_part, parts, each, trace}
use Rattle.definition.specs.Scope.{Stack, Moment, step, run, moments, history, start, visited}
use Rattle.definition.specs.Bounds.{own}
use Rattle.definition.proofs.Lists.Tests.{decide, if_false, bit_not, kind_apart}
use Rattle.definition.proofs.Lists.Members.{count_append, count_mem}
use Rattle.definition.proofs.Walk.Moments.{moments_append}
use Rattle.definition.proofs.Walk.Fits.{Fits}
use Rattle.definition.proofs.Walk.Rows.{Reached, reached_root, reached_part, kind_not_zero, deep_same}
use Rattle.definition.proofs.Walk.Walked.{found}
use Rattle.definition.proofs.Walk.Whole.{statement_walked}
use Rattle.definition.proofs.Walk.Once.{OnlyVisits, visit_own}

-- call c, its member callee e, the identifier r that is its base
pub record Callee (s : Sheet) (c e r : ℕ) : Type 0 where
  pub call : T (is s 59 c)
  pub member : T (is s 54 e)
  pub base : T (is s 50 r)
  pub range : r < rows s
  pub later : List ℕ
  pub kids_call : kids s c ≡ e ∷ later
  pub kids_member : kids s e ≡ r ∷ []
  pub kids_base : kids s r ≡ []

moments_mem : (s : Sheet) (z : Stack) (es : List Event) (m : Moment) → Mem m (moments s z es) → Mem m.event es
moments_mem s z [] m q = absurd (Memᴰ.not-nil q)
moments_mem s z (e ∷ es) m (here q) = here (ap (λ (x : Moment). x.event) q)
moments_mem s z (e ∷ es) m (there q) = there (moments_mem s (step s z e) es m q)

abbrev of : ℕ → Event → Bool
of c e = eqb (visited e) c

-- wherever c is visited, r is visited too, with the same open scopes
Follows : Sheet → ℕ → ℕ → List Event → Type 0
Follows s c r es = (z : Stack) (m : Moment) → Mem m (moments s z es) → m.event ≡ visit c → Mem (record { event = visit r; stack = m.stack }) (moments s z es)

follows_none : (s : Sheet) (c r : ℕ) (es : List Event) → count (of c) es ≡ 0 → Follows s c r es
unfolding Follows
follows_none s c r es h z m q e =
    absurd (omega (arith, h, count_mem (of c) m.event es (subst (λ (x : Event). T (eqb (visited x) c)) (sym e) (eqb_refl c)) (moments_mem s z es m q)))

follows_append : (s : Sheet) (c r : ℕ) (xs ys : List Event) → Follows s c r xs → Follows s c r ys → Follows s c r (xs ++ ys)
unfolding Follows
follows_append s c r xs ys f g z m q e =
    subst (λ (l : List Moment). Mem (record { event = visit r; stack = m.stack }) l) (sym (moments_append s z xs ys))
    (go (Memᴰ.append_cases (moments s z xs) (subst (λ (l : List Moment). Mem m l) (moments_append s z xs ys) q)))
  where
    go : Mem m (moments s z xs) ⊎ Mem m (moments s (run s z xs) ys) → Mem (record { event = visit r; stack = m.stack }) (moments s z xs ++ moments s (run s z xs) ys)
    go (inl k) = Memᴰ.append_left (moments s (run s z xs) ys) (f z m k e)
    go (inr k) = Memᴰ.append_right (moments s z xs) (g (run s z xs) m k e)

follows_two : (s : Sheet) (c r : ℕ) → Follows s c r (visit r ∷ visit c ∷ [])
unfolding Follows
follows_two s c r z m (here q) e = here (ap (λ (x : Moment). record { event = visit r; stack = x.stack }) q)
follows_two s c r z m (there (here q)) e = here (ap (λ (x : Moment). record { event = visit r; stack = x.stack }) q)
follows_two s c r z m (there (there q)) e = absurd (Memᴰ.not-nil q)

follows_each : (s : Sheet) (c r : ℕ) (go : ℕ → List Event) (x i : ℕ) (ks : List ℕ)
    → count (of c) (each (λ k. []) s x i ks) ≡ 0 → ((k : ℕ) → Mem k ks → Follows s c r (go k))
    → Follows s c r (each go s x i ks)
follows_each s c r go x i [] h f = follows_none s c r [] refl
follows_each s c r go x i (k ∷ ks) h f =
    let e : count (of c) (after_part s x i) + count (of c) (each (λ k. []) s x (suc i) ks) ≡ 0 = sym (count_append (of c) (after_part s x i) (each (λ k. []) s x (suc i) ks)) ∙ h in
    follows_append s c r (go k ++ after_part s x i) (each go s x (suc i) ks)
    (follows_append s c r (go k) (after_part s x i) (f k (here refl)) (follows_none s c r (after_part s x i) (omega arith)))
    (follows_each s c r go x (suc i) ks (omega arith) (λ j m. f j (there m)))

only_of : (c : ℕ) → (c ≡ 0 → ⊥) → OnlyVisits (of c)
only_of c z =
    let h : T (not (eqb 0 c)) = not_T (eqb 0 c) (λ t. z (sym (eqb→eq 0 c t))) in
    record { enters = λ r. h; leaves = h; loops = h; declares = λ r. h; brings = λ r n d. h }

-- parts by children
parts_kids : (s : Sheet) (x : ℕ) → T (not (is s 30 x)) → parts s x ≡ filter (λ k. is s 2 k || is s 6 k || leb 20 (kind s k)) (kids s x)
parts_kids s x h = ap (λ (p : ℕ). filter (λ k. is s 2 k || is s 6 k || leb 20 (kind s k)) (kids s p)) (if_false (is s 30 x) (a s x) x h)

module _ {O : Outside} {s : Sheet} (ok : Fits O s) (c e r : ℕ) (y : Callee s c e r) where
  kc : kind s c ≡ 59
  kc = eqb→eq (kind s c) 59 y.call

  ke : kind s e ≡ 54
  ke = eqb→eq (kind s e) 54 y.member

  kr : kind s r ≡ 50
  kr = eqb→eq (kind s r) 50 y.base

  before_c : before s c ≡ []
  before_c = rw kc

  after_c : after s c ≡ []
  after_c = rw kc

  part_c : after_part s c 0 ≡ visit c ∷ []
  part_c = rw kc

  before_e : before s e ≡ []
  before_e = rw ke

  after_e : after s e ≡ []
  after_e = rw ke

  part_e : after_part s e 0 ≡ []
  part_e = rw ke

  before_r : before s r ≡ []
  before_r = rw kr

  after_r : after s r ≡ visit r ∷ []
  after_r = rw kr

  parts_c : parts s c ≡ e ∷ filter (λ k. is s 2 k || is s 6 k || leb 20 (kind s k)) y.later
  parts_c =
      parts_kids s c (not_T (is s 30 c) (kind_apart (kind s c) 59 30 tt y.call))
      ∙ ap (filter (λ k. is s 2 k || is s 6 k || leb 20 (kind s k))) y.kids_call ∙ rw ke

  parts_e : parts s e ≡ r ∷ []
  parts_e =
      parts_kids s e (not_T (is s 30 e) (kind_apart (kind s e) 54 30 tt y.member))
      ∙ ap (filter (λ k. is s 2 k || is s 6 k || leb 20 (kind s k))) y.kids_member ∙ rw kr

  parts_r : parts s r ≡ []
  parts_r =
      parts_kids s r (not_T (is s 30 r) (kind_apart (kind s r) 50 30 tt y.base))
      ∙ ap (filter (λ k. is s 2 k || is s 6 k || leb 20 (kind s k))) y.kids_base

  trace_r : (d : ℕ) → trace (suc d) s r ≡ visit r ∷ []
  trace_r d = rw (before_r, parts_r, after_r)

  trace_e : (d : ℕ) → trace (suc (suc d)) s e ≡ visit r ∷ []
  trace_e d =
      ap (λ (l : List Event). (l ++ each (trace (suc d) s) s e 0 (parts s e)) ++ after s e) before_e
      ∙ ap (λ (l : List Event). each (trace (suc d) s) s e 0 (parts s e) ++ l) after_e
      ∙ ap (λ (ks : List ℕ). each (trace (suc d) s) s e 0 ks ++ []) parts_e
      ∙ ap (λ (l : List Event). (((trace (suc d) s r) ++ l) ++ []) ++ []) part_e
      ∙ ap (λ (l : List Event). ((l ++ []) ++ []) ++ []) (trace_r d)

  zc : c ≡ 0 → ⊥
  zc = kind_not_zero ok 59 c tt y.call

  split_own : (x : ℕ) → count (of c) (own s x) ≡ count (of c) (before s x) + count (of c) (each (λ k. []) s x 0 (parts s x)) + count (of c) (after s x)
  split_own x =
      omega (arith, count_append (of c) (before s x ++ each (λ k. []) s x 0 (parts s x)) (after s x), count_append (of c) (before s x) (each (λ k. []) s x 0 (parts s x)))

  follows_other : (d x : ℕ) → (x ≡ c → ⊥) → ((k : ℕ) → Mem k (parts s x) → Follows s c r (trace d s k)) → Follows s c r (trace (suc d) s x)
  follows_other d x h f =
      let o : count (of c) (own s x) ≡ 0 = omega (arith, visit_own s (of c) (only_of c zc) x, bit_not (eqb x c) (λ t. h (eqb→eq x c t))) in
      let w = split_own x in
      follows_append s c r (before s x ++ each (trace d s) s x 0 (parts s x)) (after s x)
      (follows_append s c r (before s x) (each (trace d s) s x 0 (parts s x)) (follows_none s c r (before s x) (omega arith)) (follows_each s c r (trace d s) x 0 (parts s x) (omega arith) f))
      (follows_none s c r (after s x) (omega arith))

  on : (t : Bool) → T t → bit t ≡ 1
  on true h = refl
  on false h = absurd h

  rest_c : List ℕ
  rest_c = filter (λ k. is s 2 k || is s 6 k || leb 20 (kind s k)) y.later

  parts_of : parts s c ≡ e ∷ rest_c
  unfolding rest_c
  parts_of = parts_c

  later_none : count (of c) (each (λ k. []) s c 1 rest_c) ≡ 0
  later_none =
      let p0 : count (of c) (each (λ k. []) s c 0 (parts s c)) ≡ count (of c) (each (λ k. []) s c 0 (e ∷ rest_c)) = ap (λ (ks : List ℕ). count (of c) (each (λ k. []) s c 0 ks)) parts_of in
      let p1 : count (of c) (each (λ k. []) s c 0 (e ∷ rest_c))
      ≡ count (of c) (after_part s c 0) + count (of c) (each (λ k. []) s c 1 rest_c) =
      count_append (of c) (after_part s c 0) (each (λ k. []) s c 1 rest_c) in
      let p2 : count (of c) (after_part s c 0) ≡ count (of c) (visit c ∷ []) = ap (count (of c)) part_c in
      omega (arith, p0, p1, p2, on (eqb c c) (eqb_refl c), split_own c, visit_own s (of c) (only_of c zc) c)

  trace_c : (d : ℕ) → trace (suc (suc (suc d))) s c ≡ ((visit r ∷ visit c ∷ []) ++ each (trace (suc (suc d)) s) s c 1 rest_c) ++ []
  trace_c d =
      ap (λ (l : List Event). (l ++ each (trace (suc (suc d)) s) s c 0 (parts s c)) ++ after s c) before_c
      ∙ ap (λ (l : List Event). each (trace (suc (suc d)) s) s c 0 (parts s c) ++ l) after_c
      ∙ ap (λ (ks : List ℕ). each (trace (suc (suc d)) s) s c 0 ks ++ []) parts_of
      ∙ ap (λ (l : List Event). ((trace (suc (suc d)) s e ++ l) ++ each (trace (suc (suc d)) s) s c 1 rest_c) ++ []) part_c
      ∙ ap (λ (l : List Event). ((l ++ (visit c ∷ [])) ++ each (trace (suc (suc d)) s) s c 1 rest_c) ++ []) (trace_e d)

  follows_call : (d : ℕ) → 2 ≤ d → ((k : ℕ) → Mem k (parts s c) → Follows s c r (trace d s k)) → Follows s c r (trace (suc d) s c)
  follows_call zero h f = absurd (omega arith)
  follows_call (suc zero) h f = absurd (omega arith)
  follows_call (suc (suc d)) h f =
      subst (λ (l : List Event). Follows s c r l) (sym (trace_c d))
      (follows_append s c r ((visit r ∷ visit c ∷ []) ++ each (trace (suc (suc d)) s) s c 1 rest_c) []
      (follows_append s c r (visit r ∷ visit c ∷ []) (each (trace (suc (suc d)) s) s c 1 rest_c) (follows_two s c r)
      (follows_each s c r (trace (suc (suc d)) s) c 1 rest_c later_none (λ k m. f k (subst (λ (ks : List ℕ). Mem k ks) (sym parts_of) (there m)))))
      (follows_none s c r [] refl))

  -- the base of the callee is two deeper, and there
  room_below : (k d : ℕ) → Reached s k c → k + suc d ≡ rows s → 2 ≤ d
  room_below k d w h =
      let we : Reached s (suc k) e = reached_part ok e w (subst (λ (ks : List ℕ). Mem e ks) (sym parts_of) (here refl)) in
      let wr : Reached s (suc (suc k)) r = reached_part ok r we (subst (λ (ks : List ℕ). Mem r ks) (sym parts_e) (here refl)) in
      let f = found ok (rows s) 0 r (reached_root ok) (statement_walked ok 50 r y.range tt y.base) in
      let q : f.by + 0 ≡ suc (suc k) = deep_same f.reached.deep wr.deep in
      omega (arith, q, f.short)

  follows_trace : (d k x : ℕ) → Reached s k x → k + d ≡ rows s → Follows s c r (trace d s x)
  follows_trace zero k x w h = follows_none s c r [] refl
  follows_trace (suc d) k x w h = go (decide (eqb x c)) (λ j m. follows_trace d (suc k) j (reached_part ok j w m) (omega arith))
    where
      go : T (eqb x c) ⊎ T (not (eqb x c)) → ((j : ℕ) → Mem j (parts s x) → Follows s c r (trace d s j)) → Follows s c r (trace (suc d) s x)
      go (inl t) f =
          let q : c ≡ x = sym (eqb→eq x c t) in
          subst (λ (v : ℕ). Follows s c r (trace (suc d) s v)) q
          (follows_call d (room_below k d (subst (λ (v : ℕ). Reached s k v) (sym q) w) h) (subst (λ (v : ℕ). (j : ℕ) → Mem j (parts s v) → Follows s c r (trace d s j)) (sym q) f))
      go (inr t) f = follows_other d x (λ q. T_not (eqb x c) t (subst (λ (v : ℕ). T (eqb x v)) q (eqb_refl x))) f

  pub base_visited : (m : Moment) → Mem m (history O s) → m.event ≡ visit c → Mem (record { event = visit r; stack = m.stack }) (history O s)
  unfolding Follows
  base_visited m q h = follows_trace (rows s) 0 0 (reached_root ok) (omega arith) (start O) m q h

  -- the call is visited
  pub own_visit : Mem (visit c) (own s c)
  own_visit =
      let p : each (λ k. []) s c 0 (parts s c) ≡ (visit c ∷ []) ++ each (λ k. []) s c 1 rest_c =
      ap (λ (ks : List ℕ). each (λ k. []) s c 0 ks) parts_of ∙ ap (λ (l : List Event). l ++ each (λ k. []) s c 1 rest_c) part_c in
      Memᴰ.append_left (after s c) (Memᴰ.append_right (before s c) (subst (λ (l : List Event). Mem (visit c) l) (sym p) (here refl)))
