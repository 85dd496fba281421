-- Where what is declared on a stack of the walk comes from: each name was declared at a moment on the stack that is below it.
use mathlib.Core.Path.{◌≡◌, refl, sym, ap, subst}
use mathlib.Core.Bool.{Bool, true, false, ◌&&◌}
use mathlib.Core.List.Memᴰ
use mathlib.Core.List.Memᴰ.{head as here}
use mathlib.Core.List.Memᴰ.{tail as there}
use mathlib.Core.List.{List, [], ◌∷◌, ◌++◌, map, Memᴰ as Mem}
use Prim.Native.Nat.{ℕ, zero, suc}
use lib.Dec.{eqb, T}
use Rattle.definition.specs.Basics.{when◌then◌else◌, all, filter, concat_map}
use Rattle.definition.specs.Sheet.{Sheet, a, is, child, kids, kids_of, rows}
use Rattle.definition.specs.Meaning.{Meaning, Named, named}
use Rattle.definition.specs.Outside.{Outside}
use Rattle.definition.specs.Walk.{Event, enter, leave, loop, declare, bring, visit, imports, literal_let, before, after_part, after, parts, each, trace, walk, opens_scope, is_visited}
use Rattle.definition.specs.Scope.{Stack, Moment, scope, looping, bound, closed, step, moments, history, start, inside, declared}
use Rattle.definition.proofs.Lists.Tests.{and_both}
use Rattle.definition.proofs.Lists.Members.{Every, every_none, every_one, every_append, every_mem}
use Rattle.definition.proofs.Walk.Balance.{Grown}
use Rattle.session.specs.Enter.{scope_names, scope_row}
use Rattle.session.proofs.OutsideLaws.{all_append}

-- a name on the stack st: from outside, or declared or brought at a moment of h
pub data Pushed (s : Sheet) (h : List Moment) (st : Stack) (n : ℕ) (d : Meaning) : Type 0 where
  from_outside : scope_row st ≡ 0 → Pushed s h st n d
  declared_at : (m : Moment) (r : ℕ) → Mem m h → m.stack ≡ st → m.event ≡ declare r → n ≡ a s r → d ≡ declared s r (inside s st) → Pushed s h st n d
  brought_at : (m : Moment) (r : ℕ) → Mem m h → m.event ≡ bring r n d → Pushed s h st n d

pub data Sound (s : Sheet) (h : List Moment) : Stack → Type 0 where
  bare : Sound s h []
  in_scope : {r : ℕ} {st : Stack} → Sound s h st → Sound s h (scope r ∷ st)
  in_loop_lem : {st : Stack} → Sound s h st → Sound s h (looping ∷ st)
  with_name : {n : ℕ} {d : Meaning} {st : Stack} → Pushed s h st n d → Sound s h st → Sound s h (bound n d ∷ st)

module _ (s : Sheet) (h : List Moment) where
  sound_closed : {st : Stack} → Sound s h st → Sound s h (closed st)
  sound_closed bare = bare
  sound_closed (in_scope x) = x
  sound_closed (in_loop_lem x) = sound_closed x
  sound_closed (with_name p x) = sound_closed x

  sound_step : (z : Stack) (e : Event) → Mem (record { event = e; stack = z }) h → Sound s h z → Sound s h (step s z e)
  sound_step z (enter r) m x = in_scope x
  sound_step z leave m x = sound_closed x
  sound_step z loop m x = in_loop_lem x
  sound_step z (declare r) m x = with_name (declared_at (record { event = declare r; stack = z }) r m refl refl refl refl) x
  sound_step z (bring r n d) m x = with_name (brought_at (record { event = bring r n d; stack = z }) r m refl) x
  sound_step z (visit r) m x = x

  sound_run : (z : Stack) (es : List Event) → ((m : Moment) → Mem m (moments s z es) → Mem m h) → Sound s h z → (m : Moment) → Mem m (moments s z es) → Sound s h m.stack
  sound_run z [] up x m q = absurd (Memᴰ.not-nil q)
  sound_run z (e ∷ es) up x m (here p) = subst (λ (k : Moment). Sound s h k.stack) (sym p) x
  sound_run z (e ∷ es) up x m (there q) =
      sound_run (step s z e) es (λ k l. up k (there l)) (sound_step z e (up (record { event = e; stack = z }) (here refl)) x) m q

  -- what stands outside
  rows_none : (xs : List Named) → scope_row (map (λ x. bound x.name x.means) xs) ≡ 0
  rows_none [] = refl
  rows_none (x ∷ xs) = rows_none xs

  sound_start : (xs : List Named) → Sound s h (map (λ x. bound x.name x.means) xs)
  sound_start [] = bare
  sound_start (x ∷ xs) = with_name (from_outside (rows_none xs)) (sound_start xs)

  -- the names of a scope, one by one
  pub scope_all : (p : Named → Bool) (r : ℕ) (st : Stack) → ((st₁ : Stack) → Grown (scope r ∷ st) st₁ → (n : ℕ) (d : Meaning) → Pushed s h st₁ n d → T (p (named n d)))
      → {st' : Stack} → Grown (scope r ∷ st) st' → Sound s h st' → T (all p (scope_names st'))
  scope_all p r st f Grown.same x = tt
  scope_all p r st f (Grown.named {st'} {n} {d} g) (with_name q x) =
      all_append p (scope_names st') (named n d ∷ []) (scope_all p r st f g x) (and_both (p (named n d)) true (f st' g n d q) tt)
  scope_all p r st f (Grown.looped g) (in_loop_lem x) = scope_all p r st f g x

pub sound_at : (O : Outside) (s : Sheet) (m : Moment) → Mem m (history O s) → Sound s (history O s) m.stack
sound_at O s m q = sound_run s (history O s) (start O) (walk s) (λ k l. l) (sound_start s (history O s) O.names) m q

-- an event of a moment is one of the walk
event_in : (s : Sheet) (z : Stack) (es : List Event) (m : Moment) → Mem m (moments s z es) → Mem m.event es
event_in s z [] m q = absurd (Memᴰ.not-nil q)
event_in s z (e ∷ es) m (here p) = here (ap (λ (k : Moment). k.event) p)
event_in s z (e ∷ es) m (there q) = there (event_in s (step s z e) es m q)

-- does an event bring no name?
abbrev brings_none : Event → Bool
brings_none (enter r) = true
brings_none leave = true
brings_none loop = true
brings_none (declare r) = true
brings_none (bring r n d) = false
brings_none (visit r) = true

abbrev Unbrought : Event → Type 0
Unbrought e = T (brings_none e)

choice : (t : Bool) {xs ys : List Event} → (T t → Every Unbrought xs) → Every Unbrought ys → Every Unbrought (when t then xs else ys)
choice true f g = f tt
choice false f g = g

declares : (ks : List ℕ) → Every Unbrought (map declare ks)
declares [] = every_none
declares (k ∷ ks) = every_one tt (declares ks)

-- A sheet whose units have no imports.
module _ (s : Sheet) (alone : (r : ℕ) → T (is s 2 r) → kids_of s 3 r ≡ []) where
  none_before : (r : ℕ) → Every Unbrought (before s r)
  none_before r =
      choice (is s 2 r)
      (λ t. every_one tt (subst (λ (l : List ℕ). Every Unbrought (concat_map (imports s r) l ++ map declare (kids_of s 4 r))) (sym (alone r t)) (declares (kids_of s 4 r))))
      (choice (is s 6 r) (λ t. every_one tt (declares (kids_of s 11 r)))
      (choice (is s 25 r) (λ t. every_one tt (declares (filter (literal_let s) (kids s r))))
      (choice (is s 27 r) (λ t. every_one tt every_none) (choice (is s 30 r) (λ t. every_one tt every_none) every_none))))

  none_part : (r i : ℕ) → Every Unbrought (after_part s r i)
  none_part r i = choice (is s 59 r && eqb i 0) (λ t. every_one tt every_none) (choice (is s 27 r && eqb i 1) (λ t. every_one tt every_none) every_none)

  none_after : (r : ℕ) → Every Unbrought (after s r)
  none_after r =
      choice (opens_scope s r) (λ t. every_one tt every_none)
      (choice (is s 29 r) (λ t. choice (is s 52 (child s r)) (λ u. every_none) (every_one tt every_none)) (choice (is_visited s r) (λ t. every_one tt every_none) every_none))

  none_each : (go : ℕ → List Event) → ((k : ℕ) → Every Unbrought (go k)) → (r i : ℕ) (ks : List ℕ) → Every Unbrought (each go s r i ks)
  none_each go f r i [] = every_none
  none_each go f r i (k ∷ ks) = every_append (every_append (f k) (none_part r i)) (none_each go f r (suc i) ks)

  none_trace : (d r : ℕ) → Every Unbrought (trace d s r)
  none_trace zero r = every_none
  none_trace (suc d) r = every_append (every_append (none_before r) (none_each (trace d s) (none_trace d) r 0 (parts s r))) (none_after r)

  -- no moment of the walk brings a name
  pub no_bring : (O : Outside) (m : Moment) → Mem m (history O s) → (r n : ℕ) (d : Meaning) → m.event ≡ bring r n d → ⊥
  no_bring O m q r n d e = subst Unbrought e (every_mem (none_trace (rows s) 0) (event_in s (start O) (walk s) m q))
