-- The stack when the body of an entry ends, and what its scopes hold when they close.
use mathlib.Core.Path.{◌≡◌, refl, sym, ap, ◌∙◌, subst}
use mathlib.Core.List.{List, [], ◌∷◌, ◌++◌, map, append-nil, append_assoc}
use mathlib.Core.Bool.{Bool, ◌&&◌}
use Prim.Native.Nat.{ℕ, ◌-◌}
use native.Mathlib.Omega.{arith}
use lib.Dec.{eqb}
use borrow.Author.Tests.{eq-eqb, ne_eqb}
use Rattle.definition.specs.Basics.{filter, final, concat_map}
use Rattle.definition.specs.Sheet.{Sheet, kind, rows, kids, kids_of}
use Rattle.definition.specs.Meaning.{Named, named}
use Rattle.definition.specs.Outside.{Outside}
use Rattle.definition.specs.Walk.{Event, enter, leave, declare, imports, literal_let, before, parts, each, trace}
use Rattle.definition.specs.Scope.{Stack, scope, looping, bound, Moment, start, closed, run, moments, history}
use Rattle.definition.proofs.Lists.Members.{filter_append}
use Rattle.definition.proofs.Walk.Moments.{run_append, moments_append}
use Rattle.definition.proofs.Walk.Balance.{Grown, grown_trans, closed_grown, flat_declares, flat_imports, flat_append, run_flat, Keeps, keeps_each, keeps_trace}
use Rattle.session.specs.Enter.{scope_names, scope_row, is_leave, scope_of}
use Rattle.session.proofs.UnitRows.{UnitRows}
use Rattle.session.proofs.UnitEvents.{body_events, walk_is}

-- all names declared on a stack, in the order of declaration
abbrev pub declared_on : Stack → List Named
declared_on [] = []
declared_on (scope r ∷ st) = declared_on st
declared_on (looping ∷ st) = declared_on st
declared_on (bound n d ∷ st) = declared_on st ++ named n d ∷ []

-- a scope with names and loops added to it: its row, and the names
pub grown_row : (r : ℕ) (st : Stack) {st' : Stack} → Grown (scope r ∷ st) st' → scope_row st' ≡ r
grown_row r st Grown.same = refl
grown_row r st (Grown.named g) = grown_row r st g
grown_row r st (Grown.looped g) = grown_row r st g

grown_names : (r : ℕ) (st : Stack) {st' : Stack} → Grown (scope r ∷ st) st' → declared_on st' ≡ declared_on st ++ scope_names st'
grown_names r st Grown.same = sym (append-nil (declared_on st))
grown_names r st (Grown.named {st'} {n} {d} g) =
    ap (λ (l : List Named). l ++ named n d ∷ []) (grown_names r st g) ∙ append_assoc (declared_on st) (scope_names st') (named n d ∷ [])
grown_names r st (Grown.looped g) = grown_names r st g

-- The stack z at the end of the body: `outer` is the stack with the unit's scope.
pub record BodyStack (O : Outside) (u f b : ℕ) (z : Stack) : Type 0 where
  pub outer : Stack
  pub opened : Grown (scope u ∷ start O) outer
  pub inner : Grown (scope b ∷ scope f ∷ outer) z

module _ (O : Outside) (s : Sheet) (u f b : ℕ) (ok : UnitRows s u f b) where
  opens_unit : before s u ≡ enter u ∷ concat_map (imports s u) (kids_of s 3 u) ++ map declare (kids_of s 4 u)
  opens_unit = rw ok.unit_kind

  opens_function : before s f ≡ enter f ∷ []
  opens_function = rw ok.function_kind (ap (λ (l : List ℕ). enter f ∷ map declare l) ok.no_parameters)

  opens_body : before s b ≡ enter b ∷ map declare (filter (literal_let s) (kids s b))
  opens_body = rw ok.body_kind

  pub body_stack : (d : ℕ) → BodyStack O u f b (run s (start O) (body_events d s u f b))
  unfolding Keeps
  body_stack d =
      record {
        outer = outer;
        opened = subst (λ (es : List Event). Grown (scope u ∷ start O) (run s (start O) es)) (sym opens_unit)
            (run_flat s (scope u ∷ start O) (flat_append (flat_imports s u (kids_of s 3 u)) (flat_declares (kids_of s 4 u))));
        inner = subst (Grown (scope b ∷ scope f ∷ outer)) (sym parts_run)
            (grown_trans (run_flat s (scope b ∷ scope f ∷ outer) (flat_declares (filter (literal_let s) (kids s b))))
            (keeps_each s (trace d s) b 0 (parts s b) (keeps_trace d s) (run s (scope b ∷ scope f ∷ outer) (map declare (filter (literal_let s) (kids s b))))));
      }
    where
      outer : Stack
      outer = run s (start O) (before s u)

      inside : List Event
      inside = each (trace d s) s b 0 (parts s b)

      parts_run : run s (start O) (body_events d s u f b) ≡ run s (run s (scope b ∷ scope f ∷ outer) (map declare (filter (literal_let s) (kids s b)))) inside
      parts_run =
          run_append s (start O) (before s u ++ before s f ++ before s b) inside
          ∙ ap (λ (st : Stack). run s st inside)
          (run_append s (start O) (before s u ++ before s f) (before s b) ∙ ap (λ (st : Stack). run s st (before s b)) (run_append s (start O) (before s u) (before s f))
          ∙ ap (λ (es : List Event). run s (run s outer es) (before s b)) opens_function ∙ ap (run s (scope f ∷ outer)) opens_body)

-- the last element of a list that ends in x
final_last : {A : Type 0} (xs : List A) (x : A) → final (xs ++ x ∷ []) ≡ x ∷ []
final_last [] x = refl
final_last (y ∷ []) x = refl
final_last (y ∷ z ∷ zs) x = final_last (z ∷ zs) x

-- What is laid over: the names declared since the walk began, the unit's and then the body's.
module _ (O : Outside) (s : Sheet) (u f b : ℕ) (ok : UnitRows s u f b) (header : kind s 0 ≡ 0) where
  abbrev pub z : Stack
  z = run s (start O) (body_events (rows s - 4) s u f b)

  abbrev pub stack : BodyStack O u f b z
  stack = body_stack O s u f b ok (rows s - 4)

  abbrev pub at : Stack → Moment
  at st = record { event = leave; stack = st }

  pub history_is : history O s ≡ moments s (start O) (body_events (rows s - 4) s u f b) ++ (at z ∷ at (scope f ∷ stack.outer) ∷ at stack.outer ∷ [])
  history_is =
      ap (moments s (start O)) (walk_is s u f b ok header) ∙ moments_append s (start O) (body_events (rows s - 4) s u f b) (leave ∷ leave ∷ leave ∷ [])
      ∙ ap (λ (st : Stack). moments s (start O) (body_events (rows s - 4) s u f b) ++ (at z ∷ at st ∷ at (closed st) ∷ [])) (closed_grown b (scope f ∷ stack.outer) stack.inner)

  abbrev closes : ℕ → Moment → Bool
  closes r m = is_leave m.event && eqb (scope_row m.stack) r

  -- the scope of row r, by which of the last moments close it
  holds : (r : ℕ) (st : Stack) → filter (closes r) (at z ∷ at (scope f ∷ stack.outer) ∷ at stack.outer ∷ []) ≡ at st ∷ [] → scope_of O s r ≡ scope_names st
  holds r st e =
      ap (λ (h : List Moment). concat_map (λ m. scope_names m.stack) (final (filter (closes r) h))) history_is
      ∙ ap (λ (h : List Moment). concat_map (λ m. scope_names m.stack) (final h))
      (filter_append (closes r) (moments s (start O) (body_events (rows s - 4) s u f b)) _
      ∙ ap (λ (h : List Moment). filter (closes r) (moments s (start O) (body_events (rows s - 4) s u f b)) ++ h) e)
      ∙ ap (concat_map (λ m. scope_names m.stack)) (final_last (filter (closes r) (moments s (start O) (body_events (rows s - 4) s u f b))) (at st))
      ∙ append-nil (scope_names st)

  row_body : scope_row z ≡ b
  row_body = grown_row b (scope f ∷ stack.outer) stack.inner

  row_unit : scope_row stack.outer ≡ u
  row_unit = grown_row u (start O) stack.opened

  pub holds_unit : scope_of O s u ≡ scope_names stack.outer
  holds_unit = holds u stack.outer (rw (row_body, row_unit, ne_eqb b u (λ e. omega (arith, ok.rising.1, ok.rising.2)), ne_eqb f u (λ e. omega (arith, ok.rising.1)), eq-eqb u u refl))

  pub holds_body : scope_of O s b ≡ scope_names z
  holds_body = holds b z (rw (row_body, row_unit, ne_eqb u b (λ e. omega (arith, ok.rising.1, ok.rising.2)), ne_eqb f b (λ e. omega (arith, ok.rising.2)), eq-eqb b b refl))

  pub declared_is : declared_on z ≡ declared_on (start O) ++ (scope_of O s u ++ scope_of O s b)
  declared_is =
      grown_names b (scope f ∷ stack.outer) stack.inner
      ∙ ap (λ (l : List Named). l ++ scope_names z) (grown_names u (start O) stack.opened)
      ∙ append_assoc (declared_on (start O)) (scope_names stack.outer) (scope_names z)
      ∙ ap (λ (l : List Named). declared_on (start O) ++ (l ++ scope_names z)) (sym holds_unit)
      ∙ ap (λ (l : List Named). declared_on (start O) ++ (scope_of O s u ++ l)) (sym holds_body)

  -- the names from outside lie at the bottom
  pub on_start : (pre : Stack) × (z ≡ pre ++ start O)
  on_start =
      let p = grown_front stack.inner in
      let q = grown_front stack.opened in (
        p.0 ++ (scope b ∷ scope f ∷ q.0) ++ (scope u ∷ []),
        p.1 ∙ ap (λ (st : Stack). p.0 ++ (scope b ∷ scope f ∷ st)) q.1
            ∙ ap (λ (st : Stack). p.0 ++ (scope b ∷ scope f ∷ st)) (sym (append_assoc q.0 (scope u ∷ []) (start O)))
            ∙ sym (append_assoc p.0 (scope b ∷ scope f ∷ q.0 ++ (scope u ∷ [])) (start O))
            ∙ ap (λ (st : Stack). st ++ start O) (sym (append_assoc p.0 (scope b ∷ scope f ∷ q.0) (scope u ∷ []))),
      )
    where
      grown_front : {st st' : Stack} → Grown st st' → (pre : Stack) × (st' ≡ pre ++ st)
      grown_front Grown.same = ([], refl)
      grown_front (Grown.named {st'} {n} {d} g) = let p = grown_front g in (bound n d ∷ p.0, ap (λ (l : Stack). bound n d ∷ l) p.1)
      grown_front (Grown.looped g) = let p = grown_front g in (looping ∷ p.0, ap (λ (l : Stack). looping ∷ l) p.1)
