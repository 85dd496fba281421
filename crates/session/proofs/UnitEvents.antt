-- The events of a sheet of one unit: three scopes open, the body's parts are walked, and the three close.
use mathlib.Core.Path.{◌≡◌, sym, ap, ◌∙◌}
use mathlib.Core.List.{List, [], ◌∷◌, ◌++◌, append-nil, append_assoc}
use Prim.Native.Nat.{ℕ, suc, ◌-◌}
use native.Mathlib.Omega.{arith}
use Rattle.definition.specs.Sheet.{Sheet, kind, rows}
use Rattle.definition.specs.Walk.{Event, leave, before, after, after_part, parts, each, trace, walk}
use Rattle.session.proofs.UnitRows.{UnitRows}

-- the events up to the end of body b of function f of unit u; d bounds the depth
abbrev pub body_events : ℕ → Sheet → ℕ → ℕ → ℕ → List Event
body_events d s u f b = before s u ++ before s f ++ before s b ++ each (trace d s) s b 0 (parts s b)

-- a row whose only part is k
trace_one : (d : ℕ) (s : Sheet) (r k : ℕ) → parts s r ≡ k ∷ [] → after_part s r 0 ≡ [] → trace (suc d) s r ≡ before s r ++ trace d s k ++ after s r
trace_one d s r k e n =
    ap (λ (l : List ℕ). before s r ++ each (trace d s) s r 0 l ++ after s r) e
    ∙ ap (λ (l : List Event). before s r ++ l ++ after s r) (append-nil (trace d s k ++ after_part s r 0) ∙ ap (λ (l : List Event). trace d s k ++ l) n ∙ append-nil (trace d s k))

module _ (s : Sheet) (u f b : ℕ) (ok : UnitRows s u f b) (header : kind s 0 ≡ 0) where
  header_part : after_part s 0 0 ≡ []
  header_part = rw header

  unit_part : after_part s u 0 ≡ []
  unit_part = rw ok.unit_kind

  function_part : after_part s f 0 ≡ []
  function_part = rw ok.function_kind

  closes_unit : after s u ≡ leave ∷ []
  closes_unit = rw ok.unit_kind

  closes_function : after s f ≡ leave ∷ []
  closes_function = rw ok.function_kind

  closes_body : after s b ≡ leave ∷ []
  closes_body = rw ok.body_kind

  walk_deep : (d : ℕ) → trace (suc (suc (suc (suc d)))) s 0 ≡ body_events d s u f b ++ (leave ∷ leave ∷ leave ∷ [])
  walk_deep d =
      trace_one (suc (suc (suc d))) s 0 u ok.in_header header_part
      ∙ ap (λ (l : List Event). l ++ trace (suc (suc (suc d))) s u ++ after s 0) (no_before_lem s header)
      ∙ ap (λ (l : List Event). trace (suc (suc (suc d))) s u ++ l) (no_after s header) ∙ append-nil (trace (suc (suc (suc d))) s u)
      ∙ trace_one (suc (suc d)) s u f ok.in_unit unit_part
      ∙ ap (λ (l : List Event). before s u ++ l ++ after s u) (trace_one (suc d) s f b ok.in_function function_part)
      ∙ ap (λ (l : List Event). before s u ++ (before s f ++ (before s b ++ inside ++ after s b) ++ after s f) ++ l) closes_unit
      ∙ ap (λ (l : List Event). before s u ++ (before s f ++ (before s b ++ inside ++ after s b) ++ l) ++ (leave ∷ [])) closes_function
      ∙ ap (λ (l : List Event). before s u ++ (before s f ++ (before s b ++ inside ++ l) ++ (leave ∷ [])) ++ (leave ∷ [])) closes_body
      ∙ joined (before s u) (before s f) (before s b) inside (leave ∷ []) (leave ∷ []) (leave ∷ [])
    where
      inside : List Event
      inside = each (trace d s) s b 0 (parts s b)

      no_before_lem : (s : Sheet) → kind s 0 ≡ 0 → before s 0 ≡ []
      no_before_lem s e = rw e

      no_after : (s : Sheet) → kind s 0 ≡ 0 → after s 0 ≡ []
      no_after s e = rw e

      -- the closings come together at the end
      joined : (p q r m x y w : List Event) → p ++ (q ++ (r ++ m ++ x) ++ y) ++ w ≡ (p ++ q ++ r ++ m) ++ (x ++ (y ++ w))
      joined p q r m x y w =
          append_assoc p (q ++ (r ++ m ++ x) ++ y) w
          ∙ ap (λ (l : List Event). p ++ l)
          (append_assoc (q ++ (r ++ m ++ x)) y w ∙ append_assoc q (r ++ m ++ x) (y ++ w)
          ∙ ap (λ (l : List Event). q ++ l) (append_assoc (r ++ m) x (y ++ w)))
          ∙ sym (append_assoc (p ++ q ++ r) m (x ++ (y ++ w)) ∙ append_assoc (p ++ q) r (m ++ (x ++ (y ++ w))) ∙ append_assoc p q (r ++ (m ++ (x ++ (y ++ w))))
          ∙ ap (λ (l : List Event). p ++ (q ++ l)) (sym (append_assoc r m (x ++ (y ++ w)))))

  -- the whole walk
  pub walk_is : walk s ≡ body_events (rows s - 4) s u f b ++ (leave ∷ leave ∷ leave ∷ [])
  walk_is = ap (λ (n : ℕ). trace n s 0) four ∙ walk_deep (rows s - 4)
    where
      four : rows s ≡ suc (suc (suc (suc (rows s - 4))))
      four = omega (arith, ok.rising.0, ok.rising.1, ok.rising.2, ok.rising.3)
