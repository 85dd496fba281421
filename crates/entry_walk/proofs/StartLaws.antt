-- The walk of an entry as the program makes it: the scopes opened one by one, then the parts of the body.
use mathlib.Core.Path.{◌≡◌, sym, ap, ◌∙◌, subst}
use mathlib.Core.List.{List, ◌++◌}
use Prim.Native.Nat.{ℕ, ◌-◌, ◌≤◌}
use native.Mathlib.Omega.{arith}
use Rattle.definition.specs.Basics.{head}
use Rattle.definition.specs.Sheet.{Sheet, child, rows, kids_of}
use Rattle.definition.specs.Outside.{Outside}
use Rattle.definition.specs.Walk.{before, parts, each, trace}
use Rattle.definition.specs.Question.{none}
use Rattle.definition.specs.Format.{sheet_fits}
use Rattle.definition.proofs.Lists.Tests.{true_of}
use Rattle.definition.proofs.Format.Accepted.{some_row}
use Rattle.definition.proofs.Format.Facts.{facts}
use Rattle.machine.specs.Machine.{State, Scopes, open_names, no_scopes, start_state, run_state}
use Rattle.walk.proofs.RunLaws.{run_both, run_idle}
use Rattle.row_events.specs.Prepared.{Ready}
use Rattle.resolve_syms.specs.Walked.{parts_walked}
use Rattle.entry_walk.specs.Laid.{OneUnit, BodyWalked}
use Rattle.session.proofs.UnitRows.{UnitRows, unit_rows}
use Rattle.session.proofs.UnitEvents.{body_events}
use Rattle.entry_walk.proofs.LaidLaws.{body_walked}

-- after a refusal the parts change nothing
pub parts_idle : (O : Outside) (d : ℕ) (s : Sheet) (r : ℕ) {x y : State} → (y.refusal.number ≡ 0 → ⊥) → y ≡ x → y ≡ parts_walked O d s r x
unfolding parts_walked
parts_idle O d s r {x} {y} f h = run_idle O s (each (trace d s) s r 0 (parts s r)) y f ∙ ap (parts_walked O d s r) h

module _ {O : Outside} {s : Sheet} {cs v t q : List ℕ} (ready : Ready O s cs v t q) (one : OneUnit s)
    {u f b : ℕ} (eu : u ≡ child s 0) (ef : f ≡ head (kids_of s 6 u)) (eb : b ≡ child s f) where
  there : UnitRows s u f b
  there =
      let r = unit_rows ready.past.names s (facts ready.past.names s (true_of (sheet_fits ready.past.names s) ready.past.fitting))
      (some_row s ready.past.whole) one.one one.alone in
      let ok = r.3 in
      let e₁ : r.0 ≡ u = ok.unit_is ∙ sym eu in
      let e₂ : r.1 ≡ f = ok.function_is ∙ ap (λ (k : ℕ). head (kids_of s 6 k)) e₁ ∙ sym ef in
      let e₃ : r.2 ≡ b = ok.body_is ∙ ap (child s) e₂ ∙ sym eb in
      subst (λ (k : ℕ). UnitRows s u f k) e₃ (subst (λ (k : ℕ). UnitRows s u k r.2) e₂ (subst (λ (k : ℕ). UnitRows s k r.1 r.2) e₁ ok))

  pub four_rows : 4 ≤ rows s
  four_rows = omega (arith, there.rising.0, there.rising.1, there.rising.2, there.rising.3)

  -- from the outermost scope and a clear table
  pub entry_walked : {p : Scopes} {y z : State} → p ≡ open_names s O.names (no_scopes s v)
      → y ≡ run_state O s (before s u ++ before s f ++ before s b) (record { scopes = p; store = record { used = 0; calls = 0; table = t; nodes = q }; refusal = none })
      → z ≡ parts_walked O (rows s - 4) s b y → BodyWalked O s z
  unfolding parts_walked start_state
  entry_walked {p} {y} {z} e h g =
      subst (BodyWalked O s) (sym run) (body_walked ready one there)
    where
      run : z ≡ run_state O s (body_events (rows s - 4) s u f b) (start_state O s v t q)
      run =
          run_both O s (before s u ++ before s f ++ before s b) (each (trace (rows s - 4) s) s b 0 (parts s b)) _ h g
          ∙ ap (λ (c : Scopes). run_state O s (body_events (rows s - 4) s u f b) (record { scopes = c; store = record { used = 0; calls = 0; table = t; nodes = q }; refusal = none })) e
