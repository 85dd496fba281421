use borrow.Author.Tests.{ne_eqb, eq-eqb}
use Rattle.std.proofs.Common.{◌≡◌, true, ℕ, ◌+◌, ◌*◌, [], ◌∷◌, List, refl, sym, ap, ◌∙◌, rules}
use mathlib.Core.Bool.{◌||◌}
use lib.Dec.{eqb}
use Rattle.machine.specs.Machine.{Scopes, function_marks, add_capture, has_key, list_at, open_functions}
use Rattle.machine.proofs.CodeSteps.{capture_none, capture_ends, capture_goes}
use Rattle.store.specs.Stored.{node_of}
use Rattle.walk.specs.WalkState.{stored_of}
use Rattle.idents.proofs.capture.Goals.{then-mark-x-via-then-mark-x, then-mark-x-via-else-mark-x+then-has_captured}
use Rattle.idents.proofs.capture.Goals as goal

pub loop-mark-preserved : goal.loop-mark-preserved
loop-mark-preserved c =
    let a = c.args.walk.now in
    let l = c.loop-mark.walk in
    let x = node_of (record { key = c.row_of.result; one = c.owner_of.result.0; two = c.slot_of.result }) in
    let at = function_marks a.sheet.now a.entries.now in
    let marks : at c.loop-mark.count ≡ c.in-Some.mark.fun ∷ at c.in-Some.mark.at
    = rw (← c.loop-mark.invariant.2.sheet, ← ap (λ (p : Scopes). p.env) c.loop-mark.invariant.1) c.in-Some.ensures.marks in (
      ap (add_capture (at c.in-Some.mark.at) x) c.append_capture.ensures.step
          ∙ sym (capture_goes x (stored_of l) c.in-Some.mark.fun (at c.in-Some.mark.at) (rw (ne_eqb _ _ c.if-mark-x.false) (sym c.has_captured.ensures ∙ c.if-has_captured.false)))
          ∙ sym (ap (λ (fs : List ℕ). add_capture fs x (stored_of l)) marks) ∙ c.loop-mark.invariant.0,
      c.append_capture.ensures.scopes ∙ c.loop-mark.invariant.1,
      search rules,
    )

pub returns-then-mark-x-clause-step : goal.returns-then-mark-x-clause-step
unfolding open_functions
returns-then-mark-x-clause-step c =
    let a = c.args.walk.now in
    let l = c.loop-mark.walk in
    let x = node_of (record { key = c.row_of.result; one = c.owner_of.result.0; two = c.slot_of.result }) in
    let at = function_marks a.sheet.now a.entries.now in
    let marks : at c.loop-mark.count ≡ c.in-Some.mark.fun ∷ at c.in-Some.mark.at
    = rw (← c.loop-mark.invariant.2.sheet, ← ap (λ (p : Scopes). p.env) c.loop-mark.invariant.1) c.in-Some.ensures.marks in
    let has : (eqb c.in-Some.mark.fun x.one || has_key x.key (list_at (stored_of l) (8 * c.in-Some.mark.fun + 6))) ≡ true
    = elim c.then-mark-x.branch [
      | then-mark-x-via-then-mark-x w ↦ rw (eq-eqb _ _ w.if-mark-x.true) refl
      | then-mark-x-via-else-mark-x+then-has_captured w ↦ rw (ne_eqb _ _ w.if-mark-x.false) (sym w.has_captured.ensures ∙ w.if-has_captured.true)
    ] in
    rw (sym c.is_outer.ensures ∙ c.if-not-is_outer.false, ← c.row_of.ensures, ← c.owner_of.ensures, ← c.slot_of.ensures)
    (sym (capture_ends x (stored_of l) c.in-Some.mark.fun (at c.in-Some.mark.at) has) ∙ sym (ap (λ (fs : List ℕ). add_capture fs x (stored_of l)) marks) ∙ c.loop-mark.invariant.0)

pub returns-clause-step : goal.returns-clause-step
unfolding open_functions
returns-clause-step c =
    let a = c.args.walk.now in
    let l = c.loop-mark.walk in
    let x = node_of (record { key = c.row_of.result; one = c.owner_of.result.0; two = c.slot_of.result }) in
    let at = function_marks a.sheet.now a.entries.now in
    let marks : at c.loop-mark.count ≡ [] = rw (← c.loop-mark.invariant.2.sheet, ← ap (λ (p : Scopes). p.env) c.loop-mark.invariant.1) c.in_default.ensures.marks in
    rw (sym c.is_outer.ensures ∙ c.if-not-is_outer.false, ← c.row_of.ensures, ← c.owner_of.ensures, ← c.slot_of.ensures)
    (sym (capture_none x (stored_of l)) ∙ sym (ap (λ (fs : List ℕ). add_capture fs x (stored_of l)) marks) ∙ c.loop-mark.invariant.0)
