use Rattle.symbols.proofs.EnvLaws.{tag_at, find_here, find_mark, find_other, find_none, marks_function, marks_scope, marks_other, marks_none, marks_found}
use native.Mathlib.Omega.{arith}
use lib.ListN.{length}
use Prim.Native.Nat.{ℕ, ◌+◌, ◌-◌}
use borrow.Author.Tests.{eqb-true, eqb-false}
use Rattle.machine.specs.Machine.{find_name, function_marks}
use mathlib.Core.Path.{◌≡◌, sym, ap, ◌∙◌}
use Rattle.symbols.proofs.env.find_name.Goals.{else-name-m-via-then-name-m+else-tag-gt-SCOPE, else-name-m-via-else-name-m}
use Rattle.symbols.proofs.env.find_name.Goals as goal

pub overflow_mul-w : goal.overflow_mul-w
overflow_mul-w c = omega (arith, c.requires, c.loop-at.invariant.2)

pub offset_bounds-entries-w : goal.offset_bounds-entries-w
offset_bounds-entries-w c = omega (arith, c.requires, c.loop-at.invariant.2)

pub bounds-entries-w : goal.bounds-entries-w
bounds-entries-w c =
    omega (arith, c.requires, c.loop-at.invariant.2, c.loop-at-test.true)

pub overflow_add-name : goal.overflow_add-name
overflow_add-name c = omega (arith, c.requires, c.loop-at.invariant.2)

pub offset_bounds-entries-w-in-loop-at : goal.offset_bounds-entries-w-in-loop-at
offset_bounds-entries-w-in-loop-at c = omega (arith, c.requires, c.loop-at.invariant.2)

pub bounds-entries-w-in-loop-at : goal.bounds-entries-w-in-loop-at
bounds-entries-w-in-loop-at c =
    omega (arith, c.requires, c.loop-at.invariant.2, c.loop-at-test.true)

pub overflow_add-marks : goal.overflow_add-marks
overflow_add-marks c =
    omega (arith, c.loop-at.invariant.2, c.loop-at-test.true)

pub returns-then-tag-gt-SCOPE : goal.returns-then-tag-gt-SCOPE
returns-then-tag-gt-SCOPE c =
    let l = c.loop-at-test.true in
    let place : c.loop-at.at - 1 + 1 ≡ c.loop-at.at = omega arith in
    let here = find_here c.args.entries.now c.args.m c.loop-at.at l (omega (arith, tag_at c.args.entries.now (c.loop-at.at - 1), c.if-tag-gt-SCOPE.true)) c.if-name-m.true ∙ c.loop-at.invariant.0 in
    (place ∙ here, marks_found c.args.sheet.now c.args.entries.now c.args.m c.args.n c.loop-at.at c.loop-at.marks here c.loop-at.invariant.1)

pub loop-at-preserved-then-is_kind : goal.loop-at-preserved-then-is_kind
loop-at-preserved-then-is_kind c =
    let l = c.loop-at-test.true in
    let tag = sym (tag_at c.args.entries.now (c.loop-at.at - 1)) ∙ c.if-tag-eq-SCOPE.true in
    let kind = eqb-true _ 6 (sym c.is_kind.ensures ∙ c.if-is_kind.true) in (
      find_mark c.args.entries.now c.args.m c.loop-at.at l (omega (arith, tag)) ∙ c.loop-at.invariant.0,
      omega (arith, c.loop-at.invariant.1, ap length (marks_function c.args.sheet.now c.args.entries.now c.loop-at.at l tag kind)),
      omega (arith, c.loop-at.invariant.2, l),
    )

pub loop-at-preserved-else-is_kind : goal.loop-at-preserved-else-is_kind
loop-at-preserved-else-is_kind c =
    let l = c.loop-at-test.true in
    let tag = sym (tag_at c.args.entries.now (c.loop-at.at - 1)) ∙ c.if-tag-eq-SCOPE.true in
    let same = marks_scope c.args.sheet.now c.args.entries.now c.loop-at.at l tag (eqb-false _ 6 (sym c.is_kind.ensures ∙ c.if-is_kind.false)) in (
      find_mark c.args.entries.now c.args.m c.loop-at.at l (omega (arith, tag)) ∙ c.loop-at.invariant.0,
      omega (arith, c.loop-at.invariant.1, ap length same),
      omega (arith, c.loop-at.invariant.2),
    )

pub loop-at-preserved : goal.loop-at-preserved
loop-at-preserved c =
    let l = c.loop-at-test.true in
    let v = c.args.entries.now in
    let same = marks_other c.args.sheet.now v c.loop-at.at l (λ e. c.if-tag-eq-SCOPE.false (tag_at v (c.loop-at.at - 1) ∙ e)) in
    let passed : find_name v c.args.m (c.loop-at.at - 1) ≡ find_name v c.args.m c.loop-at.at = elim c.else-name-m.branch [
      | else-name-m-via-then-name-m+else-tag-gt-SCOPE w ↦ find_mark v c.args.m c.loop-at.at l (omega (arith, tag_at v (c.loop-at.at - 1), w.if-tag-gt-SCOPE.false))
      | else-name-m-via-else-name-m w ↦ find_other v c.args.m c.loop-at.at l w.if-name-m.false
    ] in
    (passed ∙ c.loop-at.invariant.0, omega (arith, c.loop-at.invariant.1, ap length same), omega (arith, c.loop-at.invariant.2))

pub returns : goal.returns
returns c =
    let none = find_none c.args.entries.now c.args.m c.loop-at.at c.loop-at-test.false ∙ c.loop-at.invariant.0 in (
      none,
      marks_found c.args.sheet.now c.args.entries.now c.args.m c.args.n 0 c.loop-at.marks none
          (omega (arith, c.loop-at.invariant.1, ap length (marks_none c.args.sheet.now c.args.entries.now c.loop-at.at c.loop-at-test.false))),
    )
