use mathlib.Core.List.{[]}
use mathlib.Core.Path.{refl, ◌∙◌}
use native.Mathlib.Omega.{arith}
use Rattle.unit_order.specs.Order.{imports_of}
use Rattle.import_circle.proofs.SearchLaws.{searching_start, next_unit, next_found, back_met, back_end}
use Rattle.import_circle.proofs.FoundLaws.{holds_few}
use Rattle.import_circle.specs.Search.{added}
use Rattle.import_circle.proofs.comes_back.Goals as goal

pub add_imports-count-requires : goal.add_imports-count-requires
add_imports-count-requires c =
    (c.requires.0, c.requires.1, c.requires.2, c.requires.3)

pub loop-passed-init : goal.loop-passed-init
loop-passed-init c =
    ((added [] (imports_of c.args.sheet.now c.args.u), c.add_imports-count.ensures [] c.requires.4, searching_start c.args.sheet.now c.args.u, omega arith), refl, refl)

pub shape_of-marks-then-entry_at-ne0 : goal.shape_of-marks-then-entry_at-ne0
shape_of-marks-then-entry_at-ne0 c =
    c.loop-passed.invariant.1 ∙ c.add_imports-count.auto.marks

pub shape_of-queue-then-entry_at-ne0 : goal.shape_of-queue-then-entry_at-ne0
shape_of-queue-then-entry_at-ne0 c =
    c.loop-passed.invariant.2 ∙ c.add_imports-count.auto.queue

pub returns-then-entry_at-ne0 : goal.returns-then-entry_at-ne0
returns-then-entry_at-ne0 c =
    let i = c.loop-passed.invariant.0 in
    back_met c.args.sheet.now c.requires.0 c.args.u c.loop-passed.passed i.0 i.2 c.requires.1 c.loop-passed.marks i.1.marks c.entry_at.ensures c.if-entry_at-ne0.true

pub add_imports-count-requires-in-loop-passed : goal.add_imports-count-requires-in-loop-passed
add_imports-count-requires-in-loop-passed c =
    let i = c.loop-passed.invariant.0 in (
      c.requires.0,
      next_unit c.args.sheet.now c.requires.0 c.args.u c.loop-passed.marks c.loop-passed.queue c.loop-passed.count c.loop-passed.passed i.0 i.1 i.2 c.loop-passed-test.true
          c.entry_at-v.result c.entry_at-v.ensures c.requires.1,
      omega (arith, c.loop-passed.invariant.1, c.add_imports-count.auto.marks, c.requires.2),
      omega (arith, c.loop-passed.invariant.1, c.add_imports-count.auto.marks, c.requires.3),
    )

pub overflow_add-passed : goal.overflow_add-passed
overflow_add-passed c =
    let few = holds_few c.loop-passed.marks c.loop-passed.queue c.loop-passed.count c.loop-passed.invariant.0.0 c.loop-passed.invariant.0.1 in
    omega (arith, c.loop-passed-test.true, few, c.loop-passed.invariant.1, c.add_imports-count.auto.marks, c.requires.3)

pub loop-passed-smaller : goal.loop-passed-smaller
loop-passed-smaller c =
    let few = holds_few c.loop-passed.marks c.loop-passed.queue c.loop-passed.count c.loop-passed.invariant.0.0 c.loop-passed.invariant.0.1 in
    omega (arith, c.loop-passed-test.true, few, c.loop-passed.invariant.1)

pub loop-passed-preserved : goal.loop-passed-preserved
loop-passed-preserved c =
    let i = c.loop-passed.invariant.0 in (
      next_found c.args.sheet.now c.requires.0 c.args.u c.loop-passed.marks c.loop-passed.queue c.loop-passed.count c.loop-passed.passed i.0 i.1 i.2 c.loop-passed-test.true
          c.entry_at-v.result c.entry_at-v.ensures (c.add_imports-count-in-loop-passed.ensures i.0 i.1),
      c.add_imports-count-in-loop-passed.auto.marks ∙ c.loop-passed.invariant.1,
      c.add_imports-count-in-loop-passed.auto.queue ∙ c.loop-passed.invariant.2,
    )

pub shape_of-marks : goal.shape_of-marks
shape_of-marks c =
    c.loop-passed.invariant.1 ∙ c.add_imports-count.auto.marks

pub shape_of-queue : goal.shape_of-queue
shape_of-queue c =
    c.loop-passed.invariant.2 ∙ c.add_imports-count.auto.queue

pub returns : goal.returns
returns c =
    let i = c.loop-passed.invariant.0 in
    back_end c.args.sheet.now c.requires.0 c.args.u c.loop-passed.passed i.0 i.2 (omega (arith, c.loop-passed-test.false, i.1.count)) c.requires.1 c.loop-passed.marks i.1.marks
    c.entry_at-2.ensures
