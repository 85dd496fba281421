use Rattle.distinct.proofs.ApartLaws.{all_refused, all_next, all_done, all_start}
use native.Mathlib.Omega.{arith}
use mathlib.Core.Path.{refl, sym, ◌∙◌}
use Rattle.distinct.proofs.all_apart.Goals as goal

pub loop-row-init : goal.loop-row-init
loop-row-init c = (omega arith, refl, all_start _ _ _)

pub shape_of-marks-then-not-row_apart : goal.shape_of-marks-then-not-row_apart
shape_of-marks-then-not-row_apart c =
    c.row_apart.auto.marks ∙ c.loop-row.invariant.1

pub returns-then-not-row_apart : goal.returns-then-not-row_apart
returns-then-not-row_apart c =
    all_refused _ _ _ _ c.loop-row-test.true c.row_apart.ensures.value c.if-not-row_apart.true
    c.loop-row.invariant.2

pub loop-row-preserved : goal.loop-row-preserved
loop-row-preserved c = (
  omega arith,
  c.row_apart.auto.marks ∙ c.loop-row.invariant.1,
  all_next _ _ _ _ c.loop-row-test.true c.row_apart.ensures.value c.if-not-row_apart.false
      c.row_apart.ensures.marks_after c.loop-row.invariant.2,
)

pub shape_of-marks : goal.shape_of-marks
shape_of-marks c = c.loop-row.invariant.1

pub returns : goal.returns
returns c = sym (all_done _ _ _ _ c.loop-row-test.false) ∙ c.loop-row.invariant.2
