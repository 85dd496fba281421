use Rattle.row_fits.proofs.Laws.{rows_start, noted_start}
use lib.Dec.{T}
use mathlib.Core.Path.{subst}
use Rattle.row_fits.proofs.Laws.{rows_refused, rows_next, noted_next, rows_done, noted_done}
use native.Mathlib.Omega.{arith}
use mathlib.Core.Path.{refl, sym, ◌∙◌}
use Rattle.passes.proofs.fill.Goals as goal

pub loop-r-init : goal.loop-r-init
loop-r-init c = (omega arith, refl, rows_start _ _ _ _, noted_start _ _ _)

pub shape_of-table-then-not-pass_row : goal.shape_of-table-then-not-pass_row
shape_of-table-then-not-pass_row c = c.pass_row.auto.table ∙ c.loop-r.invariant.1

pub returns-then-not-pass_row : goal.returns-then-not-pass_row
returns-then-not-pass_row c =
    record {
      value = rows_refused _ _ _ _ _ c.loop-r-test.true c.pass_row.ensures.value
          c.if-not-pass_row.true c.loop-r.invariant.2;
      table_after = λ e. absurd (subst T (sym e) tt);
    }

pub loop-r-preserved : goal.loop-r-preserved
loop-r-preserved c = (
  omega arith,
  c.pass_row.auto.table ∙ c.loop-r.invariant.1,
  rows_next _ _ _ _ _ c.loop-r-test.true c.pass_row.ensures.value c.if-not-pass_row.false
      (c.pass_row.ensures.table_after c.if-not-pass_row.false) c.loop-r.invariant.2,
  noted_next _ _ _ _ c.loop-r-test.true (c.pass_row.ensures.table_after c.if-not-pass_row.false) c.loop-r.invariant.3,
)

pub shape_of-table : goal.shape_of-table
shape_of-table c = c.loop-r.invariant.1

pub returns : goal.returns
returns c = record { value = sym (rows_done _ _ _ _ _ c.loop-r-test.false) ∙ c.loop-r.invariant.2; table_after = λ e. sym (noted_done _ _ _ _ c.loop-r-test.false) ∙ c.loop-r.invariant.3 }
