-- `read_line` meets its contract. The loop's invariant: the columns passed are numbers, and the row has them. Assumes nothing.
use mathlib.Core.Path.{sym}
use mathlib.Core.Bool.{true≢false}
use native.Mathlib.Omega.{arith}
use Rattle.text.proofs.Reading.{column_number, column_bad, column_good, column_read, line_end, row_end}
use Rattle.text.proofs.read_line.Goals as goal

pub returns-in_default : goal.returns-in_default
returns-in_default c =
    (sym (column_bad c.args.line.now c.loop-c.c (column_number c.args.line.now _ _ c.in_default.ensures) (omega arith)), λ f. absurd (true≢false (sym f)))

pub loop-c-preserved : goal.loop-c-preserved
loop-c-preserved c =
    let e = column_number c.args.line.now c.loop-c.c _ c.in-Some.ensures in (
      column_good c.args.line.now _ _ e c.loop-c.invariant.0,
      column_read c.args.line.now _ _ e _ (omega arith) c.loop-c.invariant.1,
    )

pub returns : goal.returns
returns c =
    let v = c.loop-c.invariant in (
      line_end c.args.line.now _ (omega arith) (omega arith) v.0,
      λ e. row_end c.args.line.now _ _ (omega arith) (omega arith) (omega arith) v.1,
    )
