use mathlib.Core.Path.{sym, ◌∙◌}
use native.Mathlib.Omega.{arith}
use Rattle.store.proofs.StoreLaws.{functions_there, functions_skip, functions_end}
use Rattle.store.proofs.nodes.innermost_function.Goals as goal

pub returns-then-marks_function-clause-marks : goal.returns-then-marks_function-clause-marks
returns-then-marks_function-clause-marks c =
    c.loop-at.invariant.1
    ∙ functions_there c.args.sheet.now c.args.entries.now c.loop-at.at c.loop-at-test.true (sym c.if-marks_function.true ∙ c.marks_function.ensures) c.entry_word.ensures

pub loop-at-preserved : goal.loop-at-preserved
loop-at-preserved c = (
  omega (arith, c.loop-at.invariant.0),
  c.loop-at.invariant.1 ∙ functions_skip c.args.sheet.now c.args.entries.now c.loop-at.at c.loop-at-test.true (sym c.if-marks_function.false ∙ c.marks_function.ensures),
)

pub returns-clause-marks : goal.returns-clause-marks
returns-clause-marks c = c.loop-at.invariant.1 ∙ functions_end c.args.sheet.now c.args.entries.now c.loop-at.at c.loop-at-test.false
