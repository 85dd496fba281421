-- `write_fitted` meets its contract. The loop's invariant: the words passed are written. Assumes nothing.
use mathlib.Core.Path.{refl}
use native.Mathlib.Omega.{arith}
use lib.ListN.{length-set}
use Rattle.report.proofs.FitLaws.{fit_more, fit_all}
use Rattle.report.proofs.write_fitted.Goals as goal

pub loop-i-init : goal.loop-i-init
loop-i-init c = (omega arith, refl, refl)

pub loop-i-preserved : goal.loop-i-preserved
loop-i-preserved c = (
  omega arith,
  simp length-set c.loop-i.invariant.1,
  fit_more c.args.words.now c.args.lent.now c.loop-i.lent c.loop-i.i c.word_at.result c.loop-i.invariant.2 c.word_at.ensures
      (omega arith),
)

pub returns : goal.returns
returns c =
    fit_all c.args.words.now c.args.lent.now c.loop-i.lent c.loop-i.i c.loop-i.invariant.2 (omega arith)
