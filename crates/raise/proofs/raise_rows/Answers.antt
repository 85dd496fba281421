use native.Mathlib.Omega.{arith}
use lib.ListN.{length-take, length-drop}
use Rattle.definition.specs.Answer.{raised_row}
use Rattle.raise.proofs.RowLaws.{next_fits, one_done, raised_all}
use Rattle.raise.proofs.raise_rows.Goals as goal

pub raise_row-requires : goal.raise_row-requires
raise_row-requires c =
    (c.requires.0, simp (length-take, length-drop) (omega (arith, c.loop-r.invariant.same_length)), next_fits (raised_row c.args.base) c.loop-r.invariant c.loop-r-test.true)

pub loop-r-preserved : goal.loop-r-preserved
loop-r-preserved c =
    one_done (raised_row c.args.base) c.loop-r.invariant c.loop-r-test.true c.requires.1 c.out-1.given.1 c.raise_row.ensures

pub returns : goal.returns
returns c =
    raised_all c.args.base c.if-base-eq0.false c.loop-r.invariant c.loop-r-test.false
