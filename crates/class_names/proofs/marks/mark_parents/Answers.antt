use Rattle.std.proofs.Common.{arith}
use Rattle.class_names.proofs.MarkLaws.{marked_next, marked_end}
use Rattle.class_names.proofs.marks.mark_parents.Goals as goal

pub loop-row-preserved : goal.loop-row-preserved
loop-row-preserved c =
    marked_next c.args.sheet.now c.args.results.now c.loop-row.subclassed c.loop-row.row c.loop-row-test.true
    (omega (arith, c.requires.1, c.loop-row.auto.subclassed)) c.mark_parent.ensures c.loop-row.invariant

pub returns : goal.returns
returns c =
    marked_end c.args.sheet.now c.args.results.now c.loop-row.subclassed c.loop-row.row c.loop-row-test.false
    (omega (arith, c.requires.1, c.loop-row.auto.subclassed)) c.loop-row.invariant
