-- `write_units` meets its contract. The loop's invariant: the words passed are written as rows. Assumes nothing.
use native.Mathlib.Omega.{arith}
use lib.ListN.{length}
use Rattle.order_text.proofs.ReplyLaws.{units_none, written_more, written_all}
use Rattle.order_text.proofs.write_units.Goals as goal

pub loop-i-init : goal.loop-i-init
loop-i-init c = units_none (length c.args.report.now) c.args.report.now (omega (arith, c.requires.0)) c.requires.1

pub loop-i-preserved : goal.loop-i-preserved
loop-i-preserved c =
    written_more (length c.args.report.now) c.args.list.now c.loop-i.report c.loop-i.i c.loop-i.invariant c.loop-i-test.true c.requires.0

pub returns : goal.returns
returns c =
    written_all (length c.args.report.now) c.args.list.now c.loop-i.report c.loop-i.i c.loop-i.invariant c.loop-i.auto.i-end c.loop-i-test.false
