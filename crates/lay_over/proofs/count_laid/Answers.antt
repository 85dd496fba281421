use native.Mathlib.Omega.{arith}
use Rattle.lay_over.proofs.LaidLaws.{counting_start, counting_more, counting_end}
use Rattle.lay_over.proofs.count_laid.Goals as goal

pub loop-i-init : goal.loop-i-init
loop-i-init c = counting_start

pub overflow_add-count : goal.overflow_add-count
overflow_add-count c =
    omega (arith, (counting_more c.loop-i.invariant c.loop-i-test.true c.count_left-count.ensures).near, c.loop-i-test.true)

pub loop-i-preserved : goal.loop-i-preserved
loop-i-preserved c =
    counting_more c.loop-i.invariant c.loop-i-test.true c.count_left-count.ensures

pub returns : goal.returns
returns c =
    counting_end c.loop-i.invariant c.loop-i-test.false
