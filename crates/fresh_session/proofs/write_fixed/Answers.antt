use Rattle.std.proofs.Common.{arith}
use Rattle.fresh_session.proofs.FreshLaws.{writing_start, writing_more, writing_end}
use Rattle.fresh_session.proofs.write_fixed.Goals as goal

pub loop-i-init : goal.loop-i-init
loop-i-init c = writing_start _

pub loop-i-preserved : goal.loop-i-preserved
loop-i-preserved c = writing_more c.loop-i.invariant (omega (arith, c.loop-i.invariant.long)) c.fixed_byte.ensures

pub returns : goal.returns
returns c = writing_end c.loop-i.invariant (omega (arith, c.loop-i.invariant.long))
