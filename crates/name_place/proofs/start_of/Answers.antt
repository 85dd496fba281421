-- `start_of` meets its contract. Invariant: the bytes passed and those before the names left are all. Assumes nothing.
use Rattle.std.proofs.Common.{arith}
use Rattle.name_place.proofs.PlaceLaws.{seeking_start, seeking_more, seeking_found, seeking_end}
use Rattle.name_place.proofs.start_of.Goals as goal

pub loop-at-init : goal.loop-at-init
loop-at-init c = seeking_start _ _

pub returns-then-left-eq0 : goal.returns-then-left-eq0
returns-then-left-eq0 c = seeking_found c.loop-at.invariant c.if-left-eq0.true

pub loop-at-preserved : goal.loop-at-preserved
loop-at-preserved c = seeking_more c.loop-at.invariant (omega arith) c.if-left-eq0.false c.left_after-left.ensures

pub returns : goal.returns
returns c = omega (arith, seeking_end c.loop-at.invariant (omega arith))
