use native.Mathlib.Omega.{arith}
use Rattle.lay_over.proofs.LaidLaws.{laying_start, laying_more, laying_near, laying_end}
use Rattle.lay_over.proofs.append_laid.Goals as goal

pub loop-i-init : goal.loop-i-init
loop-i-init c = laying_start

pub put_left-p-requires : goal.put_left-p-requires
put_left-p-requires c =
    omega (arith, laying_near c.loop-i.invariant c.loop-i-test.true, c.requires)

pub overflow_add-p : goal.overflow_add-p
overflow_add-p c =
    omega (
      arith,
      (laying_more c.loop-i.invariant c.loop-i-test.true c.put_left-p.ensures.0 c.put_left-p.ensures.1).near,
      laying_near c.loop-i.invariant c.loop-i-test.true,
      c.loop-i.invariant.further,
      c.loop-i-test.true,
      c.requires,
    )

pub loop-i-preserved : goal.loop-i-preserved
loop-i-preserved c =
    laying_more c.loop-i.invariant c.loop-i-test.true c.put_left-p.ensures.0 c.put_left-p.ensures.1

pub shape_of-words : goal.shape_of-words
shape_of-words c =
    omega (arith, c.loop-i.invariant.long)

pub returns : goal.returns
returns c =
    laying_end c.loop-i.invariant c.loop-i-test.false
