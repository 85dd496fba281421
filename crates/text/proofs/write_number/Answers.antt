-- `write_number` meets its contract. The loop's invariant: from place i on the column is that of the number, whose
-- digits before it are left. Assumes nothing.
use native.Mathlib.Omega.{arith}
use Rattle.text.proofs.Writing.{digits_left, digit_written}
use Rattle.text.proofs.write_number.Goals as goal

pub loop-i-preserved : goal.loop-i-preserved
loop-i-preserved c =
    let v = c.loop-i.invariant in (
      digits_left c.args.n _ _ c.loop-i-test.true c.loop-i.auto.i v.0,
      digit_written c.args.n _ _ _ _ c.loop-i-test.true c.loop-i.auto.i (omega arith) v.0 v.1 c.place_byte.ensures,
    )
