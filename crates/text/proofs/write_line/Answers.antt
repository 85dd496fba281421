-- `write_line` meets its contract. The loop's invariant: the columns passed are those of the row. Assumes nothing.
use Prim.Native.Nat.{◌+◌, ◌≤◌, ◌*◌}
use native.Mathlib.Omega.{arith}
use lib.ListN.{length}
use Rattle.text.proofs.Writing.{number_written, line_written}
use Rattle.text.proofs.write_line.Goals as goal

pub loop-c-preserved : goal.loop-c-preserved
loop-c-preserved c =
    let k = c.loop-c.c in
    let g : 10 * k + 10 ≤ length c.loop-c.line = omega (arith, c.loop-c.auto.line) in
    number_written c.args.row.now _ _ _ c.loop-c-test.true g c.loop-c.invariant c.write_number.ensures

pub returns : goal.returns
returns c = line_written _ _ c.loop-c.c (omega arith) (omega arith) c.requires.0 (omega arith) c.loop-c.invariant
