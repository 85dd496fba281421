use Prim.Native.Nat.{◌<◌, ◌≤◌}
use native.Mathlib.Omega.{arith}
use Rattle.definition.specs.Sheet.{rows as rows_of}
use Rattle.order_units.proofs.AskedLaws.{left_here, left_more, left_none}
use Rattle.order_units.proofs.some_left.Goals as goal

pub loop-u-init : goal.loop-u-init
loop-u-init c = (omega arith, λ u l. absurd (omega arith))

pub returns-then-is_left : goal.returns-then-is_left
returns-then-is_left c =
    let below : c.loop-u.u < rows_of c.args.sheet.now = omega arith in
    left_here c.args.sheet.now c.args.marks.now c.loop-u.u below c.is_left.ensures c.if-is_left.true

pub loop-u-preserved : goal.loop-u-preserved
loop-u-preserved c =
    (omega arith, left_more c.args.sheet.now c.args.marks.now c.loop-u.u c.loop-u.invariant.1 c.is_left.ensures c.if-is_left.false)

pub returns : goal.returns
returns c =
    let all : rows_of c.args.sheet.now ≤ c.loop-u.u = omega arith in
    left_none c.args.sheet.now c.args.marks.now c.loop-u.u c.loop-u.invariant.1 all
