use Prim.Native.Nat.{◌<◌, ◌≤◌}
use native.Mathlib.Omega.{arith}
use Rattle.definition.specs.Sheet.{rows as rows_of}
use Rattle.import_circle.proofs.RankLaws.{lowest_start, lowest_here, lowest_more, lowest_none}
use Rattle.import_circle.proofs.lowest_by.Goals as goal

pub loop-u-init : goal.loop-u-init
loop-u-init c = (omega arith, lowest_start c.args.sheet.now)

pub circles_at-requires : goal.circles_at-requires
circles_at-requires c = (c.requires, omega arith, c.ranks_fall-fall.ensures)

pub returns-then-circles_at : goal.returns-then-circles_at
returns-then-circles_at c =
    let below : c.loop-u.u < rows_of c.args.sheet.now = omega arith in
    lowest_here c.args.sheet.now c.loop-u.u below c.circles_at.ensures c.if-circles_at.true c.loop-u.invariant.1

pub loop-u-preserved : goal.loop-u-preserved
loop-u-preserved c =
    let below : c.loop-u.u < rows_of c.args.sheet.now = omega arith in
    (omega arith, lowest_more c.args.sheet.now c.loop-u.u below c.circles_at.ensures c.if-circles_at.false c.loop-u.invariant.1)

pub returns : goal.returns
returns c =
    let all : rows_of c.args.sheet.now ≤ c.loop-u.u = omega arith in
    lowest_none c.args.sheet.now c.loop-u.u _ all c.loop-u.invariant.1
