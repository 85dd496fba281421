use native.Mathlib.Omega.{arith}
use Rattle.walk_space.proofs.SpaceLaws.{nodes_more, nodes_all}
use Rattle.walk_space.proofs.nodes_for.Goals as goal

pub loop-row-preserved : goal.loop-row-preserved
loop-row-preserved c =
    (omega arith, omega (arith, c.nodes_of-need.ensures.1), nodes_more c.args.sheet.now c.loop-row.row c.loop-row.invariant.2 c.nodes_of-need.ensures.0)

pub returns : goal.returns
returns c = nodes_all c.args.sheet.now c.loop-row.row c.loop-row.invariant.2 (omega arith)
