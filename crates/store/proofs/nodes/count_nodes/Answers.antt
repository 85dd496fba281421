use native.Mathlib.Omega.{arith}
use Rattle.store.proofs.ListLaws.{length_back, length_none}
use Rattle.store.proofs.nodes.count_nodes.Goals as goal

pub loop-i-init : goal.loop-i-init
loop-i-init c = (omega arith, omega arith)

pub overflow_sub-i : goal.overflow_sub-i
overflow_sub-i c = omega arith

pub overflow_add-n : goal.overflow_add-n
overflow_add-n c = omega (arith, c.loop-i-test.true, c.loop-i.invariant.0)

pub loop-i-smaller : goal.loop-i-smaller
loop-i-smaller c = omega (arith, c.node_before-i.ensures, c.loop-i-test.true)

pub loop-i-preserved : goal.loop-i-preserved
loop-i-preserved c = (
  omega (arith, c.node_before-i.ensures, c.loop-i-test.true, c.loop-i.invariant.0),
  omega (
    arith,
    length_back c.args.nodes.now c.loop-i.i c.loop-i-test.true c.node_before-i.ensures,
    c.loop-i.invariant.1,
  ),
)

pub returns : goal.returns
returns c =
    omega (
      arith,
      length_none c.args.nodes.now c.loop-i.i c.loop-i-test.false,
      c.loop-i.invariant.1,
    )
