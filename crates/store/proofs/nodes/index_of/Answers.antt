use mathlib.Core.Path.{refl, ◌∙◌}
use native.Mathlib.Omega.{arith}
use Rattle.machine.proofs.CodeSteps.{since_end}
use Rattle.store.proofs.ListLaws.{count_place, count_here, count_other}
use Rattle.store.proofs.nodes.index_of.Goals as goal

pub loop-i-init : goal.loop-i-init
loop-i-init c = (omega arith, refl)

pub overflow_sub-i : goal.overflow_sub-i
overflow_sub-i c = omega arith

pub loop-i-smaller-then-k-key : goal.loop-i-smaller-then-k-key
loop-i-smaller-then-k-key c = omega (arith, c.node_before-i.ensures, c.loop-i-test.true)

pub loop-i-preserved-then-k-key : goal.loop-i-preserved-then-k-key
loop-i-preserved-then-k-key c = (
  omega (arith, c.node_before-i.ensures, c.loop-i-test.true, c.loop-i.invariant.0),
  count_here c.args.nodes.now c.args.k c.loop-i.i c.loop-i.n _ c.loop-i-test.true
      c.node_word-key.ensures c.if-k-key.true c.node_before-i.ensures
      ∙ c.loop-i.invariant.1,
)

pub overflow_add-n : goal.overflow_add-n
overflow_add-n c = omega (arith, c.loop-i-test.true, c.loop-i.invariant.0)

pub loop-i-smaller : goal.loop-i-smaller
loop-i-smaller c = omega (arith, c.node_before-i.ensures, c.loop-i-test.true)

pub loop-i-preserved : goal.loop-i-preserved
loop-i-preserved c = (
  omega (arith, c.node_before-i.ensures, c.loop-i-test.true, c.loop-i.invariant.0),
  count_other c.args.nodes.now c.args.k c.loop-i.i c.loop-i.n _ c.loop-i-test.true
      c.node_word-key.ensures c.if-k-key.false c.node_before-i.ensures
      ∙ c.loop-i.invariant.1,
)

pub returns : goal.returns
returns c =
    since_end c.args.nodes.now c.loop-i.i c.args.k c.loop-i.n c.loop-i-test.false
    ∙ c.loop-i.invariant.1
    ∙ count_place c.args.nodes.now c.args.k c.args.p
