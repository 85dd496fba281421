use mathlib.Core.Path.{refl, sym, ◌∙◌}
use native.Mathlib.Omega.{arith}
use Rattle.store.proofs.ListLaws.{key_here, key_other, key_none}
use Rattle.store.proofs.nodes.has_key.Goals as goal

pub loop-i-init : goal.loop-i-init
loop-i-init c = (omega arith, refl)

pub overflow_sub-i : goal.overflow_sub-i
overflow_sub-i c = omega arith

pub returns-then-node_word-k : goal.returns-then-node_word-k
returns-then-node_word-k c =
    key_here c.args.nodes.now c.args.k c.loop-i.i c.loop-i-test.true
    (sym c.node_word.ensures ∙ c.if-node_word-k.true)
    ∙ c.loop-i.invariant.1

pub loop-i-smaller : goal.loop-i-smaller
loop-i-smaller c = omega (arith, c.node_before-i.ensures, c.loop-i-test.true)

pub loop-i-preserved : goal.loop-i-preserved
loop-i-preserved c = (
  omega (arith, c.node_before-i.ensures, c.loop-i.invariant.0),
  key_other c.args.nodes.now c.args.k c.loop-i.i c.loop-i-test.true
      (λ e. c.if-node_word-k.false (c.node_word.ensures ∙ e)) c.node_before-i.ensures
      ∙ c.loop-i.invariant.1,
)

pub returns : goal.returns
returns c =
    key_none c.args.nodes.now c.args.k c.loop-i.i c.loop-i-test.false
    ∙ c.loop-i.invariant.1
