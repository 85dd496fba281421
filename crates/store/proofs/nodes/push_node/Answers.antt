use native.Mathlib.Omega.{arith}
use lib.ListN.{length-set}
use Rattle.store.proofs.StoreLaws.{pushed_used, pushed_nodes, full_used, full_nodes}
use mathlib.Core.List.{[], ◌∷◌}
use Rattle.store.proofs.nodes.push_node.Goals as goal

pub bounds-nodes-i-then-used-lt4294967295 : goal.bounds-nodes-i-then-used-lt4294967295
bounds-nodes-i-then-used-lt4294967295 c = simp (length-set) (omega arith)

pub bounds-nodes-i-then-used-lt4294967295-2 : goal.bounds-nodes-i-then-used-lt4294967295-2
bounds-nodes-i-then-used-lt4294967295-2 c = simp (length-set) (omega arith)

pub bounds-nodes-i-then-used-lt4294967295-3 : goal.bounds-nodes-i-then-used-lt4294967295-3
bounds-nodes-i-then-used-lt4294967295-3 c = simp (length-set) (omega arith)

pub returns-then-used-lt4294967295 : goal.returns-then-used-lt4294967295
returns-then-used-lt4294967295 c = (
  pushed_used c.args.nodes.now c.args.used (omega (arith, c.if-i-nodes.true, c.if-used-lt4294967295.true)),
  pushed_nodes c.args.nodes.now c.args.used c.args.before c.args.n.key
      c.args.n.one c.args.n.two (omega (arith, c.if-i-nodes.true, c.if-used-lt4294967295.true)),
)

pub returns-else-used-lt4294967295 : goal.returns-else-used-lt4294967295
returns-else-used-lt4294967295 c = (
  full_used c.args.nodes.now c.args.used (omega (arith, c.if-used-lt4294967295.false)),
  full_nodes c.args.nodes.now c.args.used
      (c.args.before ∷ c.args.n.key ∷ c.args.n.one ∷ c.args.n.two ∷ [])
      (omega (arith, c.if-used-lt4294967295.false)),
)

pub returns-else-i-nodes : goal.returns-else-i-nodes
returns-else-i-nodes c = (
  full_used c.args.nodes.now c.args.used (omega (arith, c.if-i-nodes.false)),
  full_nodes c.args.nodes.now c.args.used
      (c.args.before ∷ c.args.n.key ∷ c.args.n.one ∷ c.args.n.two ∷ [])
      (omega (arith, c.if-i-nodes.false)),
)
