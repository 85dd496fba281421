use lib.ListN.{get_or-eq_default}
use mathlib.Core.Path.{sym}
use Rattle.store.proofs.nodes.node_word.Goals as goal

pub returns-else-at-nodes : goal.returns-else-at-nodes
returns-else-at-nodes c = sym (get_or-eq_default c.args.nodes.now 0 c.if-at-nodes.false)
