use Rattle.store.proofs.StoreLaws.{call_full, call_more}
use Rattle.store.specs.Stored.{node_of}
use Rattle.store.proofs.nodes.append_call.Goals as goal

pub returns-then-used-store : goal.returns-then-used-store
returns-then-used-store c =
    λ t. call_full (node_of c.args.n) c.args.store.used c.args.store.calls _
    c.args.nodes.now _ c.push_node-used.ensures.0 t c.push_node-used.ensures.1 c.if-used-store.true

pub returns : goal.returns
returns c =
    λ t. call_more (node_of c.args.n) c.args.store.used c.args.store.calls _
    c.args.nodes.now _ c.push_node-used.ensures.0 t c.push_node-used.ensures.1 c.if-used-store.false
