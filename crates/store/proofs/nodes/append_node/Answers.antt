use Prim.Native.Nat.{◌+◌, ◌*◌}
use Rattle.store.proofs.StoreLaws.{append_full, append_more}
use Rattle.store.specs.Stored.{node_of}
use Rattle.store.proofs.nodes.append_node.Goals as goal

pub returns-then-used-store : goal.returns-then-used-store
returns-then-used-store c =
    append_full (node_of c.args.n) c.args.store.used c.args.store.calls _
    c.args.nodes.now _ c.push_node-used.ensures.0 c.args.results.now
    (8 * c.args.row + c.args.c) _ c.push_node-used.ensures.1 c.if-used-store.true

pub returns : goal.returns
returns c =
    append_more (node_of c.args.n) c.args.store.used c.args.store.calls _
    c.args.nodes.now _ c.push_node-used.ensures.0 c.args.results.now _
    (8 * c.args.row + c.args.c) _ c.word-last.ensures c.push_node-used.ensures.1 c.if-used-store.false
    c.put.ensures
