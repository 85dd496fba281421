use Prim.Native.Nat.{◌+◌, ◌*◌}
use Rattle.store.proofs.StoreLaws.{add_there, add_absent}
use Rattle.store.specs.Stored.{store_of, node_of}
use mathlib.Core.Path.{sym, ◌∙◌}
use Rattle.store.proofs.nodes.add_new.Goals as goal

pub returns-then-has_key : goal.returns-then-has_key
returns-then-has_key c =
    add_there (8 * c.args.row + c.args.c) (node_of c.args.n)
    (store_of c.args.store c.args.results.now c.args.nodes.now) _
    c.word-last.ensures (sym c.if-has_key.true ∙ c.has_key.ensures)

pub returns : goal.returns
returns c =
    add_absent (8 * c.args.row + c.args.c) (node_of c.args.n)
    (store_of c.args.store c.args.results.now c.args.nodes.now) _ c.word-last.ensures
    (sym c.if-has_key.false ∙ c.has_key.ensures) c.append_node.ensures
