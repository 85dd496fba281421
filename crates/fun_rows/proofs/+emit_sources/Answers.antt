use native.Mathlib.Omega.{arith}
use mathlib.Core.List.{◌∷◌}
use Rattle.sink.specs.Written.{written}
use Rattle.store.specs.Stored.{store_of}
use Rattle.machine.specs.Reads.{meaning_of_node}
use Rattle.machine.specs.Machine.{seen_in}
use Rattle.definition.specs.Answer.{eight}
use Rattle.fun_rows.proofs.ListLaws.{source_row, nodes_none, nodes_last}
use Rattle.fun_rows.proofs.+emit_sources.Goals as goal

pub returns-clause-step : goal.returns-clause-step
returns-clause-step t c =
    λ o. nodes_last
    (λ y. eight (c.args.row
    ∷ seen_in c.args.tables.now.sheet.now (meaning_of_node y) y.two 0 c.args.fun.0
    (store_of o c.args.tables.now.results.now c.args.tables.now.nodes.now)))
    c.args.tables.now.nodes.now c.args.p _ _ (written c.args.out.now) c.if-p-eq0.false
    c.node_before.ensures (c.emit_sources.ensures.step o) (source_row c.args.tables.now.sheet.now c.args.row c.args.tables.now.nodes.now _ _ _ c.captured_at.ensures
    c.args.fun.0 (store_of o c.args.tables.now.results.now c.args.tables.now.nodes.now) (c.seen_in-x.ensures o 0 0))
    c.emit_decl.ensures.step
