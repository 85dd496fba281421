use native.Mathlib.Omega.{arith}
use mathlib.Core.List.{◌∷◌}
use Rattle.sink.specs.Written.{written}
use Rattle.machine.specs.Reads.{meaning_of_node}
use Rattle.machine.specs.Machine.{code_of}
use Rattle.definition.specs.Answer.{eight}
use Rattle.fun_rows.proofs.ListLaws.{captured_row_lem, nodes_none, nodes_last}
use Rattle.fun_rows.proofs.+emit_captured.Goals as goal

pub returns-clause-step : goal.returns-clause-step
returns-clause-step t c =
    nodes_last (λ y. eight (c.args.row ∷ code_of c.args.tables.now.sheet.now (meaning_of_node y) y.two 0))
    c.args.tables.now.nodes.now c.args.p _ _ (written c.args.out.now) c.if-p-eq0.false
    c.node_before.ensures c.emit_captured.ensures.step (captured_row_lem c.args.tables.now.sheet.now c.args.row
    c.args.tables.now.nodes.now _ _ _ c.captured_at.ensures (c.code_of-x.ensures 0 0))
    c.emit_decl.ensures.step
