use Rattle.sink.specs.Written.{written}
use Rattle.store.specs.Stored.{store_of}
use Rattle.fun_rows.proofs.ListLaws.{literal_rows_lem}
use Rattle.fun_rows.proofs.emit_literal.Goals as goal

pub returns-clause-step : goal.returns-clause-step
returns-clause-step c =
    λ o. literal_rows_lem c.args.tables.sheet.now (store_of o c.args.tables.results.now c.args.tables.nodes.now)
    c.args.row _ _ _ (written c.args.out.now) c.word.ensures c.word-2.ensures
    c.word-last.ensures (c.emit_sources.ensures.step o)
