use Rattle.store.specs.declared.nodes.Store.{Store}
use native.Mathlib.Omega.{arith}
use mathlib.Core.Path.{refl}
use Rattle.sink.specs.Written.{written}
use Rattle.store.specs.Stored.{store_of}
use Rattle.sink.proofs.SinkLaws.{emit_one}
use Rattle.class_rows.proofs.AboveLaws.{shown_counted, shown_wanted, shown_kept}
use Rattle.class_rows.proofs.ClassLaws.{fields_told, methods_told, class_rows_lem}
use Rattle.outside.specs.Words.{over}
use Rattle.class_rows.proofs.write_class.Goals as goal

pub class_head-head-requires : goal.class_head-head-requires
class_head-head-requires c =
    (c.requires.0, shown_counted c.args.tables c.requires.1, shown_counted c.args.tables c.requires.2)

pub put_line-requires : goal.put_line-requires
put_line-requires c = (
  omega (arith, c.requires.0.row),
  shown_wanted c.args.tables c.wanted.ensures
      (shown_kept c.args.tables _ (emit_one _ (written c.args.out.now) c.push.ensures.step) c.requires.1),
)

pub put_line-requires-2 : goal.put_line-requires-2
put_line-requires-2 c =
    let o : Store = record { used = 0; calls = 0 } in (
      omega (arith, c.requires.0.row),
      shown_wanted c.args.tables c.wanted-2.ensures
          (shown_kept c.args.tables _ (fields_told (over c.args.tables.outside.now) c.args.tables.sheet.now
          (store_of o c.args.tables.results.now c.args.tables.nodes.now) c.args.row c.wanted.result _
          c.wanted.ensures (c.requires.0.fields o) refl (c.put_line.ensures.step o))
          (shown_kept c.args.tables _ (emit_one _ (written c.args.out.now) c.push.ensures.step) c.requires.2)),
    )

pub returns-clause-step : goal.returns-clause-step
returns-clause-step c =
    λ o. class_rows_lem (over c.args.tables.outside.now) c.args.tables.sheet.now
    (store_of o c.args.tables.results.now c.args.tables.nodes.now) c.args.row
    (written c.args.out.now) (c.class_head-head.ensures o) c.push.ensures.step
    (fields_told (over c.args.tables.outside.now) c.args.tables.sheet.now
    (store_of o c.args.tables.results.now c.args.tables.nodes.now) c.args.row c.wanted.result _
    c.wanted.ensures (c.requires.0.fields o) refl (c.put_line.ensures.step o))
    (methods_told (over c.args.tables.outside.now) c.args.tables.sheet.now
    (store_of o c.args.tables.results.now c.args.tables.nodes.now) c.args.row c.wanted-2.result _
    c.wanted-2.ensures (c.put_line-2.ensures.step o))
