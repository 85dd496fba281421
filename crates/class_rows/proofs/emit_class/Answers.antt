use Rattle.store.specs.declared.nodes.Store.{Store}
use mathlib.Core.Path.{sym, ◌∙◌}
use native.Mathlib.Omega.{arith}
use Rattle.store.specs.Stored.{store_of}
use Rattle.class_rows.proofs.ClassLaws.{class_full}
use Rattle.class_rows.proofs.PlaceLaws.{stands_now, placed_kept, placed_more}
use Rattle.class_rows.proofs.AboveLaws.{entry_fits_lem, fields_shown, methods_shown, line_steady}
use Rattle.outside.specs.Words.{over}
use Rattle.class_rows.proofs.emit_class.Goals as goal

pub returns-then-room-start-clause-step : goal.returns-then-room-start-clause-step
returns-then-room-start-clause-step c =
    λ o. class_full (over c.args.tables.outside.now) c.args.tables.sheet.now
    (store_of o c.args.tables.results.now c.args.tables.nodes.now) c.args.row c.args.out.now.count
    c.args.out.now.words.now c.room-room.ensures c.if-room-start.true

pub returns-then-room-start-clause-placed : goal.returns-then-room-start-clause-placed
returns-then-room-start-clause-placed c =
    let o : Store = record { used = 0; calls = 0 } in
    placed_kept c.requires.1 _ (class_full (over c.args.tables.outside.now) c.args.tables.sheet.now
    (store_of o c.args.tables.results.now c.args.tables.nodes.now) c.args.row c.args.out.now.count
    c.args.out.now.words.now c.room-room.ensures c.if-room-start.true)

pub above_of-requires : goal.above_of-requires
above_of-requires c =
    entry_fits_lem c.requires.1 c.requires.0.row
    (λ o. c.parent_of-parent.ensures o c.args.tables.nodes.now) c.place_of-at.ensures

pub above_of-requires-2 : goal.above_of-requires-2
above_of-requires-2 c =
    entry_fits_lem c.requires.1 c.requires.0.row (λ o. c.parent_of-parent.ensures o c.args.tables.nodes.now)
    c.place_of-at.ensures

pub write_class-requires : goal.write_class-requires
write_class-requires c = (
  c.requires.0,
  fields_shown c.requires.1 c.requires.0.row (λ o. c.parent_of-parent.ensures o c.args.tables.nodes.now)
      c.place_of-at.ensures c.above_of.ensures,
  methods_shown c.requires.1 c.requires.0.row (λ o. c.parent_of-parent.ensures o c.args.tables.nodes.now)
      c.place_of-at.ensures c.above_of-2.ensures,
)

pub returns-then-room-out-clause-placed : goal.returns-then-room-out-clause-placed
returns-then-room-out-clause-placed c =
    placed_kept c.requires.1 _ (c.write_class.ensures.step (record { used = 0; calls = 0 }))

pub returns-then-not-line_ends-clause-placed : goal.returns-then-not-line_ends-clause-placed
returns-then-not-line_ends-clause-placed c =
    placed_kept c.requires.1 _ (c.write_class.ensures.step (record { used = 0; calls = 0 }))

pub returns-clause-placed : goal.returns-clause-placed
returns-clause-placed c =
    let steady =
    line_steady c.requires.1 c.requires.0.row (λ o. c.parent_of-parent.ensures o c.args.tables.nodes.now)
    c.place_of-at.ensures
    (sym c.if-not-line_ends.false ∙ c.line_ends.ensures) in
    placed_more c.requires.1 _ (c.write_class.ensures.step (record { used = 0; calls = 0 }))
    (λ o. stands_now (over c.args.tables.outside.now) c.args.tables.sheet.now
    (store_of o c.args.tables.results.now c.args.tables.nodes.now) c.args.out.now.words.now c.args.out.now.count
    c.args.row c.write_class.new.out.count (c.write_class.ensures.step o)
    (omega (arith, c.if-room-out.false, c.room-room.ensures)) (steady o).0 (steady o).1)
    (omega (arith, c.requires.0.row, c.requires.1.room))
