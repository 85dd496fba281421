use mathlib.Core.Path.{sym, ◌∙◌}
use Rattle.unit_order.proofs.SheetLaws.{row_unit}
use Rattle.definition.proofs.Lists.Tests.{T_true}
use Rattle.import_circle.proofs.RankLaws.{no_search, row_other, row_circles}
use Rattle.import_circle.proofs.circles_at.Goals as goal

pub returns-then-not-is_kind : goal.returns-then-not-is_kind
returns-then-not-is_kind c =
    row_other c.args.sheet.now c.args.u (sym c.is_kind.ensures ∙ c.if-not-is_kind.true)

pub returns-then-highest_import-entry_at : goal.returns-then-highest_import-entry_at
returns-then-highest_import-entry_at c =
    let e = sym c.is_kind.ensures ∙ c.if-not-is_kind.false in
    let unit = row_unit c.args.sheet.now c.args.u c.requires.1 (T_true _ e) in
    row_circles c.args.sheet.now c.args.u e (sym
    (no_search c.args.sheet.now c.requires.0 c.args.ranks.now (c.requires.2 c.if-fall.true) c.args.u unit c.entry_at.ensures c.highest_import.ensures c.if-highest_import-entry_at.true))

pub is_circling-requires : goal.is_circling-requires
is_circling-requires c =
    (c.requires.0, row_unit c.args.sheet.now c.args.u c.requires.1 (T_true _ (sym c.is_kind.ensures ∙ c.if-not-is_kind.false)))

pub returns : goal.returns
returns c =
    row_circles c.args.sheet.now c.args.u (sym c.is_kind.ensures ∙ c.if-not-is_kind.false) c.is_circling.ensures
