use mathlib.Core.Path.{◌∙◌}
use Rattle.store.specs.Stored.{store_of}
use Rattle.outside.specs.Words.{over}
use Rattle.entry_classes.proofs.RowLaws.{row_below, field_told, method_told_lem}
use Rattle.entry_classes.proofs.member_of.Goals as goal

pub returns-then-row : goal.returns-then-row
returns-then-row c =
    λ o q. field_told c.args.source.sheet.now (store_of o c.args.source.results.now q) c.args.source.base c.args.row.now (over c.args.source.outside.now) c.if-row.true

pub method_of-requires : goal.method_of-requires
method_of-requires c =
    row_below c.args.row.now c.requires.1

pub returns : goal.returns
returns c =
    λ o q. c.method_of.ensures o q
    ∙ method_told_lem c.args.source.sheet.now (store_of o c.args.source.results.now q) c.args.source.base c.args.row.now (over c.args.source.outside.now) c.if-row.false
