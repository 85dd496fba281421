use mathlib.Core.Path.{sym, ◌∙◌}
use Rattle.store.specs.Stored.{store_of}
use Rattle.sheet.proofs.FindLaws.{row_number}
use Rattle.inherit.proofs.ClassLaws.{parent_stored, parent_none}
use Rattle.inherit.proofs.parent_of.Goals as goal

pub overflow_sub-c : goal.overflow_sub-c
overflow_sub-c c =
    row_number c.args.sheet.now c.args.c.0
    (sym c.is_class_row.ensures ∙ c.if-is_class_row.true)

pub returns-then-is_class_row : goal.returns-then-is_class_row
returns-then-is_class_row c =
    λ o q. parent_stored c.args.sheet.now (store_of o c.args.results.now q) c.args.c.0
    c.word.ensures (sym c.is_class_row.ensures ∙ c.if-is_class_row.true)

pub returns : goal.returns
returns c =
    λ o q. parent_none c.args.sheet.now (store_of o c.args.results.now q) c.args.c.0
    (sym c.is_class_row.ensures ∙ c.if-is_class_row.false)
