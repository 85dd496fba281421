use mathlib.Core.Path.{sym, ◌∙◌}
use Rattle.outside.specs.Words.{over}
use Rattle.sheet.proofs.FindLaws.{row_number}
use Rattle.inherit.proofs.ParentLaws.{number_row, number_lacking, number_ends}
use Rattle.inherit.proofs.parent_number.Goals as goal

pub overflow_sub-result : goal.overflow_sub-result
overflow_sub-result c =
    row_number c.args.sheet.now c.args.up.0 (sym c.is_class_row.ensures ∙ c.if-is_class_row.true)

pub returns-then-is_class_row : goal.returns-then-is_class_row
returns-then-is_class_row c =
    number_row (over c.args.outside.now) c.args.sheet.now c.args.up.0
    (sym c.is_class_row.ensures ∙ c.if-is_class_row.true)

pub returns-then-lacks_record : goal.returns-then-lacks_record
returns-then-lacks_record c =
    number_lacking (over c.args.outside.now) c.args.sheet.now c.args.up.0
    (sym c.is_class_row.ensures ∙ c.if-is_class_row.false) (sym c.lacks_record.ensures ∙ c.if-lacks_record.true)

pub returns : goal.returns
returns c =
    number_ends (over c.args.outside.now) c.args.sheet.now c.args.up.0
    (sym c.is_class_row.ensures ∙ c.if-is_class_row.false) (sym c.lacks_record.ensures ∙ c.if-lacks_record.false)
