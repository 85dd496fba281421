use Rattle.outside.proofs.RecordLaws.{own_listed}
use Rattle.outside.proofs.records.own_method.Goals as goal

pub returns-then-is_class_row : goal.returns-then-is_class_row
returns-then-is_class_row c =
    own_listed c.args.sheet.now c.args.outside.now c.args.c.0 c.is_class_row.ensures c.if-is_class_row.true
    c.first_named.result c.first_named.ensures c.listed_method.ensures.0 c.listed_method.ensures.1
