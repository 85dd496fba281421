use Rattle.order_units.proofs.AskedLaws.{marks_none}
use Rattle.order_units.proofs.order_fitting.Goals as goal

pub order_in-requires : goal.order_in-requires
order_in-requires c =
    (c.requires, marks_none c.args.sheet.now 2048 c.requires.few)
