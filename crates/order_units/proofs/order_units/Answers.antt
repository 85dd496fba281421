use mathlib.Core.Path.{refl, sym, ◌∙◌}
use lib.ListN.{length}
use Rattle.ast.proofs.QuestionLaws.{question_none}
use Rattle.order_units.proofs.AskedLaws.{fitting, ordered_no, ordered_on}
use Rattle.order_units.proofs.order_units.Goals as goal

pub returns-in-Err : goal.returns-in-Err
returns-in-Err c =
    ordered_no c.args.sheet.now c.args.names.now (length c.args.list.now) c.in-Err.ensures (question_none _) c.refuse.ensures

pub order_fitting-requires : goal.order_fitting-requires
order_fitting-requires c = fitting c.args.sheet.now c.args.names.now (sym c.in-Ok.ensures)

pub returns-in-Ok : goal.returns-in-Ok
returns-in-Ok c =
    ordered_on c.args.sheet.now c.args.names.now (length c.args.list.now) c.in-Ok.ensures refl c.order_fitting.ensures
