-- What `order_units` answers, and its line in the report words.
use Rattle.plush.proofs.Laws.{units_ordered}
use Rattle.plush.proofs.plush_order_units.Goals as goal

pub returns : goal.returns
returns c =
    let a = c.args in
    units_ordered a.sheet.now a.names.now _ _ c.order_units-x.result _ c.first_line-line.result _ c.order_units-x.ensures c.first_line-line.ensures c.write_fitted.ensures
