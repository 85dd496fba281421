-- What `resolve` answers, and its line in the report words.
use Rattle.plush.proofs.Laws.{resolved}
use Rattle.plush.proofs.plush_resolve.Goals as goal

pub returns : goal.returns
returns c =
    let a = c.args in
    resolved a.sheet.now a.names.now _ _ c.resolve-x.result _ c.first_line-line.result _ c.resolve-x.ensures c.first_line-line.ensures c.write_fitted.ensures
