-- What `enter` answers, and its line in the report words.
use Rattle.plush.proofs.Laws.{session_entered}
use Rattle.plush.proofs.plush_enter.Goals as goal

pub returns : goal.returns
returns c =
    let a = c.args in
    session_entered a.words.now a.bytes.now a.sheet.now a.names.now _ _ c.enter-x.result _ c.first_line-line.result _ _ _ c.enter-x.ensures c.first_line-line.ensures c.write_fitted.ensures
