-- What `withdraw` answers, and its line in the report words.
use Rattle.plush.proofs.Laws.{session_withdrawn}
use Rattle.plush.proofs.plush_withdraw.Goals as goal

pub returns : goal.returns
returns c =
    let a = c.args in
    session_withdrawn a.words.now a.bytes.now _ c.withdraw-x.result c.first_line-line.result _ _ c.withdraw-x.ensures c.first_line-line.ensures c.write_fitted.ensures
