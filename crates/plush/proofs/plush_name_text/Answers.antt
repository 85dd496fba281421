-- What `name_place` answers, in the lent words.
use Rattle.std.proofs.Common.{not, eqb}
use Rattle.plush.proofs.Laws.{name_told}
use Rattle.plush.proofs.plush_name_text.Goals as goal

pub returns : goal.returns
returns c =
    let a = c.args in
    name_told a.words.now a.bytes.now a.names.now (not (eqb a.whose 0)) a.number _ c.name_place-x.result _ c.name_place-x.ensures c.write_fitted.ensures
