-- What `find_name` answers, in the lent words.
use Rattle.std.proofs.Common.{◌∙◌}
use Rattle.name_index.specs.Index.{find}
use Rattle.name_index.proofs.QuestionLaws.{found_word}
use Rattle.plush.proofs.Laws.{found_told}
use Rattle.plush.proofs.plush_find_name.Goals as goal

pub returns : goal.returns
returns c =
    let a = c.args in
    let found = c.find_name-x.ensures in
    found_told a.names.now a.name.now _ _ _ _ (c.unwrap_or-number.ensures ∙ found_word (find a.names.now a.name.now).0 found.0, found.1) c.write_fitted.ensures
