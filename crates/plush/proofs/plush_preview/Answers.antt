-- What `preview` answers, and its line in the report words.
use Rattle.plush.proofs.Laws.{session_previewed}
use Rattle.plush.proofs.plush_preview.Goals as goal

pub returns : goal.returns
returns c =
    let a = c.args in
    session_previewed a.words.now a.bytes.now a.sheet.now a.names.now _ _ c.preview-x.result _ c.first_line-line.result _ c.preview-x.ensures c.first_line-line.ensures c.write_fitted.ensures
