-- `print_session` meets its contract. Assumes nothing.
use Rattle.enter_text.proofs.EntryLaws.{session_written}
use Rattle.enter_text.proofs.print_session.Goals as goal

pub returns : goal.returns
returns c =
    session_written c.args.words.now c.write_fitted.ensures c.requires c.write_rows.ensures
