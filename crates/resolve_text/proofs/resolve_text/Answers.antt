-- `resolve_text` meets its contract: the reply with 2,048 rows lent. Assumes nothing.
use Rattle.resolve_text.proofs.Longer.{printed_files}
use Rattle.resolve_text.proofs.resolve_text.Goals as goal

pub returns : goal.returns
returns c = printed_files c.resolve_lent.ensures
