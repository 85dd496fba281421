use Rattle.session_check.proofs.MarkLaws.{zeros_under}
use Rattle.session_check.proofs.entries_fit.Goals as goal

pub entries_marked-requires : goal.entries_marked-requires
entries_marked-requires c = (c.requires, zeros_under 1049)
