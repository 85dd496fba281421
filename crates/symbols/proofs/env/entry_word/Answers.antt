use mathlib.Core.Path.{sym}
use lib.ListN.{get_or-eq_default}
use Rattle.symbols.proofs.env.entry_word.Goals as goal

pub returns-else-at-entries : goal.returns-else-at-entries
returns-else-at-entries c = sym (get_or-eq_default c.args.entries.now 0 c.if-at-entries.false)
