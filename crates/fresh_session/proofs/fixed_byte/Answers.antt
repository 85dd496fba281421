-- `fixed_byte` meets its contract. Assumes nothing.
use Rattle.fresh_session.proofs.FreshLaws.{byte_past}
use Rattle.fresh_session.proofs.fixed_byte.Goals as goal

pub returns-else-i-lt168 : goal.returns-else-i-lt168
returns-else-i-lt168 c = byte_past c.args.i c.if-i-lt168.false
