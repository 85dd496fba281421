use Rattle.session_outside.proofs.NameLaws.{core_told}
use Rattle.session_outside.proofs.visible.core_name.Goals as goal

pub returns : goal.returns
returns c = core_told c.args.i c.requires
