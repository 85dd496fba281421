use Rattle.links.proofs.LinkLaws.{once_linked}
use mathlib.Core.Path.{◌∙◌}
use Rattle.links.proofs.linked_once.Goals as goal

pub returns : goal.returns
returns c = c.all_once.ensures ∙ once_linked c.args.sheet.now _ c.count_links.ensures
