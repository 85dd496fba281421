use mathlib.Core.Path.{◌∙◌}
use native.Mathlib.Omega.{arith}
use Rattle.session_outside.proofs.VisibleLaws.{names_laid}
use Rattle.session_outside.proofs.visible.lay_names.Goals as goal

pub returns : goal.returns
returns c =
    names_laid c.args.runs.readable 1049 (omega arith) c.args.out.now _ c.requires (c.lay_core.ensures ∙ c.lay_declared.ensures.1)
