use mathlib.Core.Path.{◌∙◌}
use Rattle.row_fits.proofs.Laws.{asked_same}
use Rattle.row_fits.proofs.row.Row.fits.Goals as goal

pub returns : goal.returns
returns c = rw (← c.word-parent.ensures, ← c.word-state.ensures) (c.is_as_asked.ensures ∙ asked_same _ _ _ _ _ _ _ c.requires)
