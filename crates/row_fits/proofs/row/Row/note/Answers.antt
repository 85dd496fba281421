use Rattle.row_fits.specs.Pass.{note_all}
use Rattle.row_fits.proofs.Laws.{noted_same}
use Rattle.row_fits.proofs.row.Row.note.Goals as goal

pub returns : goal.returns
unfolding note_all
returns c =
    rw (
      c.note_declared.ensures,
      c.note_own.ensures,
      c.note_child.ensures,
      c.note_next.ensures,
      c.get-e.ensures,
    ) (noted_same _ _ _ _ _ c.requires)
