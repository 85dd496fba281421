use mathlib.Core.Path.{sym}
use Rattle.shapes.proofs.TableLaws.{no_sort}
use Rattle.row_fits.specs.Pass.{state_after}
use Rattle.row_fits.proofs.row.state_after.Goals as goal

pub returns-in-None : goal.returns-in-None
unfolding state_after
returns-in-None c = rw c.in-None.is (sym (no_sort c.args.state))
