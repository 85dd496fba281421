use mathlib.Core.Path.{sym}
use Rattle.shapes.specs.States.{state_table}
use Rattle.shapes.proofs.TableLaws.{no_row}
use Rattle.shapes.proofs.next_state.Goals as goal

pub returns-else-state-lt26 : goal.returns-else-state-lt26
returns-else-state-lt26 c = sym (no_row state_table _ _ c.if-state-lt26.false)
