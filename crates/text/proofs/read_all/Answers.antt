-- `read_all` meets its contract: all of the lines, or none. Assumes nothing.
use mathlib.Core.Path.{sym, ◌∙◌}
use Rattle.text.proofs.Reading.{whole_fits, none_read, lines_read_lem, lines_none}
use Rattle.text.proofs.read_all.Goals as goal

pub read_lines-requires : goal.read_lines-requires
read_lines-requires c = whole_fits _ _ _ (sym c.in-Some.ensures)

pub returns-in-Some : goal.returns-in-Some
returns-in-Some c = (c.read_lines.ensures.0 ∙ lines_read_lem _ _ _ (sym c.in-Some.ensures), c.read_lines.ensures.1)

pub returns-in-None : goal.returns-in-None
returns-in-None c = (lines_none _ _ (sym c.in-None.ensures), none_read _)
