use Rattle.answer.proofs.TellLaws.{told_refused}
use mathlib.Core.Path.{refl}
use Rattle.answer.proofs.refuse.Goals as goal

pub returns : goal.returns
returns c =
    (rw (← c.number.ensures) (told_refused c.number.result _ refl), c.clear.ensures)
