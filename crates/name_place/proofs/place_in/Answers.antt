-- `place_in` meets its contract. Assumes nothing.
use native.Mathlib.Omega.{arith}
use Rattle.name_place.proofs.place_in.Goals as goal

pub overflow_cast-result : goal.overflow_cast-result
overflow_cast-result c =
    omega (arith, c.requires.0, c.start_of.ensures)

pub overflow_cast-result-2 : goal.overflow_cast-result-2
overflow_cast-result-2 c =
    omega (arith, c.requires.1)
