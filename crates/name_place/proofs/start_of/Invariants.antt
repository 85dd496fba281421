-- `start_of` meets its contract. Invariant: the bytes passed and those before the names left are all. Assumes nothing.
use Rattle.name_place.proofs.PlaceLaws.{Seeking}
use Rattle.name_place.proofs.start_of.Given as goal

abbrev pub invariant-loop-at : goal.invariant-loop-at
invariant-loop-at l = Seeking l.list l.k l.left l.at
