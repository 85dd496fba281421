-- What the scratch space of a plain sheet is made for.
use Rattle.std.specs.Prelude.{◌≤◌, length}
use Rattle.definition.specs.Sheet.{Sheet}
use Rattle.definition.specs.Outside.{Outside}
use Rattle.machine.specs.Reads.{PastFour}

-- A sheet past the first four questions, with the names of one list and nine from outside.
pub record Plain (O : Outside) (s : Sheet) : Type 0 where
  pub past : PastFour O s
  pub listed : past.names ≤ 1048
  pub nine : length O.names ≤ 9
