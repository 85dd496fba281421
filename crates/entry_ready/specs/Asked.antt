-- What is asked of an entry before the walk.
use Rattle.std.specs.Prelude.{Bool, ◌&&◌, List, ℕ, eqb, leb, length}
use Rattle.definition.specs.Basics.{when◌then◌else◌}
use Rattle.definition.specs.Kind.{IMPORT}
use Rattle.definition.specs.Sheet.{Sheet, child, a, kids, kids_of}
use Rattle.first_four.specs.Questions.{first_four}

-- is sheet s one unit without imports, that starts at global g or above?
abbrev pub fits_over : ℕ → Sheet → Bool
fits_over g s = eqb (length (kids s 0)) 1 && eqb (length (kids_of s IMPORT (child s 0))) 0 && leb g (a s 0)

-- the first no of questions 1 to 4, then 23, or 0
abbrev pub entry_no : ℕ → Sheet → List ℕ → ℕ
entry_no g s ns = when eqb (first_four s ns) 0 then (when fits_over g s then 0 else 23) else first_four s ns
