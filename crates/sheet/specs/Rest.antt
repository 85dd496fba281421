-- What an iterator over a child list has left to give.
use Rattle.std.specs.Prelude.{List, ℕ, get_or}
use Rattle.ast.specs.Kind.{kind_number}
use Rattle.definition.specs.Basics.{filter}
use Rattle.definition.specs.Sheet.{chain, is}
use Rattle.sheet.specs.declared.child_rows.ChildRows.{ChildRows}
use Rattle.sheet.specs.declared.child_rows.KindRows.{KindRows}

-- the rows of a child list that are left
abbrev pub rows_left : ChildRows → List ℕ
rows_left c = chain c.left c.sheet.now (get_or c.sheet.now c.link 0)

-- those of them that are of the kind
abbrev pub kind_left : KindRows → List ℕ
kind_left c = filter (is c.sheet.now (kind_number c.kind)) (rows_left c.rows)
