-- Both ways as one: the table that is written.
use Rattle.std.specs.Prelude.{List, ℕ, ◌+◌, ◌*◌, get_or}
use Rattle.definition.specs.Sheet.{word, rows}
use Rattle.columns.specs.declared.Way.{Way}
use Rattle.columns.specs.declared.Way.TheVariants.{ToColumns, ToRows}
use Rattle.columns.specs.Columns.{stored, restored, to_columns, from_columns}

-- the other way
abbrev pub opposite : Way → Way
opposite ToColumns = ToRows
opposite ToRows = ToColumns

-- word w in column c of row r, on its way
abbrev pub moved : Way → ℕ → ℕ → ℕ → ℕ
moved ToColumns c r w = stored c r w
moved ToRows c r w = restored c r w

-- the table that is written of n rows, and its number at place j of line i
abbrev pub height : Way → ℕ → ℕ
height ToColumns n = 8
height ToRows n = n

abbrev pub width : Way → ℕ → ℕ
width ToColumns n = n
width ToRows n = 8

abbrev pub word_of : Way → List ℕ → ℕ → ℕ → ℕ
word_of ToColumns s i j = stored i j (word s j i)
word_of ToRows s i j = restored j i (get_or s (j * rows s + i) 0)

-- a source by column, or back
abbrev pub way_of : Way → List ℕ → List ℕ
way_of ToColumns s = to_columns s
way_of ToRows s = from_columns s
