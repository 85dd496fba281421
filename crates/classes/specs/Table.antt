-- A table with a word for each sheet row: the class of the row, as the definition has it.
use Rattle.std.specs.Prelude.{◌≡◌, List, ℕ, get_or, set, eqb}
use Rattle.definition.specs.Basics.{when◌then◌else◌}
use Rattle.definition.specs.Sheet.{Sheet, next, child, a, is}
use Rattle.definition.specs.Classes.{class_of}

-- the class of the children of row p, or 0
abbrev pub kids_class : Sheet → ℕ → ℕ
kids_class s p = when is s 4 p then p else when is s 52 p then a s p else 0

-- the table with x as the entry of row i; there is no link to row 0
unfoldable pub linked : ℕ → ℕ → List ℕ → List ℕ
linked i x t = when eqb i 0 then t else set t i x

-- the table with the entry of row r's child, and then of its next
abbrev pub child_done : Sheet → ℕ → List ℕ → List ℕ
child_done s r t = linked (child s r) (kids_class s r) t

unfoldable pub row_done : Sheet → ℕ → List ℕ → List ℕ
row_done s r t = linked (next s r) (get_or (child_done s r t) r 0) (child_done s r t)

-- a table of zeros
pub record Clear (t : List ℕ) : Type 0 where
  pub zeros : (j : ℕ) → get_or t j 0 ≡ 0

-- the entry of every row is its class
pub record ClassTable (s : Sheet) (t : List ℕ) : Type 0 where
  pub entry : (f : ℕ) → get_or t f 0 ≡ class_of s f
