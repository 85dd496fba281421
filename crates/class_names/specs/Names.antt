-- The names of the fields or of the methods of a class, its own and after inheritance, told by the kind of their rows: 10 or 6.
use Rattle.std.specs.Prelude.{◌≡◌, not, ◌&&◌, List, [], ◌∷◌, ◌++◌, map, ℕ, ◌+◌, ◌-◌, ◌*◌, ◌<◌, ◌≤◌, eqb, leb, length, get_or, set}
use Rattle.definition.specs.Basics.{when◌then◌else◌, filter, bit, ◌∈?◌}
use Rattle.definition.specs.Sheet.{Sheet, a, rows, is, kids_of}
use Rattle.definition.specs.Classes.{of_sheet, merge_fields, inheriting}
use Rattle.definition.specs.Outside.{Outside}
use Rattle.outside.specs.Found.{recorded_names}
use Rattle.machine.specs.Machine.{Store as Stored, cell, list_at}
use Rattle.after.specs.Inherited.{parent_in, fields_in, method_names_in, has_children_in}
use Rattle.store.specs.Stored.{store_of}
use Rattle.store.specs.declared.nodes.Store.{Store}
use Rattle.class_names.specs.Read.{outside_in, store_in}
use Rattle.class_names.specs.declared.tables.Tables.{Tables}

-- the own names of the class of row r: those that it lists, and of fields then those that the walk stored
unfoldable pub row_names : Sheet → Stored → ℕ → ℕ → List ℕ
row_names s o j r = map (a s) (kids_of s j r) ++ (when eqb j 10 then map (λ y. y.key) (list_at o (8 * r + 7)) else [])

-- the own names of class c: of its row, or of its record
unfoldable pub own_in : Outside → Sheet → Stored → ℕ → ℕ → List ℕ
own_in O s o j c = when of_sheet s c then row_names s o j (c - 256) else recorded_names O j c

-- the names of class c after inheritance; n bounds the climb
unfoldable pub names_in : Outside → Sheet → Stored → ℕ → ℕ → ℕ → List ℕ
names_in O s o j n c = inheriting merge_fields (parent_in s o) (own_in O s o j) n c

-- the names that a class inherits from its parent p; no class has number 0
unfoldable pub inherited : Outside → Sheet → Stored → ℕ → ℕ → ℕ → List ℕ
inherited O s o j n p = when eqb p 0 then [] else names_in O s o j n p

-- the names of a list that are not inherited
abbrev pub new_of : List ℕ → List ℕ → List ℕ
new_of up ms = filter (λ m. not (m ∈? up)) ms

-- the marks with that of the parent of row r, if row r is a class whose parent is of the sheet
unfoldable pub mark_parent : Sheet → List ℕ → ℕ → List ℕ → List ℕ
mark_parent s t r marks = when is s 4 r && leb 256 (cell t r 1) then set marks (cell t r 1 - 256) 1 else marks

-- Of the table t, the marked rows are those of the classes that have children.
pub record ParentMarks (s t marks : List ℕ) : Type 0 where
  pub room : rows s ≤ length marks
  pub told : (o : Store) (q : List ℕ) (j : ℕ) → j < rows s → not (eqb (get_or marks j 0) 0) ≡ has_children_in s (store_of o t q) (256 + j)

-- Row r stands in the sheet of tables t, which is not too long, with the marks of its parents, and its fields and methods can be counted in a word.
pub record ClassReady (t : Tables) (marks : List ℕ) (r : ℕ) : Type 0 where
  pub row : r < rows t.sheet.now
  pub short : length t.sheet.now ≤ 16384
  pub marked : ParentMarks t.sheet.now t.results.now marks
  pub fields : (o : Store) → length (fields_in (outside_in t) t.sheet.now (store_in t o) (rows t.sheet.now) (256 + r)) ≤ 4294967295
  pub methods : (o : Store) → length (method_names_in (outside_in t) t.sheet.now (store_in t o) (rows t.sheet.now) (256 + r)) ≤ 4294967295

-- the code and the values of the first row of the class of row r
unfoldable pub head_words : Outside → Sheet → Stored → ℕ → List ℕ
head_words O s o r =
    22 ∷ parent_in s o (256 + r) ∷ bit (has_children_in s o (256 + r)) ∷ length (fields_in O s o (rows s) (256 + r))
    ∷ length (method_names_in O s o (rows s) (256 + r)) ∷ []
