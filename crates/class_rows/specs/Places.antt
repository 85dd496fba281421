-- Where the rows of classes stand in the answer words, so that a class can copy the names that it inherits.
use Rattle.std.specs.Prelude.{◌≡◌, List, map, ℕ, suc, ◌+◌, ◌-◌, ◌*◌, ◌/◌, ◌<◌, ◌≤◌, eqb, leb, length, get_or}
use Rattle.definition.specs.Basics.{when◌then◌else◌, from}
use Rattle.definition.specs.Sheet.{Sheet, rows}
use Rattle.definition.specs.Outside.{Outside}
use Rattle.definition.specs.Classes.{method_named}
use Rattle.machine.specs.Machine.{Store as Stored}
use Rattle.after.specs.Inherited.{parent_in, methods_in}
use Rattle.store.specs.declared.nodes.Store.{Store}
use Rattle.class_names.specs.Names.{names_in}
use Rattle.class_names.specs.Read.{outside_in, store_in}
use Rattle.class_names.specs.declared.tables.Tables.{Tables}
use Rattle.class_rows.specs.declared.places.Above.{Above}

-- column c of the n rows from row i on
abbrev pub column : List ℕ → ℕ → ℕ → ℕ → List ℕ
column w c i n = map (λ j. get_or w (8 * j + c) 0) (from i n)

-- the function of the method of name m that class c has, where n bounds the climb
abbrev pub function_in : Outside → Sheet → Stored → ℕ → ℕ → ℕ → ℕ
function_in O s o n c m = method_named m (methods_in O s o n c)

-- the column of the names in the rows of kind j: that of a field stands after its slot
abbrev pub name_column : ℕ → ℕ
name_column j = when eqb j 10 then 3 else 2

-- the names of kind j of the class of row r
abbrev pub names_of : Outside → Sheet → Stored → ℕ → ℕ → List ℕ
names_of O s o j r = names_in O s o j (rows s) (256 + r)

-- The rows of the class of row r stand in the words w from row p on, below row k: the numbers of its names, its fields, its methods
-- with their functions. To climb more than r + 1 classes adds none.
pub record Stands (O : Outside) (s : Sheet) (o : Stored) (w : List ℕ) (k r p : ℕ) : Type 0 where
  pub below : p + suc (length (names_of O s o 10 r) + length (names_of O s o 6 r)) ≤ k
  pub within : p + suc (length (names_of O s o 10 r) + length (names_of O s o 6 r)) ≤ length w / 8
  pub fields : get_or w (8 * p + 4) 0 ≡ length (names_of O s o 10 r)
  pub methods : get_or w (8 * p + 5) 0 ≡ length (names_of O s o 6 r)
  pub field_names : column w 3 (suc p) (length (names_of O s o 10 r)) ≡ names_of O s o 10 r
  pub method_names : column w 2 (suc p + length (names_of O s o 10 r)) (length (names_of O s o 6 r)) ≡ names_of O s o 6 r
  pub functions : column w 3 (suc p + length (names_of O s o 10 r)) (length (names_of O s o 6 r)) ≡ map (function_in O s o (rows s) (256 + r)) (names_of O s o 6 r)
  pub stable : (j n : ℕ) → r < n → names_in O s o j n (256 + r) ≡ names_of O s o j r
  pub stable_methods : (n : ℕ) → r < n → methods_in O s o n (256 + r) ≡ methods_in O s o (rows s) (256 + r)

-- In the table of places of tables t, an entry that is not 0 is one more than the row where a class stands. All such classes have rows below r.
pub record Placed (t : Tables) (places w : List ℕ) (r k : ℕ) : Type 0 where
  pub room : rows t.sheet.now ≤ length places
  pub told : (j p : ℕ) → get_or places j 0 ≡ suc p → (j < r) × ((o : Store) → Stands (outside_in t) t.sheet.now (store_in t o) w k j p)

-- the entry of class c in the table of places
unfoldable pub place_of : List ℕ → ℕ → ℕ
place_of places c = when leb 256 c then get_or places (c - 256) 0 else 0

-- the names of kind j of the class that stands from row at - 1 on; none if `at` is 0
unfoldable pub above_of : List ℕ → ℕ → ℕ → Above
above_of w at j =
    when eqb at 0 then record { row = 0; count = 0 }
    else when eqb j 10 then record { row = at; count = get_or w (8 * (at - 1) + 4) 0 }
    else record { row = at + get_or w (8 * (at - 1) + 4) 0; count = get_or w (8 * (at - 1) + 5) 0 }

-- The names of kind j of the parent of class c stand in the words w where `a` tells, below row k; methods with their functions.
pub record Shows (O : Outside) (s : Sheet) (o : Stored) (j c : ℕ) (w : List ℕ) (k : ℕ) (a : Above) : Type 0 where
  pub below : a.row + a.count ≤ k
  pub within : a.row + a.count ≤ length w / 8
  pub parent : parent_in s o c ≡ 0 → ⊥
  pub names : column w (name_column j) a.row a.count ≡ names_in O s o j (rows s - 1) (parent_in s o c)
  pub functions : (j ≡ 10 → ⊥) → column w 3 a.row a.count ≡ map (function_in O s o (rows s - 1) (parent_in s o c)) (names_in O s o j (rows s - 1) (parent_in s o c))

-- If `a` tells a row, the names of kind j of the parent of class c stand there.
abbrev pub Shown : Tables → ℕ → ℕ → List ℕ → ℕ → Above → Type 0
Shown t j c w k a = (a.row ≡ 0 → ⊥) → (o : Store) → Shows (outside_in t) t.sheet.now (store_in t o) j c w k a

-- If `a` tells a row, class c has a parent, and `a` tells how many names of kind j it has.
abbrev pub Counted : Tables → ℕ → ℕ → Above → Type 0
Counted t j c a =
    (a.row ≡ 0 → ⊥) → (o : Store)
    → (parent_in t.sheet.now (store_in t o) c ≡ 0 → ⊥)
    × (a.count ≡ length (names_in (outside_in t) t.sheet.now (store_in t o) j (rows t.sheet.now - 1) (parent_in t.sheet.now (store_in t o) c)))
