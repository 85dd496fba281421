-- The program's own pass over the rows of a sheet, as functions on its words and on a table of eight words for each row.
-- The contracts of the routines below the entry cite it; that of the entry cites the definition alone.
use Rattle.std.specs.Prelude.{List, Bool, true, not, ◌&&◌, ◌||◌, ℕ, zero, suc, ◌+◌, ◌*◌, min, set, eqb, leb, ltb}
use Rattle.definition.specs.Basics.{when◌then◌else◌}
use Rattle.definition.specs.Sheet.{Sheet, word, kind, next, child, file, a, b}
use Rattle.definition.specs.Shape.{holds}
use Rattle.row_fits.specs.declared.row.Entry.{Entry}
use Rattle.shapes.specs.States.{entry_of, kind_table, state_table, rule_at}

-- The words of a row that are asked about.
pub record Words : Type 0 where
  pub kind : ℕ
  pub next : ℕ
  pub child : ℕ
  pub file : ℕ
  pub a : ℕ
  pub b : ℕ

-- those of row r
abbrev pub row_in : Sheet → ℕ → Words
row_in s r = record { kind = kind s r; next = next s r; child = child s r; file = file s r; a = a s r; b = b s r }

-- The table: of each row, in word 0 the row that has it as a child, 1 its depth, 2 its unit, 3 its function, 4 the class whose
-- method it lies in, 5 the state of the child list before it; of a class, in word 7 the row that declares it.
abbrev pub entry_in : List ℕ → ℕ → Entry
entry_in t r = record { parent = word t r 0; depth = word t r 1; unit = word t r 2; fun = word t r 3; class = word t r 4; state = word t r 5 }

-- do columns x and y, a and b of kind k, hold what the kind says?
unfoldable pub columns_ok : Sheet → ℕ → ℕ → ℕ → ℕ → Bool
columns_ok s last k x y = holds s last (rule_at (entry_of kind_table k 2)) x && holds s last (rule_at (entry_of kind_table k 3)) y

-- is the file in range, and the value of a constant no literal?
unfoldable pub plain_ok : Sheet → Words → Bool
plain_ok s w = ltb w.file 262144 && (not (eqb w.kind 29) || (ltb w.b 2 || not (eqb (kind s w.child) 52)))

-- is a function marked as a unit's exactly where it is one, with a block alone; has a method a name? p is its parent
unfoldable pub function_ok : Sheet → Words → ℕ → Bool
function_ok s w p =
    when not (eqb w.kind 6) then true
    else when eqb (kind s p) 2 then eqb w.b 1 && (eqb (kind s w.child) 25 && eqb (next s w.child) 0)
    else eqb w.b 0 && (not (eqb (kind s p) 4) || not (eqb w.a 0))

-- the state of a child list after a child of kind k, in state q
unfoldable pub state_after : ℕ → ℕ → ℕ
state_after q k = entry_of state_table q (entry_of kind_table k 0 + 1)

-- may a child list end in state q?
unfoldable pub ends_in : ℕ → Bool
ends_in q = eqb (entry_of state_table q 0) 1

-- may the child list of row r be empty if it is; may the list that it is in end if it does? q is the state before it
unfoldable pub ends_ok : Words → ℕ → ℕ → Bool
ends_ok w r q = (not (eqb w.child 0) || ends_in (entry_of kind_table w.kind 1)) && (eqb r 0 || (not (eqb w.next 0) || ends_in (state_after q w.kind)))

-- is a class declaration the first of its class?
unfoldable pub new_ok : List ℕ → Words → Bool
new_ok t w = not (eqb w.kind 30) || eqb (word t w.a 7) 0

-- what is asked of row r with words w, parent p and the state q of its list before it
unfoldable pub row_asked : Sheet → ℕ → Words → ℕ → ℕ → ℕ → List ℕ → Bool
row_asked s last w r p q t =
    columns_ok s last w.kind w.a w.b && (plain_ok s w && (function_ok s w p && (ends_ok w r q && new_ok t w)))

-- the same when the pass reaches row r
abbrev pub row_ok : Sheet → ℕ → ℕ → List ℕ → Bool
row_ok s last r t = row_asked s last (row_in s r) r (word t r 0) (word t r 5) t

-- the entry e written for row r
unfoldable pub put_entry : List ℕ → ℕ → Entry → List ℕ
put_entry t r e =
    set (set (set (set (set (set t (8 * r + 0) e.parent) (8 * r + 1) e.depth) (8 * r + 2) e.unit) (8 * r + 3) e.fun) (8 * r + 4) e.class) (8 * r + 5) e.state

-- the unit of a row r of kind k itself, whose entry e has that of its parent
abbrev pub unit_here : ℕ → ℕ → Entry → ℕ
unit_here r k e = when eqb k 2 then r else e.unit

-- the innermost function around what row r holds
abbrev pub fun_inside : ℕ → ℕ → Entry → ℕ
fun_inside r k e = when eqb k 6 then r else e.fun

-- the class whose method row r is or lies in, whose entry e has that of its parent
abbrev pub class_here : Sheet → ℕ → Entry → ℕ
class_here s k e = when eqb k 6 && eqb (kind s e.parent) 4 then e.parent else e.class

-- the entry of the next row of the list: that of the row before it, of kind k and with entry e, but for the state
abbrev pub next_entry : ℕ → Entry → Entry
next_entry k e = record { parent = e.parent; depth = e.depth; unit = e.unit; fun = e.fun; class = e.class; state = state_after e.state k }

-- the entry of the first child of row r, of kind k and with entry e
abbrev pub child_entry : Sheet → ℕ → ℕ → Entry → Entry
child_entry s r k e =
    record {
      parent = r;
      depth = min (e.depth + 1) 4294967295;
      unit = unit_here r k e;
      fun = fun_inside r k e;
      class = class_here s k e;
      state = entry_of kind_table k 1;
    }

-- the table with the entry of the next row n after a row of kind k and with entry e
unfoldable pub note_next : ℕ → ℕ → Entry → List ℕ → List ℕ
note_next n k e t = when eqb n 0 then t else put_entry t n (next_entry k e)

-- the table with the entry of the first child of row r, with words w and entry e
unfoldable pub note_child : Sheet → ℕ → Words → Entry → List ℕ → List ℕ
note_child s r w e t = when eqb w.child 0 then t else put_entry t w.child (child_entry s r w.kind e)

-- the table with the own unit and class of a row
unfoldable pub note_own : Sheet → ℕ → ℕ → Entry → List ℕ → List ℕ
note_own s r k e t = set (set t (8 * r + 2) (unit_here r k e)) (8 * r + 4) (class_here s k e)

-- the table with the class that a row declares
unfoldable pub note_declared : ℕ → Words → List ℕ → List ℕ
note_declared r w t = when eqb w.kind 30 then set t (8 * w.a + 7) r else t

-- the table after row r with words w and entry e
unfoldable pub note_all : Sheet → ℕ → Words → Entry → List ℕ → List ℕ
note_all s r w e t = note_declared r w (note_own s r w.kind e (note_child s r w e (note_next w.next w.kind e t)))

-- the same when the pass reaches row r
abbrev pub note_row : Sheet → ℕ → List ℕ → List ℕ
note_row s r t = note_all s r (row_in s r) (entry_in t r) t

-- the rows from r on, k of them: do all fit?
unfoldable pub rows_ok : Sheet → ℕ → ℕ → ℕ → List ℕ → Bool
rows_ok s last zero r t = true
rows_ok s last (suc k) r t = row_ok s last r t && rows_ok s last k (suc r) (note_row s r t)

-- and what is the table after them?
unfoldable pub rows_noted : Sheet → ℕ → ℕ → List ℕ → List ℕ
rows_noted s zero r t = t
rows_noted s (suc k) r t = rows_noted s k (suc r) (note_row s r t)

-- when all entries are known: is the class of a literal of its own unit?
unfoldable pub literal_ok : Sheet → List ℕ → ℕ → Bool
literal_ok s t r = not (eqb (kind s r) 52) || (eqb (a s r) 0 || eqb (word t (a s r) 2) (word t r 2))

-- does a class declaration stand in its unit's function?
unfoldable pub declaration_ok : Sheet → List ℕ → ℕ → Bool
declaration_ok s t r = not (eqb (kind s r) 30) || eqb (word t (word t r 3) 0) (word t (a s r) 0)

-- is a class declared?
unfoldable pub class_ok : Sheet → List ℕ → ℕ → Bool
class_ok s t r = not (eqb (kind s r) 4) || not (eqb (word t r 7) 0)

-- does a row in a method come before its class's declaration?
unfoldable pub method_ok : List ℕ → ℕ → Bool
method_ok t r = eqb (word t r 4) 0 || ltb r (word t (word t r 4) 7)

-- all that is asked of row r when all entries are known
unfoldable pub cross_ok : Sheet → List ℕ → ℕ → Bool
cross_ok s t r = literal_ok s t r && (declaration_ok s t r && (class_ok s t r && method_ok t r))

-- is the depth of row r at most 64?
unfoldable pub depth_ok : List ℕ → ℕ → Bool
depth_ok t r = leb (word t r 1) 64
