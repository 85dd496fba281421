-- Questions 3 and 4: does every row fit, and is every depth at most 64?
use Rattle.std.specs.Prelude.{Bool, not, ◌&&◌, ◌||◌, List, [], ◌∷◌, ◌++◌, map, ℕ, zero, suc, get_or, eqb, leb, ltb}
use Rattle.definition.specs.Basics.{when◌then◌else◌, ◌⇒◌, every, all, count, unlike, concat_map, from, bit}
use Rattle.definition.specs.Kind.{HEADER, UNIT, CLASS, FUNCTION, FUNCTION_EXPORT, CONSTANT_EXPORT, FIELD, LET, CLASS_DECLARATION, LITERAL}
use Rattle.definition.specs.Sheet.{Sheet, kind, next, child, file, a, b, rows, kids, is, kids_of, holder}
use Rattle.definition.specs.Shape.{holds, fits, one, only, shape_of}

-- A table of n rows, filled in rising order, each entry from those before it.
abbrev pub table : (List ℕ → ℕ → ℕ) → ℕ → List ℕ
table entry zero = []
table entry (suc n) = let t : List ℕ = table entry n in t ++ entry t n ∷ []

-- What is known of each row: the row that has it as a child; how deep it lies; the unit, the innermost function and the
-- class's methods that it lies in, or 0. Here a method lies in its class alone: the function is otherwise `function_of`.
pub record Tables : Type 0 where
  pub parents : List ℕ
  pub depths : List ℕ
  pub units : List ℕ
  pub functions : List ℕ
  pub classes : List ℕ

-- an entry of a table
abbrev pub at : List ℕ → ℕ → ℕ
at t r = get_or t r 0

-- the depth of row r, where `up` is the table of parents and t that of depths: row 0 has depth 0, a child list is one deeper
abbrev pub depth_entry : List ℕ → List ℕ → ℕ → ℕ
depth_entry up t r = when eqb r 0 then 0 else suc (at t (at up r))

-- the tables by the table of parents; entry r of each is made of the entry at the parent of r
module _ (s : Sheet) (up : List ℕ) where
  abbrev pub unit_entry : List ℕ → ℕ → ℕ
  unit_entry t r = when is s UNIT r then r else at t (at up r)

  abbrev pub function_entry : List ℕ → ℕ → ℕ
  function_entry t r = when is s FUNCTION (at up r) then at up r else at t (at up r)

  abbrev pub class_entry : List ℕ → ℕ → ℕ
  class_entry t r = when is s FUNCTION r && is s CLASS (at up r) then at up r else at t (at up r)

  abbrev pub tables_by : Tables
  tables_by =
      record {
        parents = up;
        depths = table (depth_entry up) (rows s);
        units = table unit_entry (rows s);
        functions = table function_entry (rows s);
        classes = table class_entry (rows s);
      }

abbrev pub parent_table : Sheet → List ℕ
parent_table s = map (holder s) (from 0 (rows s))

abbrev pub tables : Sheet → Tables
tables s = tables_by s (parent_table s)

-- all links of the sheet, 0 where there is none
abbrev pub links : Sheet → List ℕ
links s = concat_map (λ r. next s r ∷ child s r ∷ []) (from 0 (rows s))

-- row 0 is the header: kind 0, next 0
abbrev pub header_first : Sheet → Bool
header_first s = is s HEADER 0 && eqb (next s 0) 0

-- its main function is a unit's
abbrev pub main_marked : Sheet → Bool
main_marked s = eqb (b s 0) 0 || eqb (b s (b s 0)) 1

-- a link is 0 or goes to a higher row
abbrev pub link_rises : Sheet → ℕ → ℕ → Bool
link_rises s r l = eqb l 0 || (ltb r l && ltb l (rows s))

abbrev pub links_rise : Sheet → ℕ → Bool
links_rise s r = link_rises s r (next s r) && link_rises s r (child s r)

-- every row but 0 is linked exactly once
abbrev pub linked_once : List ℕ → ℕ → Bool
linked_once ls r = eqb r 0 || eqb (count (eqb r) ls) 1

-- no children but those said, in their order
abbrev pub children_fit : Sheet → ℕ → Bool
children_fit s r = fits (shape_of (kind s r)).children (map (kind s) (kids s r))

-- names and rows in a or b exist and are of the kind said; other columns are unread or zero; n is the last name
abbrev pub columns_fit : Sheet → ℕ → ℕ → Bool
columns_fit s n r = holds s n (shape_of (kind s r)).a (a s r) && holds s n (shape_of (kind s r)).b (b s r)

-- files are below 262,144
abbrev pub file_fits : Sheet → ℕ → Bool
file_fits s r = ltb (file s r) 262144

-- the value of a constant is no literal
abbrev pub constant_fits : Sheet → ℕ → Bool
constant_fits s r = is s LET r && leb 2 (b s r) ⇒ not (is s LITERAL (child s r))

-- the names of the children of kind k are unlike
abbrev pub names_apart : Sheet → ℕ → ℕ → Bool
names_apart s k r = unlike eqb (map (a s) (kids_of s k r))

-- in one unit no two classes, no two function exports and no two constant exports share a name
abbrev pub unit_apart : Sheet → ℕ → Bool
unit_apart s r = is s UNIT r ⇒ names_apart s CLASS r && names_apart s FUNCTION_EXPORT r && names_apart s CONSTANT_EXPORT r

-- nor two fields or two methods of a class
abbrev pub class_apart : Sheet → ℕ → Bool
class_apart s r = is s CLASS r ⇒ names_apart s FIELD r && names_apart s FUNCTION r

-- one class declaration for each class
abbrev pub declared_once : Sheet → ℕ → Bool
declared_once s r = is s CLASS r ⇒ eqb (count (λ d. is s CLASS_DECLARATION d && eqb (a s d) r) (from 0 (rows s))) 1

-- what the tables say of row r
abbrev pub parent : Tables → ℕ → ℕ
parent t r = at t.parents r

abbrev pub unit : Tables → ℕ → ℕ
unit t r = at t.units r

abbrev pub function : Tables → ℕ → ℕ
function t r = at t.functions r

abbrev pub class : Tables → ℕ → ℕ
class t r = at t.classes r

module _ (s : Sheet) (t : Tables) where
  -- is row r a unit's function? a method?
  abbrev pub of_unit : ℕ → Bool
  of_unit r = is s FUNCTION r && is s UNIT (parent t r)

  abbrev pub of_class : ℕ → Bool
  of_class r = is s FUNCTION r && is s CLASS (parent t r)

  -- b 1 stands at a unit's function and at no other
  abbrev pub unit_marked : ℕ → Bool
  unit_marked r = is s FUNCTION r ⇒ eqb (b s r) (bit (of_unit r))

  -- a unit function has no parameters and a block body
  abbrev pub unit_body : ℕ → Bool
  unit_body r = of_unit r ⇒ fits (one (only 25) ∷ []) (map (kind s) (kids s r))

  -- a method has a name
  abbrev pub method_named : ℕ → Bool
  method_named r = of_class r ⇒ not (eqb (a s r) 0)

  -- a literal's class is of its own unit
  abbrev pub literal_class : ℕ → Bool
  literal_class r = is s LITERAL r && not (eqb (a s r) 0) ⇒ eqb (unit t (a s r)) (unit t r)

  -- a class declaration stands in its own unit's function, and in no literal or method: its innermost function is the unit's
  abbrev pub declared_in_unit : ℕ → Bool
  declared_in_unit r = is s CLASS_DECLARATION r ⇒ eqb (parent t (function t r)) (parent t (a s r))

  -- after all rows of its methods
  abbrev pub declared_after : ℕ → Bool
  declared_after r = is s CLASS_DECLARATION r ⇒ all (λ m. eqb (class t m) (a s r) ⇒ ltb m r) (from 0 (rows s))

-- what is asked of row r, with the tables t, all links ls and the last name n
abbrev pub row_clauses : Sheet → Tables → List ℕ → ℕ → ℕ → List Bool
row_clauses s t ls n r =
    links_rise s r ∷ linked_once ls r
    ∷ children_fit s r ∷ columns_fit s n r ∷ file_fits s r ∷ constant_fits s r
    ∷ unit_apart s r ∷ class_apart s r
    ∷ unit_marked s t r ∷ unit_body s t r ∷ method_named s t r ∷ literal_class s t r
    ∷ declared_once s r ∷ declared_in_unit s t r ∷ declared_after s t r ∷ []

-- question 3, where n is the last name
abbrev pub sheet_fits : ℕ → Sheet → Bool
sheet_fits n s =
    let t : Tables = tables s in
    let ls : List ℕ = links s in
    header_first s && main_marked s && all (λ r. every (row_clauses s t ls n r)) (from 0 (rows s))

-- question 4
abbrev pub depths_fit : Sheet → Bool
depths_fit s = all (λ d. leb d 64) (tables s).depths
