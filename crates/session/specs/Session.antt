-- A session: what the accepted entries left, and what an entry sees of it.
use Rattle.std.specs.Prelude.{Bool, ◌&&◌, List, [], ◌∷◌, ◌++◌, map, ℕ, suc, ◌+◌, ◌*◌, length, eqb, leb, ltb}
use Rattle.definition.specs.Basics.{when◌then◌else◌, concat_map, distinct, total}
use Rattle.definition.specs.Names.{Name, fixed}
use Rattle.definition.specs.Meaning.{Meaning, Named, named, nothing, function, class, global, toplevel, variable}
use Rattle.definition.specs.Outside.{Outside, Method, ClassRecord, core}

-- A class of an entry, with what it has after inheritance: its number and name, its parent's number or 0, its fields by slot, its methods.
pub record Class : Type 0 where
  pub number : ℕ
  pub name : ℕ
  pub parent : ℕ
  pub fields : List ℕ
  pub methods : List Method

-- An accepted entry: the names that were new in its list, its declarations laid over the visible names, in order, and its classes. Functions and
-- classes have the numbers of answer rows.
pub record Accepted : Type 0 where
  pub names : List Name
  pub laid : List Named
  pub classes : List Class

-- A session: its global count, and the accepted entries, the earliest first.
pub record Session : Type 0 where
  pub globals : ℕ
  pub entries : List Accepted

-- the fresh session
abbrev pub fresh : Session
fresh = record { globals = 0; entries = [] }

-- the session's names by number from 1 on: the fixed ones, then those of the entries
abbrev pub all_names : Session → List Name
all_names S = fixed ++ concat_map (λ e. e.names) S.entries

-- all declarations laid over, in order
abbrev pub all_laid : Session → List Named
all_laid S = concat_map (λ e. e.laid) S.entries

-- all classes of entries
abbrev pub all_classes : Session → List Class
all_classes S = concat_map (λ e. e.classes) S.entries

-- how far the next entry raises the numbers of its functions and classes: 2,048 × its number, from 0
abbrev pub base_of : Session → ℕ
base_of S = 2048 * length S.entries

module _ {A : Type 0} where
  -- a list in the other order
  abbrev pub backward : List A → List A
  backward [] = []
  backward (x ∷ xs) = backward xs ++ x ∷ []

-- the visible names: the declarations laid over, the latest first, and the nine core names under them; an earlier one of a name does not count
abbrev pub visible : Session → List Named
visible S = distinct (λ x y. eqb x.name y.name) (backward (all_laid S) ++ core.names)

-- how many different names are visible, all counted (request F-8 of document 02): a redeclared name, or a core name laid over, counts once
abbrev pub names_shown : Session → ℕ
names_shown S = length (visible S)

-- the number of an earlier function or class in a walk: past all rows of the entry's sheet (Outside)
abbrev pub past_rows : ℕ → ℕ
past_rows n = n + 2048

-- what an earlier declaration means in an entry's walk; the core's classes keep their numbers
abbrev pub earlier : Meaning → Meaning
earlier nothing = nothing
earlier (function f) = function (past_rows f)
earlier (class c) = class (when ltb c 256 then c else past_rows c)
earlier (global g m) = global g m
earlier (toplevel r) = nothing
earlier (variable r f) = nothing

-- the record of an earlier class, already merged
abbrev pub earlier_record : Class → ClassRecord
earlier_record c =
    record {
      number = past_rows c.number;
      name = c.name;
      fields = c.fields;
      methods = map (λ m. record { name = m.name; fun = past_rows m.fun; params = m.params }) c.methods;
    }

-- what stands outside the next entry's sheet
abbrev pub outside_of : Session → Outside
outside_of S =
    record {
      names = map (λ x. named x.name (earlier x.means)) (visible S);
      records = map earlier_record (all_classes S) ++ core.records;
      base = base_of S;
    }

-- the fields and methods of a class
abbrev pub member_count : Class → ℕ
member_count c = length c.fields + length c.methods

-- question 24: at most 1,024 names, 32,768 name bytes with ends, 4,096 declarations laid over, 1,024 classes, 8,192 fields and methods of merged
-- classes, 1,000 entries
abbrev pub within : Session → Bool
within S =
    leb (total (λ e. length e.names) S.entries) 1024 && leb (total (λ e. total (λ n. suc (length n)) e.names) S.entries) 32768
    && leb (length (all_laid S)) 4096 && leb (length (all_classes S)) 1024 && leb (total member_count (all_classes S)) 8192
    && leb (length S.entries) 1000
