-- What stands outside a sheet as lent words, rows of eight: a layout of the program's own. Row 0 tells the row of the first class record and
-- the row after the last. The rows from 1 to the first record are names; the records follow; places in them, counted in words, lead to
-- fields and methods. Contracts of other crates speak of `over`, the outside that the words hold.
use Rattle.std.specs.Prelude.{List, [], ◌∷◌, map, ℕ, zero, suc, ◌+◌, ◌-◌, get_or, eqb}
use Rattle.definition.specs.Basics.{when◌then◌else◌, from}
use Rattle.definition.specs.Sheet.{word}
use Rattle.definition.specs.Meaning.{Meaning, Named, named, function, class, global}
use Rattle.definition.specs.Outside.{Outside, Method, ClassRecord}

-- what a name from outside means, by the code that answer rows have for it: function n, class n, or global n, mutable if m is 1
abbrev pub meaning_by : ℕ → ℕ → ℕ → Meaning
meaning_by code n m = when eqb code 1 then function n else when eqb code 2 then class n else global n m

-- a name's row: the name, the code of what it means, its number, whether it is mutable
unfoldable pub name_at : List ℕ → ℕ → Named
name_at w i = named (word w i 0) (meaning_by (word w i 1) (word w i 2) (word w i 3))

-- n words from place p on, every d-th
unfoldable pub spaced_at : List ℕ → ℕ → ℕ → ℕ → List ℕ
spaced_at w d p zero = []
spaced_at w d p (suc n) = get_or w p 0 ∷ spaced_at w d (p + d) n

-- the method at place p: three words, its name, its function, its parameters
abbrev pub method_in : List ℕ → ℕ → Method
method_in w p = record { name = get_or w p 0; fun = get_or w (p + 1) 0; params = get_or w (p + 2) 0 }

-- n methods from place p on
unfoldable pub methods_at : List ℕ → ℕ → ℕ → List Method
methods_at w p zero = []
methods_at w p (suc n) = method_in w p ∷ methods_at w (p + 3) n

-- a record's row: the class's number and name, the place of its first field and how many it has, the same of its methods
abbrev pub record_at : List ℕ → ℕ → ClassRecord
record_at w i =
    record { number = word w i 0; name = word w i 1; fields = spaced_at w 1 (word w i 2) (word w i 3); methods = methods_at w (word w i 4) (word w i 5) }

-- the outside that words hold, with the numbers of the walk: base 0
unfoldable pub over : List ℕ → Outside
over w =
    record {
      names = map (name_at w) (from 1 (word w 0 0 - 1));
      records = map (record_at w) (from (word w 0 0) (word w 0 1 - word w 0 0));
      base = 0;
    }
