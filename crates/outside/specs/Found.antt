-- What is found in the lent words of an outside.
use Rattle.std.specs.Prelude.{◌≡◌, List, [], map, ℕ, Option, None, Some, eqb}
use Rattle.std.specs.Option.{is_some}
use Rattle.definition.specs.Basics.{when◌then◌else◌}
use Rattle.definition.specs.Sheet.{word}
use Rattle.definition.specs.Outside.{Outside, Method as Held, is_recorded, record_of}
use Rattle.definition.specs.Classes.{method_of}
use Rattle.outside.specs.Words.{spaced_at, methods_at, over}
use Rattle.outside.specs.declared.records.Recorded.{Recorded}
use Rattle.outside.specs.declared.records.Method.{Method}

-- what the row i of a record tells
abbrev pub row_record : List ℕ → ℕ → Recorded
row_record w i =
    record { name = word w i 1; field = word w i 2; fields = word w i 3; method = word w i 4; methods = word w i 5 }

-- what x tells of a class: whether it has a record, its name, its fields and methods
abbrev pub named_in : Option Recorded → ℕ
named_in None = 0
named_in (Some x) = x.name

abbrev pub fields_in : List ℕ → Option Recorded → List ℕ
fields_in w None = []
fields_in w (Some x) = spaced_at w 1 x.field x.fields

abbrev pub methods_in : List ℕ → Option Recorded → List Held
methods_in w None = []
methods_in w (Some x) = methods_at w x.method x.methods

-- x tells the record of class c, if it has one.
pub record Records (w : List ℕ) (c : ℕ) (x : Option Recorded) : Type 0 where
  pub recorded : is_some x ≡ is_recorded (over w) c
  pub named : named_in x ≡ (record_of (over w) c).name
  pub fields_are : fields_in w x ≡ (record_of (over w) c).fields
  pub methods_are : methods_in w x ≡ (record_of (over w) c).methods

-- x tells the method of name n in a list: its function and parameters, or 0 and 0.
pub record Tells (n : ℕ) (ms : List Held) (x : Method) : Type 0 where
  pub fun_is : x.fun.0 ≡ (method_of n ms).fun
  pub params_are : x.params ≡ (method_of n ms).params

-- the names of a class from outside that are told by rows of kind j: 10 fields, 6 methods
abbrev pub recorded_names : Outside → ℕ → ℕ → List ℕ
recorded_names O j c = when eqb j 10 then (record_of O c).fields else map (λ m. m.name) (record_of O c).methods
