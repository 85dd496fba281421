-- What follows the walk, read off the sheet and off what the walk stored: parents, fields, methods, and the questions 18 to 21.
use Rattle.std.specs.Prelude.{Bool, List, [], ◌++◌, map, ℕ, suc, ◌+◌, ◌-◌, ◌*◌}
use Rattle.definition.specs.Basics.{when◌then◌else◌}
use Rattle.definition.specs.Sheet.{Sheet, rows}
use Rattle.definition.specs.Outside.{Outside, Method, record_of}
use Rattle.definition.specs.Classes.{of_sheet, own_methods, merge_fields, merge_methods, inheriting, is_parent}
use Rattle.definition.specs.Question.{Refusal, first_no, ask_climb, first_of_classes, ask_init}
use Rattle.machine.specs.Machine.{Store, Node, cell, list_at, chain_to}
use Rattle.machine.specs.Reads.{listed_fields}

-- the parent of class c as stored, or 0
unfoldable pub parent_in : Sheet → Store → ℕ → ℕ
parent_in s o c = when of_sheet s c then cell o.table (c - 256) 1 else 0

-- the questions 18 and 19 on class c and then on its ancestors; `met` are the classes climbed through, n bounds the climb
unfoldable pub climb_in : Outside → Sheet → Store → ℕ → List ℕ → ℕ → Refusal
climb_in O s o n met c = ask_climb O s (parent_in s o) n met c

-- the first no of the questions 18 and 19, classes in row order
abbrev pub classes_refusal : Outside → Sheet → Store → Refusal
classes_refusal O s o = first_of_classes s (climb_in O s o (suc (rows s)) [])

-- the methods of class c after inheritance; n bounds the climb
unfoldable pub methods_in : Outside → Sheet → Store → ℕ → ℕ → List Method
methods_in O s o n c = inheriting merge_methods (parent_in s o) (own_methods O s) n c

-- the names of these methods, in their order
unfoldable pub method_names_in : Outside → Sheet → Store → ℕ → ℕ → List ℕ
method_names_in O s o n c = inheriting merge_fields (parent_in s o) (λ d. map (λ m. m.name) (own_methods O s d)) n c

-- the own fields of class c, by slot: the listed, then the stored; of a class from outside those of its record
unfoldable pub own_fields_in : Outside → Sheet → Store → ℕ → List ℕ
own_fields_in O s o c = when of_sheet s c then listed_fields s (c - 256) ++ map (λ y. y.key) (list_at o (8 * (c - 256) + 7)) else (record_of O c).fields

-- the fields of class c after inheritance, by slot; n bounds the climb
unfoldable pub fields_in : Outside → Sheet → Store → ℕ → ℕ → List ℕ
fields_in O s o n c = inheriting merge_fields (parent_in s o) (own_fields_in O s o) n c

-- is class c the stored parent of some class of the sheet?
unfoldable pub has_children_in : Sheet → Store → ℕ → Bool
has_children_in s o c = is_parent s (λ r. cell o.table r 1) c

-- the questions 20 and 21 on a stored constructor call
abbrev pub check_call_in : Outside → Sheet → Store → Node → Refusal
check_call_in O s o y = ask_init O s (methods_in O s o (rows s) y.one) y.key y.one

-- the first no of the questions 20 and 21, calls in the walk's order
abbrev pub calls_refusal : Outside → Sheet → Store → Refusal
calls_refusal O s o = first_no (map (check_call_in O s o) (chain_to o.nodes o.calls))
