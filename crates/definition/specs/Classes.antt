-- Classes: parents, fields and methods, their own and after inheritance.
use Rattle.std.specs.Prelude.{Bool, not, ◌&&◌, ◌||◌, List, [], ◌++◌, map, ℕ, zero, suc, ◌+◌, ◌-◌, length, eqb, leb}
use Rattle.definition.specs.Basics.{when◌then◌else◌, filter, any, first, final, distinct, largest, from, ◌∈?◌}
use Rattle.definition.specs.Kind.{CLASS, FUNCTION, FIELD, PARAMETER, ASSIGN, CLASS_DECLARATION, LITERAL, MEMBER}
use Rattle.definition.specs.Sheet.{Sheet, child, a, b, rows, is, kids_of, holder}
use Rattle.definition.specs.Meaning.{class_number}
use Rattle.definition.specs.Outside.{Outside, Method, is_recorded, record_of}
use Rattle.definition.specs.Scope.{Moment, lookup, visited, visits, within}

-- is it a class of the sheet? They are numbered 256 + row
abbrev pub of_sheet : Sheet → ℕ → Bool
of_sheet s c = leb 256 c && is s CLASS (c - 256)

-- has a class a record? Those of the sheet have, and some from outside
abbrev pub has_record : Outside → Sheet → ℕ → Bool
has_record O s c = of_sheet s c || is_recorded O c

-- is a parent a class without a record?
abbrev pub lacks_record : Outside → Sheet → ℕ → Bool
lacks_record O s c = not (eqb c 0) && not (has_record O s c)

-- the name of a class that has a record
abbrev pub class_name : Outside → Sheet → ℕ → ℕ
class_name O s c = when of_sheet s c then a s (c - 256) else (record_of O c).name

-- how many parameters a function of the sheet has
abbrev pub arity : Sheet → ℕ → ℕ
arity s f = length (kids_of s PARAMETER f)

-- the method of function row f
abbrev pub method_at : Sheet → ℕ → Method
method_at s f = record { name = a s f; fun = f; params = arity s f }

-- the own methods of a class
abbrev pub own_methods : Outside → Sheet → ℕ → List Method
own_methods O s c = when of_sheet s c then map (method_at s) (kids_of s FUNCTION (c - 256)) else (record_of O c).methods

-- no method: one of no function
abbrev pub no_method : Method
no_method = record { name = 0; fun = 0; params = 0 }

-- the method of a name in a list, or none
abbrev pub method_of : ℕ → List Method → Method
method_of n ms = first (λ m. eqb m.name n) no_method ms

-- the function of the method of a name in a list, or 0
abbrev pub method_named : ℕ → List Method → ℕ
method_named n ms = (method_of n ms).fun

-- the class row of a method or of a literal's function, or 0
abbrev pub class_of : Sheet → ℕ → ℕ
class_of s f = when is s CLASS (holder s f) then holder s f else when is s LITERAL (holder s f) then a s (holder s f) else 0

-- the parent's fields, then the others
abbrev pub merge_fields : List ℕ → List ℕ → List ℕ
merge_fields up own = up ++ filter (λ n. not (n ∈? up)) own

-- the parent's methods, own ones replacing in place, then the new ones
abbrev pub merge_methods : List Method → List Method → List Method
merge_methods up own =
    map (λ m. first (λ o. eqb o.name m.name) m own) up
    ++ filter (λ o. not (any (λ m. eqb m.name o.name) up)) own

-- what class c has after inheritance: its own, merged into what its parent so has; n bounds the climb
abbrev pub inheriting : {A : Type 0} → (List A → List A → List A) → (ℕ → ℕ) → (ℕ → List A) → ℕ → ℕ → List A
inheriting merge parent own zero c = []
inheriting merge parent own (suc n) c =
    let up = inheriting merge parent own n (parent c) in when eqb (parent c) 0 then own c else merge up (own c)

-- is class c a parent, where `parent` gives that of the class of a row?
abbrev pub is_parent : Sheet → (ℕ → ℕ) → ℕ → Bool
is_parent s parent c = any (λ r. is s CLASS r && eqb (parent r) c) (from 0 (rows s))

module _ (s : Sheet) (h : List Moment) where
  -- the fields that assignments to members register in the class of row c, in the walk's order
  abbrev pub registered : ℕ → List ℕ
  registered c =
      map (λ m. a s (child s (visited m.event)))
      (filter (λ m. is s MEMBER (child s (visited m.event)) && eqb (class_of s (within s m)) c) (visits s h ASSIGN))

  -- the parent of a class, or 0: what the parent's name means at the class declaration
  abbrev pub parent_of : ℕ → ℕ
  parent_of c =
      when of_sheet s c
      then largest (final (map (λ m. class_number (lookup (b s (c - 256)) m.stack)) (filter (λ m. eqb (a s (visited m.event)) (c - 256)) (visits s h CLASS_DECLARATION))))
      else 0

  -- is a class the parent of some class of the sheet?
  abbrev pub has_children : ℕ → Bool
  has_children c = is_parent s (λ r. parent_of (256 + r)) c

module _ (O : Outside) (s : Sheet) (h : List Moment) where
  -- the own fields of a class, by slot
  abbrev pub own_fields : ℕ → List ℕ
  own_fields c =
      when of_sheet s c then distinct eqb (map (a s) (kids_of s FIELD (c - 256)) ++ registered s h (c - 256)) else (record_of O c).fields

  -- the fields of a class after inheritance, by slot; n bounds the climb
  abbrev pub fields : ℕ → ℕ → List ℕ
  fields n c = inheriting merge_fields (parent_of s h) own_fields n c

  -- the methods of a class after inheritance; n bounds the climb
  abbrev pub methods : ℕ → ℕ → List Method
  methods n c = inheriting merge_methods (parent_of s h) (own_methods O s) n c
