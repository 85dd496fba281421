-- What stands outside a sheet: the names of the outermost scope, the classes that have a record there, and a base.
--
-- Numbers. A function's number in answer rows is its row + base, a class's 256 + its row + base; a plain sheet has base 0. Within the walk,
-- that is in names, scopes, records and all definitions up to the answer rows, the base does not count: a function of the sheet is
-- its row, a class of it 256 + its row. What an earlier entry of a session declared has numbers too, and must not be taken for a
-- row of this sheet. So names and records here tell its functions and classes 2,048 higher than their numbers: past all rows, since
-- a sheet has at most 2,048. Where answer rows are made (`raised` in Answer) the sheet's own numbers gain the base, and those of earlier
-- entries lose the 2,048 again. The core's classes 3 to 102 are below 256 and stay as they are.
use Rattle.std.specs.Prelude.{Bool, true, false, List, [], ◌∷◌, map, ℕ, ◌≤◌, length, eqb, leb, T}
use Rattle.definition.specs.Basics.{any, all, unlike, first, from}
use Rattle.definition.specs.Meaning.{Meaning, Named, named, nothing, function, class, global, toplevel, variable}

-- A method: its name, its function, and how many parameters that has.
pub record Method : Type 0 where
  pub name : ℕ
  pub fun : ℕ
  pub params : ℕ

-- A class record: the class's number and name, its fields by slot, its methods.
pub record ClassRecord : Type 0 where
  pub number : ℕ
  pub name : ℕ
  pub fields : List ℕ
  pub methods : List Method

-- What stands outside a sheet: names with what they mean, records, and how far numbers of the sheet are raised in answer rows.
pub record Outside : Type 0 where
  pub names : List Named
  pub records : List ClassRecord
  pub base : ℕ

-- Outside a plain sheet: names 1 to 9 are classes 3, 4, 5, 7, 8, 9, 100, 101, 102; class 100 has fields 10 to 18 in order, 101 has 19, 20,
-- 21, and 102 has 21, 19; none has methods; numbers are not raised
abbrev pub core : Outside
core =
    record {
      names =
          named 1 (class 3) ∷ named 2 (class 4) ∷ named 3 (class 5) ∷ named 4 (class 7) ∷ named 5 (class 8) ∷ named 6 (class 9)
          ∷ named 7 (class 100) ∷ named 8 (class 101) ∷ named 9 (class 102) ∷ [];
      records =
          record { number = 100; name = 7; fields = from 10 9; methods = [] }
          ∷ record { number = 101; name = 8; fields = 19 ∷ 20 ∷ 21 ∷ []; methods = [] }
          ∷ record { number = 102; name = 9; fields = 21 ∷ 19 ∷ []; methods = [] }
          ∷ [];
      base = 0;
    }

-- the same with another base
abbrev pub based : Outside → ℕ → Outside
based O n = record { names = O.names; records = O.records; base = n }

-- has class c a record outside the sheet? Of the core's, 3 to 9 have none
abbrev pub is_recorded : Outside → ℕ → Bool
is_recorded O c = any (λ x. eqb x.number c) O.records

-- no record: an empty one
abbrev pub no_record : ClassRecord
no_record = record { number = 0; name = 0; fields = []; methods = [] }

-- the record of class c outside the sheet, or none
abbrev pub record_of : Outside → ℕ → ClassRecord
record_of O c = first (λ x. eqb x.number c) no_record O.records

-- may a name from outside mean this? A function, a class or a global known before the walk
abbrev pub is_outward : Meaning → Bool
is_outward nothing = false
is_outward (function f) = true
is_outward (class c) = true
is_outward (global g m) = true
is_outward (toplevel r) = false
is_outward (variable r f) = false

-- What every outside satisfies:
pub record OutsideFits (O : Outside) : Type 0 where
  -- its names mean functions, classes and globals,
  pub outward : T (all (λ x. is_outward x.means) O.names)
  -- no two are the same, and they are at most 9 and those of 4,096 declarations
  pub apart : T (unlike (λ x y. eqb y.name x.name) O.names)
  pub few : length O.names ≤ 4105
  -- and a class from outside has at most 8,192 fields and 8,192 methods, no two methods of one name.
  pub few_fields : T (all (λ x. leb (length x.fields) 8192) O.records)
  pub few_methods : T (all (λ x. leb (length x.methods) 8192) O.records)
  pub methods_apart : T (all (λ x. unlike eqb (map (λ m. m.name) x.methods)) O.records)
