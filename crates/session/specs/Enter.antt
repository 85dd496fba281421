-- What comes of entering a sheet into a session, and the session after it.
use Rattle.std.specs.Prelude.{Bool, true, false, not, ◌&&◌, List, [], ◌∷◌, ◌++◌, map, ℕ, ◌+◌, length, eqb, leb}
use Rattle.definition.specs.Basics.{when◌then◌else◌, filter, final, concat_map, from, head, bit}
use Rattle.definition.specs.Kind.{IMPORT, CLASS, FUNCTION}
use Rattle.definition.specs.Names.{names_fit, name_count}
use Rattle.definition.specs.Sheet.{Sheet, child, a, b, rows, kids, is, kids_of}
use Rattle.definition.specs.Meaning.{Meaning, Named, named, nothing, function, class, global, toplevel, variable}
use Rattle.definition.specs.Outside.{Outside}
use Rattle.definition.specs.Walk.{Event, enter, leave, loop, declare, bring, visit}
use Rattle.definition.specs.Scope.{Stack, scope, looping, bound, history}
use Rattle.definition.specs.Slots.{global_of, final_globals}
use Rattle.definition.specs.Classes.{parent_of, fields, methods}
use Rattle.definition.specs.Question.{until_no}
use Rattle.definition.specs.Format.{sheet_fits, depths_fit}
use Rattle.definition.specs.Answer.{raised_function, raised_class}
use Rattle.definition.specs.Outcome.{Outcome, refused, rows_fit, asked}
use Rattle.session.specs.Session.{Class, Accepted, Session, outside_of, within}
use Rattle.session.specs.Entry.{new_names, to_entry, entry_sheet}

-- question 23 of an entry: is it one unit without imports, and does it start at the session's global count or above?
abbrev pub entry_fits : Session → Sheet → Bool
entry_fits S s = eqb (length (kids s 0)) 1 && eqb (length (kids_of s IMPORT (child s 0))) 0 && leb S.globals (a s 0)

-- the names declared in the innermost scope of a stack, in the order of declaration
abbrev pub scope_names : Stack → List Named
scope_names [] = []
scope_names (scope r ∷ st) = []
scope_names (looping ∷ st) = scope_names st
scope_names (bound n d ∷ st) = scope_names st ++ named n d ∷ []

-- the row of the innermost scope of a stack, or 0
abbrev pub scope_row : Stack → ℕ
scope_row [] = 0
scope_row (scope r ∷ st) = r
scope_row (looping ∷ st) = scope_row st
scope_row (bound n d ∷ st) = scope_row st

-- does a scope close?
abbrev pub is_leave : Event → Bool
is_leave (enter r) = false
is_leave leave = true
is_leave loop = false
is_leave (declare r) = false
is_leave (bring r n d) = false
is_leave (visit r) = false

module _ (O : Outside) (s : Sheet) where
  -- what the scope of row r holds when it closes, for the last time: in a sheet past question 3, the only one
  abbrev pub scope_of : ℕ → List Named
  scope_of r = concat_map (λ m. scope_names m.stack) (final (filter (λ m. is_leave m.event && eqb (scope_row m.stack) r) (history O s)))

  -- the unit's row, and that of its function's body
  abbrev pub unit_row : ℕ
  unit_row = child s 0

  abbrev pub body_row : ℕ
  body_row = child s (head (kids_of s FUNCTION unit_row))

  -- what a declaration of the entry means to later ones: functions and classes by their numbers, lets by their globals
  abbrev pub left : Meaning → Meaning
  left nothing = nothing
  left (function f) = function (raised_function O.base f)
  left (class c) = class (raised_class O.base c)
  left (global g m) = global g m
  left (toplevel r) = global (global_of s (history O s) r) (bit (eqb (b s r) 1))
  left (variable r f) = nothing

  -- its declarations laid over: the scope of imports and classes, then that of the body
  abbrev pub laid_by : List Named
  laid_by = map (λ x. named x.name (left x.means)) (scope_of unit_row ++ scope_of body_row)

  -- its class of row r, merged
  abbrev pub class_by : ℕ → Class
  class_by r =
      record {
        number = raised_class O.base (256 + r);
        name = a s r;
        parent = raised_class O.base (parent_of s (history O s) (256 + r));
        fields = fields O s (history O s) (rows s) (256 + r);
        methods =
            map (λ m. record { name = m.name; fun = raised_function O.base m.fun; params = m.params })
            (methods O s (history O s) (rows s) (256 + r));
      }

  -- its classes in row order
  abbrev pub classes_by : List Class
  classes_by = map class_by (filter (is s CLASS) (from 0 (rows s)))

  -- the walk's next global: where it stopped, or after all of it
  abbrev pub next_global : ℕ
  next_global = final_globals s (until_no O s (history O s))

-- what an accepted entry into session S leaves: a sheet s with its byte list ns of names
abbrev pub new_entry : Session → Sheet → List ℕ → Accepted
new_entry S s ns =
    record { names = new_names S ns; laid = laid_by (outside_of S) (entry_sheet S ns s); classes = classes_by (outside_of S) (entry_sheet S ns s) }

-- an outcome with another number for its name
abbrev pub renamed : (ℕ → ℕ) → Outcome → Outcome
renamed to x =
    record { number = x.number; file = x.file; line = x.line; column = x.column; name = to x.name; rows = x.rows; globals = x.globals }

-- An entry into session S, with a buffer of `lent` words.
module _ (S : Session) (s : Sheet) (ns : List ℕ) (lent : ℕ) where
  -- the session with the entry accepted, of which x came
  abbrev pub accepting : Outcome → Session
  accepting x = record { globals = x.globals; entries = S.entries ++ new_entry S s ns ∷ [] }

  -- questions 5 to 22 over what earlier entries left, then 24; a refusal carries the entry's own number of a name
  abbrev pub asked_in : Outcome
  asked_in =
      let x : Outcome = asked (outside_of S) lent (entry_sheet S ns s) in
      when not (eqb x.number 0) then renamed (to_entry S ns) x
      else when within (accepting x) then x
      else refused 24

  -- the outcome of an entry into a session past question 23: 1 to 4 of the entry by itself, 23 of it, then the rest
  abbrev pub entered : Outcome
  entered =
      when not (rows_fit s) then refused 1
      else when not (names_fit ns) then refused 2
      else when not (sheet_fits (name_count ns) s) then refused 3
      else when not (depths_fit s) then refused 4
      else when not (entry_fits S s) then refused 23
      else asked_in

  -- the session after it: an accepted entry is added; after 5 to 21 the global count is the walk's next one; else nothing changes
  abbrev pub after_entry : Session
  after_entry =
      when eqb entered.number 0 then accepting entered
      else when leb 5 entered.number && leb entered.number 21
      then record { globals = next_global (outside_of S) (entry_sheet S ns s); entries = S.entries }
      else S
