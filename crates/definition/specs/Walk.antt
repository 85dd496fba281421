-- The walk over a sheet, as the list of what happens in it, in order.
use Rattle.std.specs.Prelude.{Bool, ◌&&◌, ◌||◌, List, [], ◌∷◌, ◌++◌, map, ℕ, zero, suc, ◌+◌, eqb, leb}
use Rattle.definition.specs.Basics.{when◌then◌else◌, filter, first, concat_map}
use Rattle.definition.specs.Kind.{UNIT, IMPORT, CLASS, FUNCTION, FUNCTION_EXPORT, CONSTANT_EXPORT, PARAMETER}
use Rattle.definition.specs.Kind.{ASSIGN, BREAK, CONTINUE, BLOCK, FOR, LET, CLASS_DECLARATION, IDENTIFIER}
use Rattle.definition.specs.Kind.{HOST_CONSTANT, LITERAL, INSTANCEOF, CALL}
use Rattle.definition.specs.Sheet.{Sheet, kind, child, a, b, rows, kids, is, kids_of}
use Rattle.definition.specs.Meaning.{Meaning, Named, named, nothing, function, class, global}

-- What can happen.
pub data Event : Type 0 where
  enter : ℕ → Event  -- the scope of a row opens
  leave : Event  -- the innermost scope closes
  loop : Event  -- the rest of the innermost scope is in a loop
  declare : ℕ → Event  -- a class, parameter or let declares its name
  bring : ℕ → ℕ → Meaning → Event  -- an import (a row) declares a name as something
  visit : ℕ → Event  -- a row's names are looked up and its questions asked

-- what a unit exports: functions, classes, constants
abbrev pub exports : Sheet → ℕ → List Named
exports s u =
    map (λ r. named (a s r) (function (b s r))) (kids_of s FUNCTION_EXPORT u)
    ++ map (λ r. named (a s r) (class (256 + r))) (kids_of s CLASS u)
    ++ map (λ r. named (a s r) (global (b s r) 0)) (kids_of s CONSTANT_EXPORT u)

-- what unit u sees of the unit that import i names: nothing of itself
abbrev pub seen : Sheet → ℕ → ℕ → List Named
seen s u i = when eqb (a s i) u then [] else exports s (a s i)

-- an import: all that is seen, if it says so; then each listed name, looked for in the order of the exports
abbrev pub imports : Sheet → ℕ → ℕ → List Event
imports s u i =
    (when eqb (b s i) 1 then map (λ x. bring i x.name x.means) (seen s u i) else [])
    ++ map (λ k. bring i (a s k) (first (λ x. eqb x.name (a s k)) (named 0 nothing) (seen s u i)).means) (kids s i)

-- is row r a let whose value is a function literal?
abbrev pub literal_let : Sheet → ℕ → Bool
literal_let s r = is s LET r && is s LITERAL (child s r)

-- what happens before the parts of row r: a unit declares imports and classes, a function its parameters, a block its
-- literal lets; a class declaration asks for its parent
abbrev pub before : Sheet → ℕ → List Event
before s r =
    when is s UNIT r then enter r ∷ concat_map (imports s r) (kids_of s IMPORT r) ++ map declare (kids_of s CLASS r)
    else when is s FUNCTION r then enter r ∷ map declare (kids_of s PARAMETER r)
    else when is s BLOCK r then enter r ∷ map declare (filter (literal_let s) (kids s r))
    else when is s FOR r then enter r ∷ []
    else when is s CLASS_DECLARATION r then visit r ∷ []
    else []

-- what happens after part i of row r: the checks on a call's callee; a `for` comes to its loop after init and test
abbrev pub after_part : Sheet → ℕ → ℕ → List Event
after_part s r i =
    when is s CALL r && eqb i 0 then visit r ∷ []
    else when is s FOR r && eqb i 1 then loop ∷ []
    else []

-- does row r open a scope: a unit, a function, a block, a `for`?
abbrev pub opens_scope : Sheet → ℕ → Bool
opens_scope s r = is s UNIT r || is s FUNCTION r || is s BLOCK r || is s FOR r

-- is row r asked about when its parts are walked, or its place noted: an assignment, a break or continue, an identifier, a host constant, a
-- function literal, an instanceof?
abbrev pub is_visited : Sheet → ℕ → Bool
is_visited s r =
    is s ASSIGN r || is s BREAK r || is s CONTINUE r || is s IDENTIFIER r || is s HOST_CONSTANT r || is s LITERAL r || is s INSTANCEOF r

-- what happens after the parts of row r: a scope closes; a let that was not declared first declares its name, if its value
-- is no literal; the other rows that ask something are visited
abbrev pub after : Sheet → ℕ → List Event
after s r =
    when opens_scope s r then leave ∷ []
    else when is s LET r then (when is s LITERAL (child s r) then [] else declare r ∷ [])
    else when is_visited s r then visit r ∷ []
    else []

-- is row k walked as a part: a unit, a function, a statement, an expression or a pair?
abbrev pub is_part : Sheet → ℕ → Bool
is_part s k = is s UNIT k || is s FUNCTION k || leb 20 (kind s k)

-- the rows that are walked as parts of row r: a class declaration's are the methods of its class
abbrev pub parts : Sheet → ℕ → List ℕ
parts s r = filter (is_part s) (kids s (when is s CLASS_DECLARATION r then a s r else r))

-- the parts ks of row r, from part i on, each walked by `walk`
abbrev pub each : (ℕ → List Event) → Sheet → ℕ → ℕ → List ℕ → List Event
each walk s r i [] = []
each walk s r i (k ∷ ks) = walk k ++ after_part s r i ++ each walk s r (suc i) ks

-- row r walked; d bounds the depth
abbrev pub trace : ℕ → Sheet → ℕ → List Event
trace zero s r = []
trace (suc d) s r = before s r ++ each (trace d s) s r 0 (parts s r) ++ after s r

-- the walk over the whole sheet: its units in row order
abbrev pub walk : Sheet → List Event
walk s = trace (rows s) s 0
