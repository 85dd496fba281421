-- Where declarations live: indices of arguments, slots of locals, numbers of globals; the code and values of each.
use Rattle.std.specs.Prelude.{Bool, false, ◌&&◌, List, [], ◌∷◌, map, ℕ, suc, ◌+◌, length, eqb}
use Rattle.definition.specs.Basics.{when◌then◌else◌, filter, place, largest, bit}
use Rattle.definition.specs.Kind.{PARAMETER, LET}
use Rattle.definition.specs.Sheet.{Sheet, a, b, is, kids_of}
use Rattle.definition.specs.Meaning.{Meaning, nothing, function, class, global, toplevel, variable, is_variable, is_toplevel, row_of}
use Rattle.definition.specs.Scope.{Stack, Moment, scope, looping, bound, declares, declarings, declaration, within}

-- is it a local?
abbrev pub is_local : Sheet → Meaning → Bool
is_local s d = is_variable d && is s LET (row_of d)

-- may it be assigned to?
abbrev pub is_mutable : Sheet → Meaning → Bool
is_mutable s nothing = false
is_mutable s (function f) = false
is_mutable s (class c) = false
is_mutable s (global g m) = eqb m 1
is_mutable s (toplevel r) = eqb (b s r) 1
is_mutable s (variable r f) = is s LET r && eqb (b s r) 1

-- how many locals are open: the next slot, also across functions
abbrev pub open_locals : Sheet → Stack → ℕ
open_locals s [] = 0
open_locals s (scope r ∷ st) = open_locals s st
open_locals s (looping ∷ st) = open_locals s st
open_locals s (bound n d ∷ st) = when is_local s d then suc (open_locals s st) else open_locals s st

-- the slot of the declaration at the top of a stack: as many as locals were open before it
abbrev pub top_slot : Sheet → Stack → ℕ
top_slot s [] = 0
top_slot s (e ∷ st) = open_locals s st

module _ (s : Sheet) (h : List Moment) where
  -- the lets that declare globals of their own, in the walk's order
  abbrev pub global_lets : List ℕ
  global_lets = map (λ m. declares m.event) (filter (λ m. is_toplevel (declaration s m)) (declarings s h 29))

  -- the number of such a let: globals are numbered onward from the starting count
  abbrev pub global_of : ℕ → ℕ
  global_of r = a s 0 + place (eqb r) global_lets

  -- how many globals there are in the end
  abbrev pub final_globals : ℕ
  final_globals = a s 0 + length global_lets

  -- code and values of what a name means, seen from its own function; k is its slot if it is a local
  abbrev pub code : Meaning → ℕ → List ℕ
  code nothing k = 0 ∷ []
  code (function f) k = 1 ∷ f ∷ []
  code (class c) k = 2 ∷ c ∷ []
  code (global g m) k = 3 ∷ g ∷ 0 ∷ bit (eqb m 1) ∷ []
  code (toplevel r) k = 3 ∷ global_of r ∷ 0 ∷ bit (eqb (b s r) 1) ∷ []
  code (variable r f) k = when is s PARAMETER r then 4 ∷ place (eqb r) (kids_of s PARAMETER f) ∷ f ∷ [] else 5 ∷ k ∷ f ∷ bit (eqb (b s r) 1) ∷ []

  -- the local count of function f: its largest slot plus 1, or 0
  abbrev pub local_count : ℕ → ℕ
  local_count f =
      largest (map (λ m. suc (open_locals s m.stack))
      (filter (λ m. is_local s (declaration s m) && eqb (within s m) f) (declarings s h 29)))
