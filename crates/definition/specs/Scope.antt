-- Scopes: which declarations are open at each moment of the walk, and what a name then means. Names and scopes alone: no
-- slots, no numbers of globals, no captures.
use Rattle.std.specs.Prelude.{Bool, true, false, not, ◌&&◌, ◌||◌, List, [], ◌∷◌, map, ℕ, ◌+◌, ◌-◌, eqb, leb}
use Rattle.definition.specs.Basics.{when◌then◌else◌, filter, final, head}
use Rattle.definition.specs.Kind.{CLASS, FUNCTION, LET}
use Rattle.definition.specs.Sheet.{Sheet, child, a, b, is}
use Rattle.definition.specs.Meaning.{Meaning, nothing, function, class, global, toplevel, variable}
use Rattle.definition.specs.Outside.{Outside}
use Rattle.definition.specs.Walk.{Event, enter, leave, loop, declare, bring, visit, literal_let, walk}

-- What is open, innermost first: the scopes by their rows, loops, and the names declared in them.
pub data Entry : Type 0 where
  scope : ℕ → Entry
  looping : Entry
  bound : ℕ → Meaning → Entry

abbrev pub Stack : Type 0
Stack = List Entry

-- the stack from the innermost declaration of a name on, or none of it
abbrev pub find : ℕ → Stack → Stack
find n [] = []
find n (scope r ∷ st) = find n st
find n (looping ∷ st) = find n st
find n (bound m d ∷ st) = when eqb m n then bound m d ∷ st else find n st

-- what is declared at the top of a stack
abbrev pub top : Stack → Meaning
top [] = nothing
top (scope r ∷ st) = nothing
top (looping ∷ st) = nothing
top (bound m d ∷ st) = d

-- what a name means: the innermost open declaration of it
abbrev pub lookup : ℕ → Stack → Meaning
lookup n st = top (find n st)

-- is a name declared in the innermost scope?
abbrev pub taken : ℕ → Stack → Bool
taken n [] = false
taken n (scope r ∷ st) = false
taken n (looping ∷ st) = taken n st
taken n (bound m d ∷ st) = eqb m n || taken n st

-- the functions around, innermost first
abbrev pub around : Sheet → Stack → List ℕ
around s [] = []
around s (scope r ∷ st) = when is s FUNCTION r then r ∷ around s st else around s st
around s (looping ∷ st) = around s st
around s (bound m d ∷ st) = around s st

-- the innermost function
abbrev pub inside : Sheet → Stack → ℕ
inside s st = head (around s st)

-- is there a loop around in the innermost function?
abbrev pub in_loop : Sheet → Stack → Bool
in_loop s [] = false
in_loop s (scope r ∷ st) = when is s FUNCTION r then false else in_loop s st
in_loop s (looping ∷ st) = true
in_loop s (bound m d ∷ st) = in_loop s st

-- the stack without its innermost scope
abbrev pub closed : Stack → Stack
closed [] = []
closed (scope r ∷ st) = st
closed (looping ∷ st) = closed st
closed (bound m d ∷ st) = closed st

-- is let r, in function f, a global of its own? In a unit function it is, but for a constant, which has its global, and a
-- hoisted immutable literal, which is the function itself
abbrev pub new_global : Sheet → ℕ → ℕ → Bool
new_global s r f = is s LET r && leb (b s r) 1 && eqb (b s f) 1 && not (literal_let s r && eqb (b s r) 0)

-- what a class, parameter or let row declares in function f
abbrev pub declared : Sheet → ℕ → ℕ → Meaning
declared s r f =
    when is s CLASS r then class (256 + r)
    else when is s LET r && leb 2 (b s r) then global (b s r - 2) 0
    else when new_global s r f then toplevel r
    else when is s LET r && eqb (b s f) 1 then function (child s (child s r))
    else variable r f

-- the stack after an event
abbrev pub step : Sheet → Stack → Event → Stack
step s st (enter r) = scope r ∷ st
step s st leave = closed st
step s st loop = looping ∷ st
step s st (declare r) = bound (a s r) (declared s r (inside s st)) ∷ st
step s st (bring r n d) = bound n d ∷ st
step s st (visit r) = st

-- the stack after a list of events
abbrev pub run : Sheet → Stack → List Event → Stack
run s st [] = st
run s st (e ∷ es) = run s (step s st e) es

-- An event of the walk, with the stack before it.
pub record Moment : Type 0 where
  pub event : Event
  pub stack : Stack

abbrev pub moments : Sheet → Stack → List Event → List Moment
moments s st [] = []
moments s st (e ∷ es) = record { event = e; stack = st } ∷ moments s (step s st e) es

-- the innermost function at a moment
abbrev pub within : Sheet → Moment → ℕ
within s m = inside s m.stack

-- the row that an event visits, or 0
abbrev pub visited : Event → ℕ
visited (enter r) = 0
visited leave = 0
visited loop = 0
visited (declare r) = 0
visited (bring r n d) = 0
visited (visit r) = r

-- the row that an event declares, or 0
abbrev pub declares : Event → ℕ
declares (enter r) = 0
declares leave = 0
declares loop = 0
declares (declare r) = r
declares (bring r n d) = 0
declares (visit r) = 0

-- what is declared at a moment
abbrev pub declaration : Sheet → Moment → Meaning
declaration s m = declared s (declares m.event) (within s m)

-- the stack before the walk: the outermost scope
abbrev pub start : Outside → Stack
start O = map (λ x. bound x.name x.means) O.names

-- the moments of the whole walk
abbrev pub history : Outside → Sheet → List Moment
history O s = moments s (start O) (walk s)

-- the moments at which rows of kind k are visited
abbrev pub visits : Sheet → List Moment → ℕ → List Moment
visits s h k = filter (λ m. is s k (visited m.event)) h

-- the moments at which rows of kind k declare
abbrev pub declarings : Sheet → List Moment → ℕ → List Moment
declarings s h k = filter (λ m. is s k (declares m.event)) h

-- the last moment at which row r is visited: in a sheet past question 3, the only one
abbrev pub visit_of : List Moment → ℕ → List Moment
visit_of h r = final (filter (λ m. eqb (visited m.event) r) h)

-- the last moment at which row r declares: in a sheet past question 3, the only one
abbrev pub declaring_of : List Moment → ℕ → List Moment
declaring_of h r = final (filter (λ m. eqb (declares m.event) r) h)
