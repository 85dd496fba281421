-- The shape of a row by its kind: what its columns a and b hold, and the kinds of its children in their order.
use Rattle.std.specs.Prelude.{Bool, true, false, ◌&&◌, ◌||◌, List, [], ◌∷◌, ◌++◌, ℕ, ◌-◌, eqb, leb, ltb}
use Rattle.definition.specs.Basics.{when◌then◌else◌, first, from, ◌∈?◌}
use Rattle.definition.specs.Sheet.{Sheet, a, rows, is}

-- What a column holds.
pub data Column : Type 0 where
  unread : Column  -- anything
  up_to : ℕ → Column  -- a number up to a limit
  name : Column  -- a name's number
  row : ℕ → Column  -- a row of a kind
  global : Column  -- a global below the starting count
  mode : Column  -- a let's: 0 immutable, 1 mutable, 2 + g a constant at global g
  or_zero : Column → Column  -- that, or 0

-- does value v stand in such a column, where n is the last name?
abbrev pub holds : Sheet → ℕ → Column → ℕ → Bool
holds s n unread v = true
holds s n (up_to k) v = leb v k
holds s n name v = leb 1 v && leb v n
holds s n (row k) v = ltb v (rows s) && is s k v
holds s n global v = ltb v (a s 0)
holds s n mode v = leb v 1 || ltb (v - 2) (a s 0)
holds s n (or_zero c) v = eqb v 0 || holds s n c v

-- A part of a child list: one child, perhaps one, or any number of children of the given kinds.
pub data Part : Type 0 where
  one : List ℕ → Part
  perhaps : List ℕ → Part
  many : List ℕ → Part

-- a list that no children fit
abbrev pub never : List Part
never = one [] ∷ []

-- what may follow a child of kind k in a list of parts
abbrev pub rest : ℕ → List Part → List Part
rest k [] = never
rest k (one ks ∷ ps) = when k ∈? ks then ps else never
rest k (perhaps ks ∷ ps) = when k ∈? ks then ps else rest k ps
rest k (many ks ∷ ps) = when k ∈? ks then many ks ∷ ps else rest k ps

-- may a list end where these parts are left?
abbrev pub may_end : List Part → Bool
may_end [] = true
may_end (one ks ∷ ps) = false
may_end (perhaps ks ∷ ps) = may_end ps
may_end (many ks ∷ ps) = may_end ps

-- do children of these kinds fit a list of parts?
abbrev pub fits : List Part → List ℕ → Bool
fits ps [] = may_end ps
fits ps (k ∷ ks) = fits (rest k ps) ks

-- Kinds: the statements, the expressions, and one kind.
abbrev pub statement : List ℕ
statement = from 20 11

abbrev pub expression : List ℕ
expression = from 40 9 ++ from 50 10

abbrev pub only : ℕ → List ℕ
only k = k ∷ []

pub record Shape : Type 0 where
  pub of : ℕ  -- the kind
  pub a : Column
  pub b : Column
  pub children : List Part

abbrev pub shape : ℕ → Column → Column → List Part → Shape
shape k a b ps = record { of = k; a = a; b = b; children = ps }

-- zero
abbrev pub nought : Column
nought = up_to 0

-- every kind that there is
abbrev pub shapes : List Shape
shapes =
    -- the header: starting globals, main unit function; units
    shape 0 (up_to 1000000) (or_zero (row 6)) (many (only 2) ∷ [])
    -- a unit: imports, function exports, constant exports, classes, its function
    ∷ shape 2 nought nought (many (only 3) ∷ many (only 7) ∷ many (only 8) ∷ many (only 4) ∷ one (only 6) ∷ [])
    -- an import: its unit, 1 for all; the listed names
    ∷ shape 3 (row 2) (up_to 1) (many (only 9) ∷ [])
    ∷ shape 9 name nought []
    -- exports
    ∷ shape 7 name (row 6) []
    ∷ shape 8 name global []
    -- a class: its name, its parent's; fields, methods
    ∷ shape 4 name (or_zero name) (many (only 10) ∷ many (only 6) ∷ [])
    ∷ shape 10 name nought []
    -- a function: parameters, a body
    ∷ shape 6 (or_zero name) (up_to 1) (many (only 11) ∷ one statement ∷ [])
    ∷ shape 11 name nought []
    -- statements: expression, assign, return, break, continue, block, if, for, assert, let, class declaration
    ∷ shape 20 nought nought (one expression ∷ [])
    ∷ shape 21 nought nought (one expression ∷ one expression ∷ [])
    ∷ shape 22 nought nought (one expression ∷ [])
    ∷ shape 23 nought nought []
    ∷ shape 24 nought nought []
    ∷ shape 25 nought nought (many statement ∷ [])
    ∷ shape 26 nought nought (one expression ∷ one statement ∷ perhaps statement ∷ [])
    ∷ shape 27 nought nought (one statement ∷ one expression ∷ one statement ∷ one statement ∷ [])
    ∷ shape 28 nought nought (one expression ∷ [])
    ∷ shape 29 name mode (one expression ∷ [])
    ∷ shape 30 (row 4) nought []
    -- nil, true, false, integer, float, string, bytes, array, dict, pair
    ∷ shape 40 nought nought []
    ∷ shape 41 nought nought []
    ∷ shape 42 nought nought []
    ∷ shape 43 unread unread []
    ∷ shape 44 unread unread []
    ∷ shape 45 unread unread []
    ∷ shape 46 unread unread []
    ∷ shape 47 nought nought (many expression ∷ [])
    ∷ shape 48 nought nought (many (only 49) ∷ [])
    ∷ shape 49 unread unread (one expression ∷ [])
    -- identifier, host constant, function literal, index, member, instanceof, unary, binary, ternary, call
    ∷ shape 50 name nought []
    ∷ shape 51 name nought []
    ∷ shape 52 (or_zero (row 4)) nought (one (only 6) ∷ [])
    ∷ shape 53 nought nought (one expression ∷ one expression ∷ [])
    ∷ shape 54 name nought (one expression ∷ [])
    ∷ shape 55 name nought (one expression ∷ [])
    ∷ shape 56 unread unread (one expression ∷ [])
    ∷ shape 57 unread unread (one expression ∷ one expression ∷ [])
    ∷ shape 58 nought nought (one expression ∷ one expression ∷ one expression ∷ [])
    ∷ shape 59 nought nought (one expression ∷ many expression ∷ [])
    ∷ []

-- the shape of a kind; no row fits that of any other number
abbrev pub shape_of : ℕ → Shape
shape_of k = first (λ x. eqb x.of k) (shape k nought nought never) shapes
