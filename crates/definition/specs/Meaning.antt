-- What a name can mean. A local or argument is told by its let or parameter row, and so is a global that a let declares:
-- slots and global numbers come later (Slots).
use Rattle.std.specs.Prelude.{Bool, true, false, not, ℕ, eqb}

pub data Meaning : Type 0 where
  nothing : Meaning  -- it is not declared
  function : ℕ → Meaning  -- the function of a row
  class : ℕ → Meaning  -- the class of a number
  global : ℕ → ℕ → Meaning  -- the global of a number, known before the walk; 1 if it is mutable
  toplevel : ℕ → Meaning  -- a global that a let of a unit function declares: the let's row
  variable : ℕ → ℕ → Meaning  -- a local or argument: its let or parameter row, and its function

-- A name with what it means.
pub record Named : Type 0 where
  pub name : ℕ
  pub means : Meaning

abbrev pub named : ℕ → Meaning → Named
named n d = record { name = n; means = d }

-- is it declared?
abbrev pub is_declared : Meaning → Bool
is_declared nothing = false
is_declared (function f) = true
is_declared (class c) = true
is_declared (global g m) = true
is_declared (toplevel r) = true
is_declared (variable r f) = true

-- is it a local or argument?
abbrev pub is_variable : Meaning → Bool
is_variable nothing = false
is_variable (function f) = false
is_variable (class c) = false
is_variable (global g m) = false
is_variable (toplevel r) = false
is_variable (variable r f) = true

-- is it a global that a let declares?
abbrev pub is_toplevel : Meaning → Bool
is_toplevel nothing = false
is_toplevel (function f) = false
is_toplevel (class c) = false
is_toplevel (global g m) = false
is_toplevel (toplevel r) = true
is_toplevel (variable r f) = false

-- the let or parameter row of a local or argument; 0 of anything else
abbrev pub row_of : Meaning → ℕ
row_of nothing = 0
row_of (function f) = 0
row_of (class c) = 0
row_of (global g m) = 0
row_of (toplevel r) = 0
row_of (variable r f) = r

-- the function of a local or argument; 0 of anything else
abbrev pub owner_of : Meaning → ℕ
owner_of nothing = 0
owner_of (function f) = 0
owner_of (class c) = 0
owner_of (global g m) = 0
owner_of (toplevel r) = 0
owner_of (variable r f) = f

-- the number of a class; 0 of anything else
abbrev pub class_number : Meaning → ℕ
class_number nothing = 0
class_number (function f) = 0
class_number (class c) = c
class_number (global g m) = 0
class_number (toplevel r) = 0
class_number (variable r f) = 0

-- is it a class?
abbrev pub is_class : Meaning → Bool
is_class d = not (eqb (class_number d) 0)
