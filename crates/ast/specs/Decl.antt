-- What a declaration is in numbers.
use Rattle.std.specs.Prelude.{ℕ, Bool, true, false, cond, List, [], ◌∷◌, eqb, get_or}
use Rattle.ast.specs.declared.Decl.{Decl}
use Rattle.ast.specs.declared.Decl.TheVariants.{Fun, Class, Global, Arg, Local, Captured}

-- A test as a number, as answer rows have it.
abbrev pub bit_of : Bool → ℕ
bit_of false = 0
bit_of true = 1

-- The code and the three values of a declaration's answer row.
abbrev pub code_and_values : Decl → List ℕ
-- a function: its number
code_and_values (Fun id) = 1 ∷ id.0 ∷ 0 ∷ 0 ∷ []
-- a class: its number
code_and_values (Class id) = 2 ∷ id.0 ∷ 0 ∷ 0 ∷ []
-- a global: index, 0, mutable
code_and_values (Global idx m) = 3 ∷ idx ∷ 0 ∷ bit_of m ∷ []
-- an argument: index, the function it is passed to
code_and_values (Arg idx fun) = 4 ∷ idx ∷ fun.0 ∷ 0 ∷ []
-- a local: slot, the function it is of, mutable
code_and_values (Local idx fun m) = 5 ∷ idx ∷ fun.0 ∷ bit_of m ∷ []
-- a captured variable: index among the captures, 0, mutable
code_and_values (Captured idx m) = 6 ∷ idx ∷ 0 ∷ bit_of m ∷ []

-- Whether it may be assigned again: no function, class or argument may.
abbrev pub mutable : Decl → Bool
mutable (Fun id) = false
mutable (Class id) = false
mutable (Global idx m) = m
mutable (Arg idx fun) = false
mutable (Local idx fun m) = m
mutable (Captured idx m) = m

-- The way back. A code that is none of the six reads as 6.
unfoldable pub decl_of : ℕ → ℕ → ℕ → ℕ → Decl
decl_of code x y z =
    cond (eqb code 1) (Fun (record { 0 = x }))
    (cond (eqb code 2) (Class (record { 0 = x }))
    (cond (eqb code 3) (Global x (eqb z 1))
    (cond (eqb code 4) (Arg x (record { 0 = y }))
    (cond (eqb code 5) (Local x (record { 0 = y }) (eqb z 1)) (Captured x (eqb z 1))))))

-- The same of a list of code and values.
abbrev pub decl_in : List ℕ → Decl
decl_in w = decl_of (get_or w 0 0) (get_or w 1 0) (get_or w 2 0) (get_or w 3 0)
