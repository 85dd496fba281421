-- What the walk of an entry declared, read off the open entries when its body ends, before its scopes close.
use Rattle.std.specs.Prelude.{◌≡◌, List, [], ◌∷◌, ◌++◌, ℕ, zero, suc, ◌-◌, length, eqb, leb}
use Rattle.definition.specs.Basics.{when◌then◌else◌, bit}
use Rattle.definition.specs.Kind.{IMPORT}
use Rattle.definition.specs.Sheet.{Sheet, child, b, kids, kids_of}
use Rattle.definition.specs.Meaning.{Meaning, Named, named, nothing, function, class, global}
use Rattle.definition.specs.Outside.{Outside, based}
use Rattle.definition.specs.Answer.{raised_function, raised_class}
use Rattle.machine.specs.Machine.{State, entry_word}
use Rattle.machine.specs.Reads.{Walked, walk_refusal}
use Rattle.session.specs.Enter.{laid_by}

-- Sheet s has one unit, and that no imports.
pub record OneUnit (s : Sheet) : Type 0 where
  pub one : length (kids s 0) ≡ 1
  pub alone : length (kids_of s IMPORT (child s 0)) ≡ 0

-- what an open entry of tag t with values x and y means to later entries, whose functions and classes are raised by n
abbrev pub left_by : Sheet → ℕ → ℕ → ℕ → ℕ → Meaning
left_by s n t x y =
    when eqb t 3 then function (raised_function n x)
    else when eqb t 4 then class (raised_class n x)
    else when eqb t 5 then global x y
    else when eqb t 7 then global y (bit (eqb (b s x) 1))
    else nothing

-- what open entry i leaves: nothing, if it is a mark
abbrev pub left_in : Sheet → ℕ → List ℕ → ℕ → List Named
left_in s n v i =
    when leb (entry_word v i 0) 1 then [] else named (entry_word v i 1) (left_by s n (entry_word v i 0) (entry_word v i 2) (entry_word v i 3)) ∷ []

-- what the m open entries from entry k on leave
unfoldable pub left_from : Sheet → ℕ → List ℕ → ℕ → ℕ → List Named
left_from s n v k zero = []
left_from s n v k (suc m) = left_in s n v k ++ left_from s n v (suc k) m

-- The state x when the body of the entry of sheet s ends: as after the whole walk, and if no question got a no, the open entries above those from outside
-- tell the declarations that are laid over.
pub record BodyWalked (O : Outside) (s : Sheet) (x : State) : Type 0 where
  pub walked : Walked O s x
  pub laid : (walk_refusal O s).number ≡ 0 → (n : ℕ)
      → left_from s n x.scopes.env (length O.names) (x.scopes.count - length O.names) ≡ laid_by (based O n) s
