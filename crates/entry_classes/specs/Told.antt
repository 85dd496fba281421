-- The words of a class and of a member in a session, as they are made of the answer row that tells it.
use Rattle.std.specs.Prelude.{◌≡◌, Bool, ◌||◌, List, [], ◌∷◌, ℕ, ◌+◌, length, get_or, eqb, ltb}
use Rattle.std.proofs.lemmas.List.Edits.{sets}
use Rattle.definition.specs.Basics.{when◌then◌else◌}
use Rattle.definition.specs.Sheet.{Sheet, a, rows}
use Rattle.definition.specs.Outside.{Outside, Method}
use Rattle.definition.specs.Classes.{method_of}
use Rattle.definition.specs.Answer.{raised_function, raised_class}
use Rattle.machine.specs.Machine.{Store}
use Rattle.after.specs.Inherited.{parent_in, methods_in}
use Rattle.entry_classes.specs.declared.Class.{Class}
use Rattle.entry_classes.specs.declared.Member.{Member}
use Rattle.entry_classes.specs.declared.Part.{Part}
use Rattle.entry_classes.specs.declared.Part.TheVariants.{Members, Classes}

-- the words of a class and of a member as the program holds them
abbrev pub class_of : Class → List ℕ
class_of c = c.number ∷ c.name ∷ c.parent ∷ c.fields ∷ c.methods ∷ []

abbrev pub member_of : Member → List ℕ
member_of m = m.name ∷ m.fun ∷ m.params ∷ []

-- is an answer row of a row that a sheet can have?
unfoldable pub row_fits : List ℕ → Bool
row_fits x = ltb (get_or x 0 0) 2048

-- does an answer row tell a class? a field or a method?
abbrev pub tells_class : List ℕ → Bool
tells_class x = eqb (get_or x 1 0) 22

abbrev pub tells_member : List ℕ → Bool
tells_member x = eqb (get_or x 1 0) 23 || eqb (get_or x 1 0) 24

-- method k of the class of row r, its function raised by n
abbrev pub method_told : Outside → Sheet → Store → ℕ → ℕ → ℕ → List ℕ
method_told O s o n r k = let m : Method = method_of k (methods_in O s o (rows s) (256 + r)) in k ∷ raised_function n m.fun ∷ m.params ∷ []

-- the words of the member that answer row x tells, and of the class
unfoldable pub told_member : Outside → Sheet → Store → ℕ → List ℕ → List ℕ
told_member O s o n x = when eqb (get_or x 1 0) 23 then get_or x 3 0 ∷ 0 ∷ 0 ∷ [] else method_told O s o n (get_or x 0 0) (get_or x 2 0)

unfoldable pub told_class : Sheet → Store → ℕ → List ℕ → List ℕ
told_class s o n x =
    let r : ℕ = get_or x 0 0 in raised_class n (256 + r) ∷ a s r ∷ raised_class n (parent_in s o (256 + r)) ∷ get_or x 4 0 ∷ get_or x 5 0 ∷ []

-- the same, and no words if it tells none
unfoldable pub member_in : Outside → Sheet → Store → ℕ → List ℕ → List ℕ
member_in O s o n x = when tells_member x then told_member O s o n x else []

unfoldable pub class_in : Sheet → Store → ℕ → List ℕ → List ℕ
class_in s o n x = when tells_class x then told_class s o n x else []

-- the words of a part that answer row x tells, and how many they are at most
abbrev pub part_in : Part → Outside → Sheet → Store → ℕ → List ℕ → List ℕ
part_in Members O s o n x = member_in O s o n x
part_in Classes O s o n x = class_in s o n x

abbrev pub part_words : Part → ℕ
part_words Members = 3
part_words Classes = 5

-- Words xs are written from a place of w on, which gives w', and k is how many they are.
pub record IsPut (xs : List ℕ) (place : ℕ) (w : List ℕ) (k : ℕ) (w' : List ℕ) : Type 0 where
  pub size : k ≡ length xs
  pub put : w' ≡ sets w place xs
