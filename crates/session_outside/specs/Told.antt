-- What a row of a name tells.
use Rattle.std.specs.Prelude.{List, [], ◌∷◌, ℕ}
use Rattle.ast.specs.Code.{code_number}
use Rattle.session_outside.specs.declared.visible.SeenName.{SeenName}

-- its words
abbrev pub told : SeenName → List ℕ
told x = x.name ∷ code_number x.code ∷ x.number ∷ x.mutable ∷ 0 ∷ 0 ∷ 0 ∷ 0 ∷ []
