-- A declaration laid over, as its four words.
use Rattle.std.specs.Prelude.{List, [], ◌∷◌, ℕ}
use Rattle.ast.specs.Code.{code_number}
use Rattle.lay_over.specs.declared.Laid.{Laid}

-- the words of a declaration as the program holds it
abbrev pub laid_of : Laid → List ℕ
laid_of d = d.name ∷ code_number d.code ∷ d.number ∷ d.mutable ∷ []
