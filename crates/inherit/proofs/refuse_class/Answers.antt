use mathlib.Core.Path.{ap}
use Prim.Native.Nat.{ℕ}
use Rattle.definition.specs.Question.{Refusal}
use Rattle.ast.specs.Question.{question_number}
use Rattle.inherit.proofs.refuse_class.Goals as goal

pub returns : goal.returns
returns c =
    ap {B = Refusal} (λ (n : ℕ). record { number = question_number c.args.question; at = c.args.row; name = n })
    c.word.ensures
