-- The program's refusal as the definition's.
use Rattle.std.specs.Prelude.{Result, Ok, Err}
use Rattle.definition.specs.Question.{Refusal, none}
use Rattle.ast.specs.Question.{question_number}
use Rattle.ast.specs.declared.question.Refusal.{Refusal as Refused}

-- a refusal's three values
abbrev pub refusal_of : Refused → Refusal
refusal_of r = record { number = question_number r.question; at = r.at; name = r.name }

-- the refusal of a routine, or none
abbrev pub refusal_in : {A : Type 0} → Result A Refused → Refusal
refusal_in (Ok x) = none
refusal_in (Err r) = refusal_of r
