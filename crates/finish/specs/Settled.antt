-- What is promised of a sheet past the first four questions.
use Rattle.std.specs.Prelude.{◌≡◌, List, ℕ}
use Rattle.definition.specs.Sheet.{Sheet}
use Rattle.definition.specs.Scope.{history}
use Rattle.definition.specs.Slots.{final_globals}
use Rattle.definition.specs.Question.{refusal}
use Rattle.definition.specs.Answer.{answers}
use Rattle.definition.specs.Outcome.{asked, buffer}
use Rattle.definition.specs.Outside.{Outside}
use Rattle.machine.specs.Machine.{Store as Stored}
use Rattle.after.specs.Rows.{answers_in}
use Rattle.answer.specs.declared.Answer.{Answer}
use Rattle.answer.specs.Tells.{Tells}

-- Of sheet s with O outside and a buffer of `lent` words, which then holds w: the answer and the words are those of questions 5 to 22.
pub record Settled (O : Outside) (s : Sheet) (lent : ℕ) (x : Answer) (w : List ℕ) : Type 0 where
  pub tells : Tells (asked O lent s) x
  pub words : w ≡ buffer lent (asked O lent s)

-- No question up to 21 refuses sheet s, the store o has its answer rows, and g are its final globals.
pub record Accepted (O : Outside) (s : Sheet) (o : Stored) (g : ℕ) : Type 0 where
  pub agreed : (refusal O s (history O s)).number ≡ 0
  pub rows_are : answers O s (history O s) ≡ answers_in O s o
  pub globals_are : g ≡ final_globals s (history O s)
