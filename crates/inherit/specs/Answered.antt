-- The run of parents that the climb goes over, and what is refused where it ended.
use Rattle.std.specs.Prelude.{false, List, map, ℕ, ◌+◌, ◌-◌, ◌≤◌, get_or}
use Rattle.definition.specs.Basics.{when◌then◌else◌, from}
use Rattle.definition.specs.Sheet.{Sheet, a, rows}
use Rattle.definition.specs.Outside.{Outside}
use Rattle.definition.specs.Classes.{of_sheet}
pub use Rattle.definition.specs.Classes.{lacks_record}
use Rattle.definition.specs.Question.{Refusal, none, ask}
use Rattle.machine.specs.Machine.{Store}
use Rattle.after.specs.Inherited.{parent_in}
use Rattle.std.specs.Prelude.{Ok, Err}
use Rattle.climb.specs.declared.ClimbError.TheVariants.{Circle, NoRecord}
use Rattle.climb.specs.Process.{Ending, NO_RECORD, ENDS}

-- no mark is over k
pub record Marked (k : ℕ) (m : List ℕ) : Type 0 where
  pub marks : (j : ℕ) → get_or m j 0 ≤ k

-- what is refused where the climb over the run of parents ended so
abbrev pub refusal_at : Sheet → Ending → Refusal
refusal_at s (Ok x) = none
refusal_at s (Err (Circle r)) = ask 18 r (a s r) false
refusal_at s (Err (NoRecord r)) = ask 19 r (a s r) false

-- how a run of parents tells parent c: by its row, or as one without a record, or as one that ends the climb
abbrev pub parent_number : Outside → Sheet → ℕ → ℕ
parent_number O s c = when of_sheet s c then c - 256 else when lacks_record O s c then NO_RECORD else ENDS

-- the run of parents of the classes of all rows, as stored
abbrev pub parent_numbers : Outside → Sheet → Store → List ℕ
parent_numbers O s o = map (λ r. parent_number O s (parent_in s o (256 + r))) (from 0 (rows s))
