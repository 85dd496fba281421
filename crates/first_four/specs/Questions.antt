-- The first of questions 1 to 4 that gets a no: what the entry answers.
use Rattle.std.specs.Prelude.{List, not, ℕ}
use Rattle.definition.specs.Basics.{when◌then◌else◌}
use Rattle.definition.specs.Sheet.{Sheet}
use Rattle.definition.specs.Names.{names_fit, name_count}
use Rattle.definition.specs.Format.{sheet_fits, depths_fit}
use Rattle.definition.specs.Outcome.{rows_fit}

-- 3, 4 or 0: the first of questions 3 and 4 that gets a no, where n is the last name
abbrev pub format_question : ℕ → Sheet → ℕ
format_question n s = when not (sheet_fits n s) then 3 else when not (depths_fit s) then 4 else 0

-- the first of questions 1 to 4 that gets a no, or 0, of a sheet and a byte list of names
abbrev pub first_four : Sheet → List ℕ → ℕ
first_four s ns = when not (rows_fit s) then 1 else when not (names_fit ns) then 2 else format_question (name_count ns) s
