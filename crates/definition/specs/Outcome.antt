-- The whole outcome: the questions 1 to 22 in order, the answer, the lent buffer, the program's text.
use Rattle.std.specs.Prelude.{Bool, not, ◌&&◌, List, [], ◌∷◌, ◌++◌, ℕ, zero, suc, ◌-◌, ◌*◌, min, length, take, drop, replicate, eqb, leb}
use Rattle.definition.specs.Basics.{when◌then◌else◌, concat_map}
use Rattle.definition.specs.Sheet.{Sheet, file, line, column, rows}
use Rattle.definition.specs.Names.{names_fit, name_count}
use Rattle.definition.specs.Format.{sheet_fits, depths_fit}
use Rattle.definition.specs.Text.{sheet_of, text_of}
use Rattle.definition.specs.Outside.{Outside, core}
use Rattle.definition.specs.Scope.{Moment, history}
use Rattle.definition.specs.Slots.{final_globals}
use Rattle.definition.specs.Question.{Refusal, refusal}
use Rattle.definition.specs.Answer.{answers, raised}

-- What comes of a sheet: the number of the first question with a no, or 0; its position and name; the answer rows; the
-- final globals.
pub record Outcome : Type 0 where
  pub number : ℕ
  pub file : ℕ
  pub line : ℕ
  pub column : ℕ
  pub name : ℕ
  pub rows : List (List ℕ)
  pub globals : ℕ

-- refused by question q, with a position and a name; a column above 16,383 becomes 16,383
abbrev pub refused_at : ℕ → Sheet → ℕ → ℕ → Outcome
refused_at q s r n =
    record { number = q; file = file s r; line = line s r; column = min 16383 (column s r); name = n; rows = []; globals = 0 }

-- refused by question q of the whole input: position and name are 0
abbrev pub refused : ℕ → Outcome
refused q = record { number = q; file = 0; line = 0; column = 0; name = 0; rows = []; globals = 0 }

-- question 1: is the sheet 1 to 2,048 rows of eight numbers?
abbrev pub rows_fit : Sheet → Bool
rows_fit s = eqb (8 * rows s) (length s) && leb 1 (rows s) && leb (rows s) 2048

-- question 22: do the answer rows fit a buffer of `lent` words?
abbrev pub answered : ℕ → List (List ℕ) → ℕ → Outcome
answered lent out g =
    when leb (8 * length out) lent
    then record { number = 0; file = 0; line = 0; column = 0; name = 0; rows = out; globals = g }
    else refused 22

-- questions 5 to 22, of a sheet with what stands outside it
abbrev pub asked : Outside → ℕ → Sheet → Outcome
asked O lent s =
    let h : List Moment = history O s in
    let x : Refusal = refusal O s h in
    let answer : Outcome = answered lent (raised O.base (answers O s h)) (final_globals s h) in
    when eqb x.number 0 then answer else refused_at x.number s x.at x.name

-- the outcome of a sheet and a byte list of names, with a buffer of `lent` words
abbrev pub outcome : Sheet → List ℕ → ℕ → Outcome
outcome s ns lent =
    when not (rows_fit s) then refused 1
    else when not (names_fit ns) then refused 2
    else when not (sheet_fits (name_count ns) s) then refused 3
    else when not (depths_fit s) then refused 4
    else asked core lent s

-- what the buffer then holds: the answer rows, then zeros to its end
abbrev pub buffer : ℕ → Outcome → List ℕ
buffer lent x = concat_map (λ r. r) x.rows ++ replicate (lent - 8 * length x.rows) 0

-- the first n rows of eight words of a buffer
unfoldable pub rows_of_words : ℕ → List ℕ → List (List ℕ)
rows_of_words zero w = []
rows_of_words (suc n) w = take 8 w ∷ rows_of_words n (drop 8 w)

-- what the program prints: a line, then the answer rows
abbrev pub report : Outcome → List (List ℕ)
report x =
    (x.number ∷ x.file ∷ x.line ∷ x.column ∷ x.name ∷ length x.rows ∷ x.globals ∷ 0 ∷ [])
    ∷ x.rows

-- of the texts of sheet.txt and names.txt, with 2,048 rows lent
abbrev pub printed : List ℕ → List ℕ → List ℕ
printed sheet names = text_of (report (outcome (sheet_of sheet) names 16384))
