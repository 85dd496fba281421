-- The first line of a report, words in lent ones, and a report as text.
use Rattle.std.specs.Prelude.{◌≡◌, ◌&&◌, List, [], ◌∷◌, ◌++◌, ℕ, ◌+◌, ◌*◌, min, length, take, drop, replicate, leb}
use Rattle.definition.specs.Basics.{when◌then◌else◌}
use Rattle.definition.specs.Text.{text_of}
use Rattle.definition.specs.Outcome.{Outcome}
use Rattle.lexer.specs.SrcPos.{file_of, line_of, column_of}
use Rattle.answer.specs.declared.Answer.{Answer}
use Rattle.text.specs.Writing.{rows_in}

-- The report's first line, as document 01 has it. Rows are counted up to the largest word, which takes 2^35 lent words to reach
-- (`line_exact` in proofs/Laws.antt).
unfoldable pub report_line : Outcome → List ℕ
report_line o =
    o.number ∷ o.file ∷ o.line ∷ o.column ∷ o.name ∷ min 4294967295 (length o.rows) ∷ o.globals ∷ 0 ∷ []

-- the same, told by an answer
unfoldable pub told_by : Answer → List ℕ
told_by x =
    x.number ∷ file_of x.pos.0 ∷ line_of x.pos.0 ∷ column_of x.pos.0 ∷ x.name ∷ min 4294967295 x.rows ∷ x.globals ∷ 0 ∷ []

-- the words ws in n lent ones: as many as fit, then zeros
unfoldable pub fitted : ℕ → List ℕ → List ℕ
fitted n ws = take n (ws ++ replicate n 0)

-- A lent text begins with `told`, n bytes, and the rest is unchanged.
pub record Begins (told before : List ℕ) (n : ℕ) (after : List ℕ) : Type 0 where
  pub count : n ≡ length told
  pub text : after ≡ told ++ drop n before

-- the reply into `room` bytes: the report `told`, or nothing where over 2,048 rows are lent or the longest report does not fit
unfoldable pub reply : ℕ → ℕ → List ℕ → List ℕ
reply lent room told = when leb lent 2048 && leb 165969 room then told else []

-- the line and the rows of an answer x whose rows stand in the words w from the ninth on, as text
abbrev pub answer_text : Answer → List ℕ → List ℕ
answer_text x w = text_of (rows_in (take (8 * (x.rows + 1)) (told_by x ++ drop 8 w)))

-- Of such an answer and a lent text:
pub record Printed (x : Answer) (w before : List ℕ) (n : ℕ) (filled after : List ℕ) : Type 0 where
  -- the first line then stands before the rows,
  pub words : filled ≡ told_by x ++ drop 8 w
  -- and the text begins with that line and the rows, n bytes, and the rest is unchanged.
  pub count : n ≡ 81 * (x.rows + 1)
  pub text : after ≡ answer_text x w ++ drop n before
