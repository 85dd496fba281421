-- The reply to bytes that are looked for in a list of names (document 02, F-2).
use Rattle.std.specs.Prelude.{◌≡◌, List, [], ◌∷◌, ◌++◌, ℕ, length, take, replicate}
use Rattle.std.specs.Option.{unwrap_or}
use Rattle.definition.specs.Text.{text_of}
use Rattle.definition.specs.Answer.{eight}
use Rattle.definition.specs.Outcome.{Outcome, report}
use Rattle.report.specs.Report.{Begins, reply}
use Rattle.name_index.specs.declared.Found.{Found}
use Rattle.name_index.specs.Index.{find}

-- one row: the number, 0 where the bytes are absent, and how many places were read; nothing is refused
abbrev pub answered : ℕ × ℕ → Outcome
answered a = record { number = 0; file = 0; line = 0; column = 0; name = 0; rows = eight (a.0 ∷ a.1 ∷ []) ∷ []; globals = 0 }

-- the program's words of it, after room for the first line
abbrev pub row_of : Found → List ℕ
row_of x = replicate 8 0 ++ unwrap_or x.number 0 ∷ x.places ∷ replicate 6 0

-- the report as text, of a list of names and the bytes that are looked for
abbrev pub printed_find : List ℕ → List ℕ → List ℕ
printed_find names name = text_of (report (answered (find names name)))

-- A lent text, which then is `after`, begins with the reply to a list of which `names` was read: all of it, or one byte more than the longest
-- that is accepted.
pub record RepliedOfNames (names name before : List ℕ) (n : ℕ) (after : List ℕ) : Type 0 where
  pub of_read : Begins (reply 0 (length before) (printed_find names name)) before n after
  pub of_names : (ns : List ℕ) → names ≡ take 32769 ns → Begins (reply 0 (length before) (printed_find ns name)) before n after
