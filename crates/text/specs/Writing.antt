-- What `write_rows` promises.
use Rattle.std.specs.Prelude.{◌≡◌, List, ◌++◌, map, ℕ, ◌*◌, ◌≤◌, length, take, drop, leb}
use Rattle.definition.specs.Basics.{when◌then◌else◌, from}
use Rattle.definition.specs.Sheet.{rows}
use Rattle.definition.specs.Text.{sheet_of, text_of}

-- row r of a list of words
abbrev pub row_at : List ℕ → ℕ → List ℕ
row_at ws r = take 8 (drop (8 * r) ws)

-- the whole rows of a list of words; words after the last are left out
abbrev pub rows_in : List ℕ → List (List ℕ)
rows_in ws = map (row_at ws) (from 0 (rows ws))

-- how many bytes are written: 81 for each row, or none where that is more than is lent
unfoldable pub bytes_written : List ℕ → ℕ → ℕ
bytes_written ws lent = when leb (81 * rows ws) lent then 81 * rows ws else 0

-- what the lent text then holds: the rows and, after them, what stood there before; or all that stood there
unfoldable pub text_written : List ℕ → List ℕ → List ℕ
text_written ws t = when leb (81 * rows ws) (length t) then text_of (rows_in ws) ++ drop (81 * rows ws) t else t

-- the result and the text after writing; where rows are written, reading their text gives them back
pub record RowsWritten (ws before : List ℕ) (result : ℕ) (after : List ℕ) : Type 0 where
  pub count : result ≡ bytes_written ws (length before)
  pub text : after ≡ text_written ws before
  pub read : 1 ≤ result → sheet_of (take result after) ≡ take (8 * rows ws) ws
