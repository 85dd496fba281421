-- Replies, computed.
use Rattle.std.specs.Prelude.{◌≡◌, refl, List, [], ◌∷◌, ◌++◌, map, ℕ, replicate}
use Rattle.definition.specs.Text.{text_of}
use Rattle.columns.specs.Columns.{is_link, stored, restored, table, to_columns, from_columns, first_no, target_after}
use Rattle.columns.specs.declared.Way.{Way}
use Rattle.columns.specs.declared.Way.TheVariants.{ToColumns, ToRows}
use Rattle.report.specs.Report.{reply}
use Rattle.columns_text.specs.Reply.{rearranged, printed_columns}

-- two rows, whose links are to row 1, to nothing, and to the largest row
abbrev sheet : List (List ℕ)
sheet = (1 ∷ 0 ∷ 1 ∷ 4 ∷ 5 ∷ 6 ∷ 7 ∷ 8 ∷ []) ∷ (9 ∷ 4294967295 ∷ 0 ∷ 3 ∷ 2 ∷ 1 ∷ 0 ∷ 9 ∷ []) ∷ []

-- the same by column
abbrev by_column : List (List ℕ)
by_column = (1 ∷ 9 ∷ 0 ∷ 4294967294 ∷ 1 ∷ 4294967295 ∷ 4 ∷ 3 ∷ []) ∷ (5 ∷ 2 ∷ 6 ∷ 1 ∷ 7 ∷ 0 ∷ 8 ∷ 9 ∷ []) ∷ []

-- the first line, and rows
abbrev answer : ℕ → List (List ℕ) → List ℕ
answer n rows = text_of ((0 ∷ 0 ∷ 0 ∷ 0 ∷ 0 ∷ n ∷ 0 ∷ 0 ∷ []) ∷ rows)

abbrev no : ℕ → List ℕ
no q = text_of ((q ∷ replicate 7 0) ∷ [])

-- the reply to a sheet's text into `room` bytes, with n rows lent
abbrev to : Way → List ℕ → ℕ → ℕ → List ℕ
to way text n room = reply n room (printed_columns way n text)

-- as many rows lent as there are, one more, one too few; and back
both_ways : map (λ n. to ToColumns (text_of sheet) n 165969) (2 ∷ 3 ∷ 1 ∷ []) ++ to ToRows (text_of by_column) 2 165969 ∷ []
    ≡ answer 2 by_column ∷ answer 3 (by_column ++ replicate 8 0 ∷ []) ∷ no 22 ∷ answer 2 sheet ∷ []
unfolding is_link stored restored table to_columns from_columns first_no target_after rearranged reply
both_ways = refl

-- no text, with no row lent; over 2,048 rows lent, or too few bytes: no reply
others : to ToColumns [] 0 165969 ∷ to ToRows (text_of sheet) 2049 165969 ∷ to ToRows (text_of sheet) 2048 165968 ∷ [] ≡ no 1 ∷ [] ∷ [] ∷ []
unfolding first_no rearranged reply
others = refl
