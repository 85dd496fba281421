-- What the inner routines promise of a column, a line and a run of lines.
use Rattle.std.specs.Prelude.{Bool, Option, Some, None, ◌&&◌, List, [], ◌∷◌, ◌++◌, map, ℕ, ◌+◌, ◌-◌, ◌*◌, ◌/◌, ◌%◌, get_or, take, drop, eqb, leb}
use Rattle.definition.specs.Basics.{when◌then◌else◌, all, from, concat_map}
use Rattle.definition.specs.Text.{is_digit, digits, is_number, value, in_ten}
use Rattle.text.specs.Writing.{row_at}

-- line r of a text, with its newline
abbrev pub line_at : List ℕ → ℕ → List ℕ
line_at t r = take 81 (drop (81 * r) t)

-- the ten bytes of column c of a line
abbrev pub column_at : List ℕ → ℕ → List ℕ
column_at l c = take 10 (drop (10 * c) l)

-- the number that digits write, after v, where all are digits
unfoldable pub digits_from : ℕ → List ℕ → Option ℕ
digits_from v xs = when all is_digit xs then Some (digits v xs) else None

-- the number in a column, if there is one
unfoldable pub number_in : List ℕ → Option ℕ
number_in xs = when is_number xs then Some (value xs) else None

-- is a line eight numbers and a newline?
unfoldable pub is_line : List ℕ → Bool
is_line l = all (λ c. is_number (column_at l c)) (from 0 8) && eqb (get_or l 80 0) 10

-- the eight numbers of a line
unfoldable pub numbers_of : List ℕ → List ℕ
numbers_of l = map (λ c. value (column_at l c)) (from 0 8)

-- is each of the first n lines eight numbers and a newline?
unfoldable pub good_lines : List ℕ → ℕ → Bool
good_lines t n = all (λ r. is_line (line_at t r)) (from 0 n)

-- the numbers of the first n lines
unfoldable pub numbers_in : List ℕ → ℕ → List ℕ
numbers_in t n = concat_map (λ r. numbers_of (line_at t r)) (from 0 n)

-- the lines of so many bytes, where they are whole, at most 2,048, and so many words are enough for them
unfoldable pub whole_lines : ℕ → ℕ → Option ℕ
whole_lines bytes lent =
    when eqb (81 * (bytes / 81)) bytes && leb (bytes / 81) 2048 && leb (8 * (bytes / 81)) lent then Some (bytes / 81) else None

-- a row as a line of text
unfoldable pub line_of : List ℕ → List ℕ
line_of row = concat_map in_ten row ++ 10 ∷ []

-- the byte at place i of ten, of a number whose digits up to there write n
unfoldable pub place_byte : ℕ → ℕ → ℕ
place_byte n i = when leb 1 (9 - i) && eqb n 0 then 32 else 48 + n % 10

-- the first n rows of a list of words as text
unfoldable pub lines_of : List ℕ → ℕ → List ℕ
lines_of ws n = concat_map (λ r. line_of (row_at ws r)) (from 0 n)
