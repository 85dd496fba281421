-- What a packed position is, on numbers.
use Rattle.std.specs.Prelude.{ℕ, ◌+◌, ◌*◌, ◌/◌, ◌%◌, ◌^◌, min, Bool, true, false, ltb}

-- A column past the last that fits becomes that one: a long line still reports the right line.
abbrev pub clamped : ℕ → ℕ
clamped column = min 16383 column

-- p, or zero where a test fails
abbrev pub or_none : Bool → ℕ → ℕ
or_none true p = p
or_none false p = 0

-- A file out of range gives zero, which is no position: a clamped file would name the wrong one.
unfoldable pub packed : ℕ → ℕ → ℕ → ℕ
packed file line column =
    or_none (ltb file 262144) (file * 2 ^ 46 + line * 2 ^ 14 + clamped column)

-- the file of a position: its highest 18 bits
unfoldable pub file_of : ℕ → ℕ
file_of p = p / 2 ^ 46

-- the line: the 32 bits below the file
unfoldable pub line_of : ℕ → ℕ
line_of p = p / 2 ^ 14 % 2 ^ 32

-- the column: the lowest 14 bits
unfoldable pub column_of : ℕ → ℕ
column_of p = p % 2 ^ 14
