-- Further samples: points of document 01 that are easily read otherwise, each settled against the Rust; and numbers in a text.
use Rattle.std.specs.Prelude.{◌≡◌, refl, true, false, List, [], ◌∷◌, ◌++◌, map, ℕ, zero, suc, ◌-◌, replicate}
use Prim.Native.String.{String}
use Rattle.definition.specs.Basics.{concat_map}
use Rattle.definition.specs.Sheet.{Sheet}
use Rattle.definition.specs.Bytes.{bytes}
use Rattle.definition.specs.Text.{is_number, value, in_ten}
use Rattle.definition.specs.Answer.{eight}
use Rattle.definition.specs.Outcome.{Outcome, outcome, buffer}
use Rattle.definition.specs.Samples.{Sample, s1, printed_of, expected}

-- if true let p = 1; p; -- the let belongs to the scope around the branch
abbrev branch_let : Sample
branch_let = record {
  sheet =
      0 ∷ 0 ∷ 1 ∷ 0 ∷ 0 ∷ 0 ∷ 0 ∷ 2 ∷
      2 ∷ 0 ∷ 2 ∷ 0 ∷ 0 ∷ 0 ∷ 0 ∷ 0 ∷
      6 ∷ 0 ∷ 3 ∷ 0 ∷ 1 ∷ 2 ∷ 0 ∷ 1 ∷
      25 ∷ 0 ∷ 4 ∷ 0 ∷ 1 ∷ 3 ∷ 0 ∷ 0 ∷
      26 ∷ 8 ∷ 5 ∷ 0 ∷ 1 ∷ 4 ∷ 0 ∷ 0 ∷
      41 ∷ 6 ∷ 0 ∷ 0 ∷ 1 ∷ 5 ∷ 0 ∷ 0 ∷
      29 ∷ 0 ∷ 7 ∷ 0 ∷ 1 ∷ 6 ∷ 26 ∷ 0 ∷
      43 ∷ 0 ∷ 0 ∷ 0 ∷ 1 ∷ 7 ∷ 1 ∷ 0 ∷
      20 ∷ 0 ∷ 9 ∷ 0 ∷ 1 ∷ 8 ∷ 0 ∷ 0 ∷
      50 ∷ 0 ∷ 0 ∷ 0 ∷ 1 ∷ 9 ∷ 26 ∷ 0 ∷ [];
  head = 0 ∷ 0 ∷ 0 ∷ 0 ∷ 0 ∷ 3 ∷ 1 ∷ [];
  rows =
      (2 ∷ 20 ∷ []) ∷
      (6 ∷ 3 ∷ []) ∷
      (9 ∷ 3 ∷ []) ∷
      [];
}

-- if true let p = 1; else let p = 1; -- 7 at the second; the column is clamped
abbrev both_branches : Sample
both_branches = record {
  sheet =
      0 ∷ 0 ∷ 1 ∷ 0 ∷ 0 ∷ 0 ∷ 0 ∷ 2 ∷
      2 ∷ 0 ∷ 2 ∷ 0 ∷ 0 ∷ 0 ∷ 0 ∷ 0 ∷
      6 ∷ 0 ∷ 3 ∷ 0 ∷ 1 ∷ 2 ∷ 0 ∷ 1 ∷
      25 ∷ 0 ∷ 4 ∷ 0 ∷ 1 ∷ 3 ∷ 0 ∷ 0 ∷
      26 ∷ 0 ∷ 5 ∷ 0 ∷ 1 ∷ 4 ∷ 0 ∷ 0 ∷
      41 ∷ 6 ∷ 0 ∷ 0 ∷ 1 ∷ 5 ∷ 0 ∷ 0 ∷
      29 ∷ 8 ∷ 7 ∷ 0 ∷ 1 ∷ 6 ∷ 26 ∷ 0 ∷
      43 ∷ 0 ∷ 0 ∷ 0 ∷ 1 ∷ 7 ∷ 1 ∷ 0 ∷
      29 ∷ 0 ∷ 9 ∷ 0 ∷ 1 ∷ 20000 ∷ 26 ∷ 0 ∷
      43 ∷ 0 ∷ 0 ∷ 0 ∷ 1 ∷ 9 ∷ 1 ∷ 0 ∷ [];
  head = 7 ∷ 0 ∷ 1 ∷ 16383 ∷ 26 ∷ [];
  rows = [];
}

-- let f = |p| { let p = 1; p; } -- an inner scope may take the name again
abbrev shadowed : Sample
shadowed = record {
  sheet =
      0 ∷ 0 ∷ 1 ∷ 0 ∷ 0 ∷ 0 ∷ 0 ∷ 2 ∷
      2 ∷ 0 ∷ 2 ∷ 0 ∷ 0 ∷ 0 ∷ 0 ∷ 0 ∷
      6 ∷ 0 ∷ 3 ∷ 0 ∷ 1 ∷ 2 ∷ 0 ∷ 1 ∷
      25 ∷ 0 ∷ 4 ∷ 0 ∷ 1 ∷ 3 ∷ 0 ∷ 0 ∷
      29 ∷ 0 ∷ 5 ∷ 0 ∷ 1 ∷ 4 ∷ 25 ∷ 0 ∷
      52 ∷ 0 ∷ 6 ∷ 0 ∷ 1 ∷ 5 ∷ 0 ∷ 0 ∷
      6 ∷ 0 ∷ 7 ∷ 0 ∷ 1 ∷ 6 ∷ 0 ∷ 0 ∷
      11 ∷ 8 ∷ 0 ∷ 0 ∷ 1 ∷ 7 ∷ 26 ∷ 0 ∷
      25 ∷ 0 ∷ 9 ∷ 0 ∷ 1 ∷ 8 ∷ 0 ∷ 0 ∷
      29 ∷ 11 ∷ 10 ∷ 0 ∷ 1 ∷ 9 ∷ 26 ∷ 0 ∷
      43 ∷ 0 ∷ 0 ∷ 0 ∷ 1 ∷ 10 ∷ 1 ∷ 0 ∷
      20 ∷ 0 ∷ 12 ∷ 0 ∷ 1 ∷ 11 ∷ 0 ∷ 0 ∷
      50 ∷ 0 ∷ 0 ∷ 0 ∷ 1 ∷ 12 ∷ 26 ∷ 0 ∷ [];
  head = 0 ∷ 0 ∷ 0 ∷ 0 ∷ 0 ∷ 5 ∷ [];
  rows =
      (2 ∷ 20 ∷ []) ∷
      (4 ∷ 1 ∷ 6 ∷ []) ∷
      (6 ∷ 20 ∷ 1 ∷ []) ∷
      (9 ∷ 5 ∷ 0 ∷ 6 ∷ []) ∷
      (12 ∷ 5 ∷ 0 ∷ 6 ∷ []) ∷
      [];
}

-- let f = |p, q| return || { q; p; q; } -- captured once each, in the order of first use
abbrev first_use : Sample
first_use = record {
  sheet =
      0 ∷ 0 ∷ 1 ∷ 0 ∷ 0 ∷ 0 ∷ 0 ∷ 2 ∷
      2 ∷ 0 ∷ 2 ∷ 0 ∷ 0 ∷ 0 ∷ 0 ∷ 0 ∷
      6 ∷ 0 ∷ 3 ∷ 0 ∷ 1 ∷ 2 ∷ 0 ∷ 1 ∷
      25 ∷ 0 ∷ 4 ∷ 0 ∷ 1 ∷ 3 ∷ 0 ∷ 0 ∷
      29 ∷ 0 ∷ 5 ∷ 0 ∷ 1 ∷ 4 ∷ 25 ∷ 0 ∷
      52 ∷ 0 ∷ 6 ∷ 0 ∷ 1 ∷ 5 ∷ 0 ∷ 0 ∷
      6 ∷ 0 ∷ 7 ∷ 0 ∷ 1 ∷ 6 ∷ 0 ∷ 0 ∷
      11 ∷ 8 ∷ 0 ∷ 0 ∷ 1 ∷ 7 ∷ 26 ∷ 0 ∷
      11 ∷ 9 ∷ 0 ∷ 0 ∷ 1 ∷ 8 ∷ 27 ∷ 0 ∷
      22 ∷ 0 ∷ 10 ∷ 0 ∷ 1 ∷ 9 ∷ 0 ∷ 0 ∷
      52 ∷ 0 ∷ 11 ∷ 0 ∷ 1 ∷ 10 ∷ 0 ∷ 0 ∷
      6 ∷ 0 ∷ 12 ∷ 0 ∷ 1 ∷ 11 ∷ 0 ∷ 0 ∷
      25 ∷ 0 ∷ 13 ∷ 0 ∷ 1 ∷ 12 ∷ 0 ∷ 0 ∷
      20 ∷ 15 ∷ 14 ∷ 0 ∷ 1 ∷ 13 ∷ 0 ∷ 0 ∷
      50 ∷ 0 ∷ 0 ∷ 0 ∷ 1 ∷ 14 ∷ 27 ∷ 0 ∷
      20 ∷ 17 ∷ 16 ∷ 0 ∷ 1 ∷ 15 ∷ 0 ∷ 0 ∷
      50 ∷ 0 ∷ 0 ∷ 0 ∷ 1 ∷ 16 ∷ 26 ∷ 0 ∷
      20 ∷ 0 ∷ 18 ∷ 0 ∷ 1 ∷ 17 ∷ 0 ∷ 0 ∷
      50 ∷ 0 ∷ 0 ∷ 0 ∷ 1 ∷ 18 ∷ 27 ∷ 0 ∷ [];
  head = 0 ∷ 0 ∷ 0 ∷ 0 ∷ 0 ∷ 11 ∷ [];
  rows =
      (2 ∷ 20 ∷ []) ∷
      (4 ∷ 1 ∷ 6 ∷ []) ∷
      (6 ∷ 20 ∷ []) ∷
      (10 ∷ 4 ∷ 1 ∷ 6 ∷ []) ∷
      (10 ∷ 4 ∷ 0 ∷ 6 ∷ []) ∷
      (11 ∷ 20 ∷ 0 ∷ 2 ∷ []) ∷
      (11 ∷ 4 ∷ 1 ∷ 6 ∷ []) ∷
      (11 ∷ 4 ∷ 0 ∷ 6 ∷ []) ∷
      (14 ∷ 6 ∷ 0 ∷ 0 ∷ 0 ∷ 1 ∷ []) ∷
      (16 ∷ 6 ∷ 1 ∷ 0 ∷ 0 ∷ 1 ∷ []) ∷
      (18 ∷ 6 ∷ 0 ∷ 0 ∷ 0 ∷ 1 ∷ []) ∷
      [];
}

-- the same without the last use, the row of q after that of p -- the order is the walk's, not the rows'
abbrev walk_order : Sample
walk_order = record {
  sheet =
      0 ∷ 0 ∷ 1 ∷ 0 ∷ 0 ∷ 0 ∷ 0 ∷ 2 ∷
      2 ∷ 0 ∷ 2 ∷ 0 ∷ 0 ∷ 0 ∷ 0 ∷ 0 ∷
      6 ∷ 0 ∷ 3 ∷ 0 ∷ 1 ∷ 2 ∷ 0 ∷ 1 ∷
      25 ∷ 0 ∷ 4 ∷ 0 ∷ 1 ∷ 3 ∷ 0 ∷ 0 ∷
      29 ∷ 0 ∷ 5 ∷ 0 ∷ 1 ∷ 4 ∷ 25 ∷ 0 ∷
      52 ∷ 0 ∷ 6 ∷ 0 ∷ 1 ∷ 5 ∷ 0 ∷ 0 ∷
      6 ∷ 0 ∷ 7 ∷ 0 ∷ 1 ∷ 6 ∷ 0 ∷ 0 ∷
      11 ∷ 8 ∷ 0 ∷ 0 ∷ 1 ∷ 7 ∷ 26 ∷ 0 ∷
      11 ∷ 9 ∷ 0 ∷ 0 ∷ 1 ∷ 8 ∷ 27 ∷ 0 ∷
      22 ∷ 0 ∷ 10 ∷ 0 ∷ 1 ∷ 9 ∷ 0 ∷ 0 ∷
      52 ∷ 0 ∷ 11 ∷ 0 ∷ 1 ∷ 10 ∷ 0 ∷ 0 ∷
      6 ∷ 0 ∷ 12 ∷ 0 ∷ 1 ∷ 11 ∷ 0 ∷ 0 ∷
      25 ∷ 0 ∷ 13 ∷ 0 ∷ 1 ∷ 12 ∷ 0 ∷ 0 ∷
      20 ∷ 14 ∷ 16 ∷ 0 ∷ 1 ∷ 13 ∷ 0 ∷ 0 ∷
      20 ∷ 0 ∷ 15 ∷ 0 ∷ 1 ∷ 14 ∷ 0 ∷ 0 ∷
      50 ∷ 0 ∷ 0 ∷ 0 ∷ 1 ∷ 15 ∷ 26 ∷ 0 ∷
      50 ∷ 0 ∷ 0 ∷ 0 ∷ 1 ∷ 16 ∷ 27 ∷ 0 ∷ [];
  head = 0 ∷ 0 ∷ 0 ∷ 0 ∷ 0 ∷ 10 ∷ [];
  rows =
      (2 ∷ 20 ∷ []) ∷
      (4 ∷ 1 ∷ 6 ∷ []) ∷
      (6 ∷ 20 ∷ []) ∷
      (10 ∷ 4 ∷ 1 ∷ 6 ∷ []) ∷
      (10 ∷ 4 ∷ 0 ∷ 6 ∷ []) ∷
      (11 ∷ 20 ∷ 0 ∷ 2 ∷ []) ∷
      (11 ∷ 4 ∷ 1 ∷ 6 ∷ []) ∷
      (11 ∷ 4 ∷ 0 ∷ 6 ∷ []) ∷
      (15 ∷ 6 ∷ 1 ∷ 0 ∷ 0 ∷ 1 ∷ []) ∷
      (16 ∷ 6 ∷ 0 ∷ 0 ∷ 0 ∷ 1 ∷ []) ∷
      [];
}

-- let f = || { let p = 1; return || return p; } -- an immutable local does not escape
abbrev immutable : Sample
immutable = record {
  sheet =
      0 ∷ 0 ∷ 1 ∷ 0 ∷ 0 ∷ 0 ∷ 0 ∷ 2 ∷
      2 ∷ 0 ∷ 2 ∷ 0 ∷ 0 ∷ 0 ∷ 0 ∷ 0 ∷
      6 ∷ 0 ∷ 3 ∷ 0 ∷ 1 ∷ 2 ∷ 0 ∷ 1 ∷
      25 ∷ 0 ∷ 4 ∷ 0 ∷ 1 ∷ 3 ∷ 0 ∷ 0 ∷
      29 ∷ 0 ∷ 5 ∷ 0 ∷ 1 ∷ 4 ∷ 25 ∷ 0 ∷
      52 ∷ 0 ∷ 6 ∷ 0 ∷ 1 ∷ 5 ∷ 0 ∷ 0 ∷
      6 ∷ 0 ∷ 7 ∷ 0 ∷ 1 ∷ 6 ∷ 0 ∷ 0 ∷
      25 ∷ 0 ∷ 8 ∷ 0 ∷ 1 ∷ 7 ∷ 0 ∷ 0 ∷
      29 ∷ 10 ∷ 9 ∷ 0 ∷ 1 ∷ 8 ∷ 26 ∷ 0 ∷
      43 ∷ 0 ∷ 0 ∷ 0 ∷ 1 ∷ 9 ∷ 1 ∷ 0 ∷
      22 ∷ 0 ∷ 11 ∷ 0 ∷ 1 ∷ 10 ∷ 0 ∷ 0 ∷
      52 ∷ 0 ∷ 12 ∷ 0 ∷ 1 ∷ 11 ∷ 0 ∷ 0 ∷
      6 ∷ 0 ∷ 13 ∷ 0 ∷ 1 ∷ 12 ∷ 0 ∷ 0 ∷
      22 ∷ 0 ∷ 14 ∷ 0 ∷ 1 ∷ 13 ∷ 0 ∷ 0 ∷
      50 ∷ 0 ∷ 0 ∷ 0 ∷ 1 ∷ 14 ∷ 26 ∷ 0 ∷ [];
  head = 0 ∷ 0 ∷ 0 ∷ 0 ∷ 0 ∷ 8 ∷ [];
  rows =
      (2 ∷ 20 ∷ []) ∷
      (4 ∷ 1 ∷ 6 ∷ []) ∷
      (6 ∷ 20 ∷ 1 ∷ []) ∷
      (8 ∷ 5 ∷ 0 ∷ 6 ∷ []) ∷
      (11 ∷ 5 ∷ 0 ∷ 6 ∷ []) ∷
      (12 ∷ 20 ∷ 0 ∷ 1 ∷ []) ∷
      (12 ∷ 5 ∷ 0 ∷ 6 ∷ []) ∷
      (14 ∷ 6 ∷ 0 ∷ 0 ∷ 0 ∷ 1 ∷ []) ∷
      [];
}

-- let f = || { let p = || return p; } -- a hoisted literal of a function is a local that it may capture itself
abbrev itself : Sample
itself = record {
  sheet =
      0 ∷ 0 ∷ 1 ∷ 0 ∷ 0 ∷ 0 ∷ 0 ∷ 2 ∷
      2 ∷ 0 ∷ 2 ∷ 0 ∷ 0 ∷ 0 ∷ 0 ∷ 0 ∷
      6 ∷ 0 ∷ 3 ∷ 0 ∷ 1 ∷ 2 ∷ 0 ∷ 1 ∷
      25 ∷ 0 ∷ 4 ∷ 0 ∷ 1 ∷ 3 ∷ 0 ∷ 0 ∷
      29 ∷ 0 ∷ 5 ∷ 0 ∷ 1 ∷ 4 ∷ 25 ∷ 0 ∷
      52 ∷ 0 ∷ 6 ∷ 0 ∷ 1 ∷ 5 ∷ 0 ∷ 0 ∷
      6 ∷ 0 ∷ 7 ∷ 0 ∷ 1 ∷ 6 ∷ 0 ∷ 0 ∷
      25 ∷ 0 ∷ 8 ∷ 0 ∷ 1 ∷ 7 ∷ 0 ∷ 0 ∷
      29 ∷ 0 ∷ 9 ∷ 0 ∷ 1 ∷ 8 ∷ 26 ∷ 0 ∷
      52 ∷ 0 ∷ 10 ∷ 0 ∷ 1 ∷ 9 ∷ 0 ∷ 0 ∷
      6 ∷ 0 ∷ 11 ∷ 0 ∷ 1 ∷ 10 ∷ 0 ∷ 0 ∷
      22 ∷ 0 ∷ 12 ∷ 0 ∷ 1 ∷ 11 ∷ 0 ∷ 0 ∷
      50 ∷ 0 ∷ 0 ∷ 0 ∷ 1 ∷ 12 ∷ 26 ∷ 0 ∷ [];
  head = 0 ∷ 0 ∷ 0 ∷ 0 ∷ 0 ∷ 8 ∷ [];
  rows =
      (2 ∷ 20 ∷ []) ∷
      (4 ∷ 1 ∷ 6 ∷ []) ∷
      (6 ∷ 20 ∷ 1 ∷ []) ∷
      (8 ∷ 5 ∷ 0 ∷ 6 ∷ []) ∷
      (9 ∷ 5 ∷ 0 ∷ 6 ∷ []) ∷
      (10 ∷ 20 ∷ 0 ∷ 1 ∷ []) ∷
      (10 ∷ 5 ∷ 0 ∷ 6 ∷ []) ∷
      (12 ∷ 6 ∷ 0 ∷ 0 ∷ 0 ∷ 1 ∷ []) ∷
      [];
}

-- let g = 1; let f = |p| { { || { for (nil; true; nil) { p; || { p; g; f; String; } } p; } } } -- F-6: functions are counted, and no
-- blocks or loops, for each use by itself; a global, a function and a class are at no distance
abbrev distances : Sample
distances = record {
  sheet =
      0 ∷ 0 ∷ 1 ∷ 0 ∷ 0 ∷ 0 ∷ 0 ∷ 2 ∷
      2 ∷ 0 ∷ 2 ∷ 0 ∷ 0 ∷ 0 ∷ 0 ∷ 0 ∷
      6 ∷ 0 ∷ 3 ∷ 0 ∷ 1 ∷ 2 ∷ 0 ∷ 1 ∷
      25 ∷ 0 ∷ 4 ∷ 0 ∷ 1 ∷ 3 ∷ 0 ∷ 0 ∷
      29 ∷ 6 ∷ 5 ∷ 0 ∷ 1 ∷ 4 ∷ 25 ∷ 0 ∷
      43 ∷ 0 ∷ 0 ∷ 0 ∷ 1 ∷ 5 ∷ 1 ∷ 0 ∷
      29 ∷ 0 ∷ 7 ∷ 0 ∷ 1 ∷ 6 ∷ 26 ∷ 0 ∷
      52 ∷ 0 ∷ 8 ∷ 0 ∷ 1 ∷ 7 ∷ 0 ∷ 0 ∷
      6 ∷ 0 ∷ 9 ∷ 0 ∷ 1 ∷ 8 ∷ 0 ∷ 0 ∷
      11 ∷ 10 ∷ 0 ∷ 0 ∷ 1 ∷ 9 ∷ 27 ∷ 0 ∷
      25 ∷ 0 ∷ 11 ∷ 0 ∷ 1 ∷ 10 ∷ 0 ∷ 0 ∷
      25 ∷ 0 ∷ 12 ∷ 0 ∷ 1 ∷ 11 ∷ 0 ∷ 0 ∷
      20 ∷ 0 ∷ 13 ∷ 0 ∷ 1 ∷ 12 ∷ 0 ∷ 0 ∷
      52 ∷ 0 ∷ 14 ∷ 0 ∷ 1 ∷ 13 ∷ 0 ∷ 0 ∷
      6 ∷ 0 ∷ 15 ∷ 0 ∷ 1 ∷ 14 ∷ 0 ∷ 0 ∷
      25 ∷ 0 ∷ 16 ∷ 0 ∷ 1 ∷ 15 ∷ 0 ∷ 0 ∷
      27 ∷ 37 ∷ 17 ∷ 0 ∷ 1 ∷ 16 ∷ 0 ∷ 0 ∷
      20 ∷ 19 ∷ 18 ∷ 0 ∷ 1 ∷ 17 ∷ 0 ∷ 0 ∷
      40 ∷ 0 ∷ 0 ∷ 0 ∷ 1 ∷ 18 ∷ 0 ∷ 0 ∷
      41 ∷ 20 ∷ 0 ∷ 0 ∷ 1 ∷ 19 ∷ 0 ∷ 0 ∷
      20 ∷ 22 ∷ 21 ∷ 0 ∷ 1 ∷ 20 ∷ 0 ∷ 0 ∷
      40 ∷ 0 ∷ 0 ∷ 0 ∷ 1 ∷ 21 ∷ 0 ∷ 0 ∷
      25 ∷ 0 ∷ 23 ∷ 0 ∷ 1 ∷ 22 ∷ 0 ∷ 0 ∷
      20 ∷ 25 ∷ 24 ∷ 0 ∷ 1 ∷ 23 ∷ 0 ∷ 0 ∷
      50 ∷ 0 ∷ 0 ∷ 0 ∷ 1 ∷ 24 ∷ 27 ∷ 0 ∷
      20 ∷ 0 ∷ 26 ∷ 0 ∷ 1 ∷ 25 ∷ 0 ∷ 0 ∷
      52 ∷ 0 ∷ 27 ∷ 0 ∷ 1 ∷ 26 ∷ 0 ∷ 0 ∷
      6 ∷ 0 ∷ 28 ∷ 0 ∷ 1 ∷ 27 ∷ 0 ∷ 0 ∷
      25 ∷ 0 ∷ 29 ∷ 0 ∷ 1 ∷ 28 ∷ 0 ∷ 0 ∷
      20 ∷ 31 ∷ 30 ∷ 0 ∷ 1 ∷ 29 ∷ 0 ∷ 0 ∷
      50 ∷ 0 ∷ 0 ∷ 0 ∷ 1 ∷ 30 ∷ 27 ∷ 0 ∷
      20 ∷ 33 ∷ 32 ∷ 0 ∷ 1 ∷ 31 ∷ 0 ∷ 0 ∷
      50 ∷ 0 ∷ 0 ∷ 0 ∷ 1 ∷ 32 ∷ 25 ∷ 0 ∷
      20 ∷ 35 ∷ 34 ∷ 0 ∷ 1 ∷ 33 ∷ 0 ∷ 0 ∷
      50 ∷ 0 ∷ 0 ∷ 0 ∷ 1 ∷ 34 ∷ 26 ∷ 0 ∷
      20 ∷ 0 ∷ 36 ∷ 0 ∷ 1 ∷ 35 ∷ 0 ∷ 0 ∷
      50 ∷ 0 ∷ 0 ∷ 0 ∷ 1 ∷ 36 ∷ 3 ∷ 0 ∷
      20 ∷ 0 ∷ 38 ∷ 0 ∷ 1 ∷ 37 ∷ 0 ∷ 0 ∷
      50 ∷ 0 ∷ 0 ∷ 0 ∷ 1 ∷ 38 ∷ 27 ∷ 0 ∷ [];
  head = 0 ∷ 0 ∷ 0 ∷ 0 ∷ 0 ∷ 16 ∷ 1 ∷ [];
  rows =
      (2 ∷ 20 ∷ []) ∷
      (4 ∷ 3 ∷ []) ∷
      (6 ∷ 1 ∷ 8 ∷ []) ∷
      (8 ∷ 20 ∷ []) ∷
      (13 ∷ 4 ∷ 0 ∷ 8 ∷ []) ∷
      (14 ∷ 20 ∷ 0 ∷ 1 ∷ []) ∷
      (14 ∷ 4 ∷ 0 ∷ 8 ∷ []) ∷
      (24 ∷ 6 ∷ 0 ∷ 0 ∷ 0 ∷ 1 ∷ []) ∷
      (26 ∷ 6 ∷ []) ∷
      (27 ∷ 20 ∷ 0 ∷ 1 ∷ []) ∷
      (27 ∷ 4 ∷ 0 ∷ 8 ∷ []) ∷
      (30 ∷ 6 ∷ 0 ∷ 0 ∷ 0 ∷ 2 ∷ []) ∷
      (32 ∷ 3 ∷ []) ∷
      (34 ∷ 1 ∷ 8 ∷ []) ∷
      (36 ∷ 2 ∷ 5 ∷ []) ∷
      (38 ∷ 6 ∷ 0 ∷ 0 ∷ 0 ∷ 1 ∷ []) ∷
      [];
}

-- 3 globals before: let q = 1; let var p = || {}; -- the mutable literal is declared first, as global 3
abbrev hoisted : Sample
hoisted = record {
  sheet =
      0 ∷ 0 ∷ 1 ∷ 0 ∷ 0 ∷ 0 ∷ 3 ∷ 2 ∷
      2 ∷ 0 ∷ 2 ∷ 0 ∷ 0 ∷ 0 ∷ 0 ∷ 0 ∷
      6 ∷ 0 ∷ 3 ∷ 0 ∷ 1 ∷ 2 ∷ 0 ∷ 1 ∷
      25 ∷ 0 ∷ 4 ∷ 0 ∷ 1 ∷ 3 ∷ 0 ∷ 0 ∷
      29 ∷ 6 ∷ 5 ∷ 0 ∷ 1 ∷ 4 ∷ 27 ∷ 0 ∷
      43 ∷ 0 ∷ 0 ∷ 0 ∷ 1 ∷ 5 ∷ 1 ∷ 0 ∷
      29 ∷ 0 ∷ 7 ∷ 0 ∷ 1 ∷ 6 ∷ 26 ∷ 1 ∷
      52 ∷ 0 ∷ 8 ∷ 0 ∷ 1 ∷ 7 ∷ 0 ∷ 0 ∷
      6 ∷ 0 ∷ 9 ∷ 0 ∷ 1 ∷ 8 ∷ 0 ∷ 0 ∷
      25 ∷ 0 ∷ 0 ∷ 0 ∷ 1 ∷ 9 ∷ 0 ∷ 0 ∷ [];
  head = 0 ∷ 0 ∷ 0 ∷ 0 ∷ 0 ∷ 4 ∷ 5 ∷ [];
  rows =
      (2 ∷ 20 ∷ []) ∷
      (4 ∷ 3 ∷ 4 ∷ []) ∷
      (6 ∷ 3 ∷ 3 ∷ 0 ∷ 1 ∷ []) ∷
      (8 ∷ 20 ∷ []) ∷
      [];
}

-- $MAIN_UNIT; || $MAIN_UNIT; -- true in the main function itself alone
abbrev main_unit : Sample
main_unit = record {
  sheet =
      0 ∷ 0 ∷ 1 ∷ 0 ∷ 0 ∷ 0 ∷ 0 ∷ 2 ∷
      2 ∷ 0 ∷ 2 ∷ 0 ∷ 0 ∷ 0 ∷ 0 ∷ 0 ∷
      6 ∷ 0 ∷ 3 ∷ 0 ∷ 1 ∷ 2 ∷ 0 ∷ 1 ∷
      25 ∷ 0 ∷ 4 ∷ 0 ∷ 1 ∷ 3 ∷ 0 ∷ 0 ∷
      20 ∷ 6 ∷ 5 ∷ 0 ∷ 1 ∷ 4 ∷ 0 ∷ 0 ∷
      51 ∷ 0 ∷ 0 ∷ 0 ∷ 1 ∷ 5 ∷ 24 ∷ 0 ∷
      20 ∷ 0 ∷ 7 ∷ 0 ∷ 1 ∷ 6 ∷ 0 ∷ 0 ∷
      52 ∷ 0 ∷ 8 ∷ 0 ∷ 1 ∷ 7 ∷ 0 ∷ 0 ∷
      6 ∷ 0 ∷ 9 ∷ 0 ∷ 1 ∷ 8 ∷ 0 ∷ 0 ∷
      20 ∷ 0 ∷ 10 ∷ 0 ∷ 1 ∷ 9 ∷ 0 ∷ 0 ∷
      51 ∷ 0 ∷ 0 ∷ 0 ∷ 1 ∷ 10 ∷ 24 ∷ 0 ∷ [];
  head = 0 ∷ 0 ∷ 0 ∷ 0 ∷ 0 ∷ 4 ∷ [];
  rows =
      (2 ∷ 20 ∷ []) ∷
      (5 ∷ 7 ∷ []) ∷
      (8 ∷ 20 ∷ []) ∷
      (10 ∷ 8 ∷ []) ∷
      [];
}

-- class p { init(q) {} } class q : p {} q(); -- an inherited init is found
abbrev inherited_init : Sample
inherited_init = record {
  sheet =
      0 ∷ 0 ∷ 1 ∷ 0 ∷ 0 ∷ 0 ∷ 0 ∷ 7 ∷
      2 ∷ 0 ∷ 2 ∷ 0 ∷ 0 ∷ 0 ∷ 0 ∷ 0 ∷
      4 ∷ 6 ∷ 3 ∷ 0 ∷ 1 ∷ 2 ∷ 26 ∷ 0 ∷
      6 ∷ 0 ∷ 4 ∷ 0 ∷ 1 ∷ 3 ∷ 23 ∷ 0 ∷
      11 ∷ 5 ∷ 0 ∷ 0 ∷ 1 ∷ 4 ∷ 27 ∷ 0 ∷
      25 ∷ 0 ∷ 0 ∷ 0 ∷ 1 ∷ 5 ∷ 0 ∷ 0 ∷
      4 ∷ 7 ∷ 0 ∷ 0 ∷ 1 ∷ 6 ∷ 27 ∷ 26 ∷
      6 ∷ 0 ∷ 8 ∷ 0 ∷ 1 ∷ 7 ∷ 0 ∷ 1 ∷
      25 ∷ 0 ∷ 9 ∷ 0 ∷ 1 ∷ 8 ∷ 0 ∷ 0 ∷
      30 ∷ 10 ∷ 0 ∷ 0 ∷ 1 ∷ 9 ∷ 2 ∷ 0 ∷
      30 ∷ 11 ∷ 0 ∷ 0 ∷ 1 ∷ 10 ∷ 6 ∷ 0 ∷
      20 ∷ 0 ∷ 12 ∷ 0 ∷ 1 ∷ 11 ∷ 0 ∷ 0 ∷
      59 ∷ 0 ∷ 13 ∷ 0 ∷ 1 ∷ 12 ∷ 0 ∷ 0 ∷
      50 ∷ 0 ∷ 0 ∷ 0 ∷ 1 ∷ 13 ∷ 27 ∷ 0 ∷ [];
  head = 0 ∷ 0 ∷ 0 ∷ 0 ∷ 0 ∷ 7 ∷ [];
  rows =
      (2 ∷ 22 ∷ 0 ∷ 1 ∷ 0 ∷ 1 ∷ []) ∷
      (2 ∷ 24 ∷ 23 ∷ 3 ∷ []) ∷
      (3 ∷ 20 ∷ []) ∷
      (6 ∷ 22 ∷ 258 ∷ 0 ∷ 0 ∷ 1 ∷ []) ∷
      (6 ∷ 24 ∷ 23 ∷ 3 ∷ []) ∷
      (7 ∷ 20 ∷ []) ∷
      (13 ∷ 2 ∷ 262 ∷ []) ∷
      [];
}

-- class p : String {} -- String has no record: 19
abbrev core_parent : Sample
core_parent = record {
  sheet =
      0 ∷ 0 ∷ 1 ∷ 0 ∷ 0 ∷ 0 ∷ 0 ∷ 3 ∷
      2 ∷ 0 ∷ 2 ∷ 0 ∷ 0 ∷ 0 ∷ 0 ∷ 0 ∷
      4 ∷ 3 ∷ 0 ∷ 0 ∷ 1 ∷ 2 ∷ 26 ∷ 3 ∷
      6 ∷ 0 ∷ 4 ∷ 0 ∷ 1 ∷ 3 ∷ 0 ∷ 1 ∷
      25 ∷ 0 ∷ 5 ∷ 0 ∷ 1 ∷ 4 ∷ 0 ∷ 0 ∷
      30 ∷ 0 ∷ 0 ∷ 0 ∷ 1 ∷ 5 ∷ 2 ∷ 0 ∷ [];
  head = 19 ∷ 0 ∷ 1 ∷ 2 ∷ 26 ∷ [];
  rows = [];
}

-- String.m(); -- 17, at the callee
abbrev core_method : Sample
core_method = record {
  sheet =
      0 ∷ 0 ∷ 1 ∷ 0 ∷ 0 ∷ 0 ∷ 0 ∷ 2 ∷
      2 ∷ 0 ∷ 2 ∷ 0 ∷ 0 ∷ 0 ∷ 0 ∷ 0 ∷
      6 ∷ 0 ∷ 3 ∷ 0 ∷ 1 ∷ 2 ∷ 0 ∷ 1 ∷
      25 ∷ 0 ∷ 4 ∷ 0 ∷ 1 ∷ 3 ∷ 0 ∷ 0 ∷
      20 ∷ 0 ∷ 5 ∷ 0 ∷ 1 ∷ 4 ∷ 0 ∷ 0 ∷
      59 ∷ 0 ∷ 6 ∷ 0 ∷ 1 ∷ 5 ∷ 0 ∷ 0 ∷
      54 ∷ 0 ∷ 7 ∷ 0 ∷ 1 ∷ 6 ∷ 29 ∷ 0 ∷
      50 ∷ 0 ∷ 0 ∷ 0 ∷ 1 ∷ 7 ∷ 3 ∷ 0 ∷ [];
  head = 17 ∷ 0 ∷ 1 ∷ 6 ∷ 29 ∷ [];
  rows = [];
}

-- UIEvent(); -- 20: class 100, whose name is 7
abbrev core_init : Sample
core_init = record {
  sheet =
      0 ∷ 0 ∷ 1 ∷ 0 ∷ 0 ∷ 0 ∷ 0 ∷ 2 ∷
      2 ∷ 0 ∷ 2 ∷ 0 ∷ 0 ∷ 0 ∷ 0 ∷ 0 ∷
      6 ∷ 0 ∷ 3 ∷ 0 ∷ 1 ∷ 2 ∷ 0 ∷ 1 ∷
      25 ∷ 0 ∷ 4 ∷ 0 ∷ 1 ∷ 3 ∷ 0 ∷ 0 ∷
      20 ∷ 0 ∷ 5 ∷ 0 ∷ 1 ∷ 4 ∷ 0 ∷ 0 ∷
      59 ∷ 0 ∷ 6 ∷ 0 ∷ 1 ∷ 5 ∷ 0 ∷ 0 ∷
      50 ∷ 0 ∷ 0 ∷ 0 ∷ 1 ∷ 6 ∷ 7 ∷ 0 ∷ [];
  head = 20 ∷ 0 ∷ 1 ∷ 6 ∷ 7 ∷ [];
  rows = [];
}

-- a unit exports a function and a class p; another imports all: 16 at the import
abbrev import_twice : Sample
import_twice = record {
  sheet =
      0 ∷ 0 ∷ 1 ∷ 0 ∷ 0 ∷ 0 ∷ 0 ∷ 4 ∷
      2 ∷ 7 ∷ 2 ∷ 0 ∷ 0 ∷ 0 ∷ 0 ∷ 0 ∷
      7 ∷ 3 ∷ 0 ∷ 0 ∷ 1 ∷ 2 ∷ 26 ∷ 4 ∷
      4 ∷ 4 ∷ 0 ∷ 0 ∷ 1 ∷ 3 ∷ 26 ∷ 0 ∷
      6 ∷ 0 ∷ 5 ∷ 0 ∷ 1 ∷ 4 ∷ 0 ∷ 1 ∷
      25 ∷ 0 ∷ 6 ∷ 0 ∷ 1 ∷ 5 ∷ 0 ∷ 0 ∷
      30 ∷ 0 ∷ 0 ∷ 0 ∷ 1 ∷ 6 ∷ 3 ∷ 0 ∷
      2 ∷ 0 ∷ 8 ∷ 0 ∷ 0 ∷ 0 ∷ 0 ∷ 0 ∷
      3 ∷ 9 ∷ 0 ∷ 0 ∷ 1 ∷ 8 ∷ 1 ∷ 1 ∷
      6 ∷ 0 ∷ 10 ∷ 0 ∷ 1 ∷ 9 ∷ 0 ∷ 1 ∷
      25 ∷ 0 ∷ 0 ∷ 0 ∷ 1 ∷ 10 ∷ 0 ∷ 0 ∷ [];
  head = 16 ∷ 0 ∷ 1 ∷ 8 ∷ 26 ∷ [];
  rows = [];
}

-- blocks in each other from row r on, n more below the first
abbrev blocks : ℕ → ℕ → Sheet
blocks r zero = 25 ∷ 0 ∷ 0 ∷ 0 ∷ 1 ∷ r ∷ 0 ∷ 0 ∷ []
blocks r (suc n) = 25 ∷ 0 ∷ suc r ∷ 0 ∷ 1 ∷ r ∷ 0 ∷ 0 ∷ blocks (suc r) n

-- a unit function whose blocks lead down to row n, which has depth n
abbrev nested : ℕ → Sheet
nested n =
    0 ∷ 0 ∷ 1 ∷ 0 ∷ 0 ∷ 0 ∷ 0 ∷ 2 ∷
    2 ∷ 0 ∷ 2 ∷ 0 ∷ 0 ∷ 0 ∷ 0 ∷ 0 ∷
    6 ∷ 0 ∷ 3 ∷ 0 ∷ 1 ∷ 2 ∷ 0 ∷ 1 ∷ blocks 3 (n - 3)

-- depths 63 and 64 are accepted
abbrev depth_63 : Sample
depth_63 = record { sheet = nested 63; head = 0 ∷ 0 ∷ 0 ∷ 0 ∷ 0 ∷ 1 ∷ []; rows = (2 ∷ 20 ∷ []) ∷ [] }

abbrev depth_64 : Sample
depth_64 = record { sheet = nested 64; head = 0 ∷ 0 ∷ 0 ∷ 0 ∷ 0 ∷ 1 ∷ []; rows = (2 ∷ 20 ∷ []) ∷ [] }

-- depth 65 is refused: 4
abbrev depth_65 : Sample
depth_65 = record { sheet = nested 65; head = 4 ∷ []; rows = [] }

abbrev pub readings : List Sample
readings =
    branch_let ∷ both_branches ∷ shadowed ∷ first_use ∷ walk_order ∷ immutable ∷ itself ∷ distances ∷ hoisted ∷ main_unit
    ∷ inherited_init ∷ core_parent ∷ core_method ∷ core_init ∷ import_twice ∷ depth_63 ∷ depth_64 ∷ depth_65 ∷ []

pub results : map printed_of readings ≡ map expected readings
results = refl

-- S1 with a lent buffer of some words: the number of the refusal, and what the buffer then holds.
abbrev lending : ℕ → List ℕ
lending lent = let x : Outcome = outcome s1.sheet (bytes "f\np\n") lent in x.number ∷ buffer lent x

-- its four answer rows fill 32 words; zeros follow to the end; one word fewer is refused as 22
pub lent_enough : map lending (32 ∷ 33 ∷ []) ≡ (0 ∷ concat_map eight s1.rows) ∷ (0 ∷ concat_map eight s1.rows ++ 0 ∷ []) ∷ []
lent_enough = refl

pub lent_short : map lending (0 ∷ 31 ∷ []) ≡ (22 ∷ []) ∷ (22 ∷ replicate 31 0) ∷ []
lent_short = refl

-- columns that are no number: four with a leading zero, two of zeros alone, no digit, too large
pub no_numbers : map (λ t. is_number (bytes t))
    ("        05" ∷ "0000000005" ∷ "0123456789" ∷ " 000000010" ∷ "        00" ∷ "0000000000" ∷ "          " ∷ "4294967296" ∷ [])
    ≡ replicate 8 false
no_numbers = refl

-- columns that are a number: zero; one digit; zeros inside and at the end; nine and ten digits; the largest
abbrev numbers : List String
numbers =
    "         0" ∷ "         5" ∷ "        10" ∷ "   1002003" ∷ "   1000000" ∷ " 999999999" ∷ "1000000000" ∷ "4294967295" ∷ []

pub number_texts : map (λ t. is_number (bytes t)) numbers ≡ replicate 8 true
number_texts = refl

pub number_values : map (λ t. value (bytes t)) numbers ≡ 0 ∷ 5 ∷ 10 ∷ 1002003 ∷ 1000000 ∷ 999999999 ∷ 1000000000 ∷ 4294967295 ∷ []
number_values = refl

-- written again they are the same bytes
pub number_again : map (λ t. in_ten (value (bytes t))) numbers ≡ map bytes numbers
number_again = refl
