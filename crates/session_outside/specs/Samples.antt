-- Computed: the words of a small outside, what they hold, and the first of each name.
use Rattle.std.specs.Prelude.{◌≡◌, refl, [], ◌∷◌, ◌++◌, replicate}
use Rattle.definition.specs.Meaning.{named, function, class, global}
use Rattle.definition.specs.Outside.{Outside, core}
use Rattle.outside.specs.Words.{name_at, spaced_at, methods_at, over}
use Rattle.session_outside.specs.Written.{name_row, record_rows, outside_words, firsts}

-- a function and a class, which has fields 26 and 27 and the method 28 of one parameter, and a mutable global; numbers as an entry reads them
abbrev sample : Outside
sample =
    record {
      names = named 25 (function 2054) ∷ named 30 (class 2308) ∷ named 31 (global 7 1) ∷ [];
      records =
          record { number = 2308; name = 30; fields = 26 ∷ 27 ∷ []; methods = record { name = 28; fun = 2056; params = 1 } ∷ [] }
          ∷ record { number = 102; name = 9; fields = 21 ∷ 19 ∷ []; methods = [] }
          ∷ [];
      base = 0;
    }

-- names in rows 1 to 3, records in rows 4 and 5, members from word 48 on
words : outside_words sample
    ≡ (4 ∷ 6 ∷ 0 ∷ 0 ∷ 0 ∷ 0 ∷ 0 ∷ 0 ∷ [])
    ++ (25 ∷ 1 ∷ 2054 ∷ 0 ∷ 0 ∷ 0 ∷ 0 ∷ 0 ∷ [])
    ++ (30 ∷ 2 ∷ 2308 ∷ 0 ∷ 0 ∷ 0 ∷ 0 ∷ 0 ∷ [])
    ++ (31 ∷ 3 ∷ 7 ∷ 1 ∷ 0 ∷ 0 ∷ 0 ∷ 0 ∷ [])
    ++ (2308 ∷ 30 ∷ 48 ∷ 2 ∷ 50 ∷ 1 ∷ 0 ∷ 0 ∷ [])
    ++ (102 ∷ 9 ∷ 53 ∷ 2 ∷ 55 ∷ 0 ∷ 0 ∷ 0 ∷ [])
    ++ (26 ∷ 27 ∷ 28 ∷ 2056 ∷ 1 ∷ 21 ∷ 19 ∷ [])
unfolding name_row record_rows outside_words
words = refl

held : over (outside_words sample) ≡ sample
unfolding name_row record_rows outside_words over name_at spaced_at methods_at
held = refl

-- name 25 was declared twice, and name 1 hides a core name
latest : firsts (replicate 40 0) (named 25 (function 6) ∷ named 1 (global 0 0) ∷ named 25 (global 3 1) ∷ core.names)
    ≡ named 25 (function 6) ∷ named 1 (global 0 0) ∷ named 2 (class 4) ∷ named 3 (class 5) ∷ named 4 (class 7) ∷ named 5 (class 8) ∷ named 6 (class 9)
    ∷ named 7 (class 100) ∷ named 8 (class 101) ∷ named 9 (class 102) ∷ []
unfolding firsts
latest = refl
