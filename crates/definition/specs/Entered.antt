-- A sheet over an outside other than the core: entry 1 of a session, after an entry that declared a function f, a class C with a field x, init and a
-- method m, and a global g. Names from 25 on: f, C, g, x, m, D, h, p.
use Rattle.std.specs.Prelude.{◌≡◌, refl, List, [], ◌∷◌, map, ℕ}
use Rattle.definition.specs.Sheet.{Sheet}
use Rattle.definition.specs.Meaning.{named, function, class, global}
use Rattle.definition.specs.Outside.{Outside, core}
use Rattle.definition.specs.Answer.{eight}
use Rattle.definition.specs.Outcome.{asked, report}

-- f is function 5 of entry 0, C its class 258, init and m its functions 3 and 4: in the walk 2,048 more each
abbrev pub earlier : Outside
earlier =
    record {
      names = named 25 (function 2053) ∷ named 26 (class 2306) ∷ named 27 (global 0 1) ∷ core.names;
      records =
          record {
            number = 2306;
            name = 26;
            fields = 28 ∷ [];
            methods = record { name = 23; fun = 2051; params = 2 } ∷ record { name = 29; fun = 2052; params = 1 } ∷ [];
          }
          ∷ core.records;
      base = 2048;
    }

-- class D : C {} f; C(1); C.m(1); g = 1; let h = |p| return p
abbrev pub entry : Sheet
entry =
    0 ∷ 0 ∷ 1 ∷ 0 ∷ 0 ∷ 0 ∷ 1 ∷ 0 ∷
    2 ∷ 0 ∷ 2 ∷ 0 ∷ 0 ∷ 0 ∷ 0 ∷ 0 ∷
    4 ∷ 3 ∷ 0 ∷ 0 ∷ 1 ∷ 1 ∷ 30 ∷ 26 ∷
    6 ∷ 0 ∷ 4 ∷ 0 ∷ 1 ∷ 1 ∷ 0 ∷ 1 ∷
    25 ∷ 0 ∷ 5 ∷ 0 ∷ 1 ∷ 1 ∷ 0 ∷ 0 ∷
    30 ∷ 6 ∷ 0 ∷ 0 ∷ 1 ∷ 2 ∷ 2 ∷ 0 ∷
    20 ∷ 8 ∷ 7 ∷ 0 ∷ 1 ∷ 3 ∷ 0 ∷ 0 ∷
    50 ∷ 0 ∷ 0 ∷ 0 ∷ 1 ∷ 3 ∷ 25 ∷ 0 ∷
    20 ∷ 12 ∷ 9 ∷ 0 ∷ 1 ∷ 4 ∷ 0 ∷ 0 ∷
    59 ∷ 0 ∷ 10 ∷ 0 ∷ 1 ∷ 4 ∷ 0 ∷ 0 ∷
    50 ∷ 11 ∷ 0 ∷ 0 ∷ 1 ∷ 4 ∷ 26 ∷ 0 ∷
    43 ∷ 0 ∷ 0 ∷ 0 ∷ 1 ∷ 5 ∷ 1 ∷ 0 ∷
    20 ∷ 17 ∷ 13 ∷ 0 ∷ 1 ∷ 6 ∷ 0 ∷ 0 ∷
    59 ∷ 0 ∷ 14 ∷ 0 ∷ 1 ∷ 6 ∷ 0 ∷ 0 ∷
    54 ∷ 16 ∷ 15 ∷ 0 ∷ 1 ∷ 6 ∷ 29 ∷ 0 ∷
    50 ∷ 0 ∷ 0 ∷ 0 ∷ 1 ∷ 6 ∷ 26 ∷ 0 ∷
    43 ∷ 0 ∷ 0 ∷ 0 ∷ 1 ∷ 7 ∷ 1 ∷ 0 ∷
    21 ∷ 20 ∷ 18 ∷ 0 ∷ 1 ∷ 8 ∷ 0 ∷ 0 ∷
    50 ∷ 19 ∷ 0 ∷ 0 ∷ 1 ∷ 8 ∷ 27 ∷ 0 ∷
    43 ∷ 0 ∷ 0 ∷ 0 ∷ 1 ∷ 9 ∷ 1 ∷ 0 ∷
    29 ∷ 0 ∷ 21 ∷ 0 ∷ 1 ∷ 10 ∷ 31 ∷ 0 ∷
    52 ∷ 0 ∷ 22 ∷ 0 ∷ 1 ∷ 10 ∷ 0 ∷ 0 ∷
    6 ∷ 0 ∷ 23 ∷ 0 ∷ 1 ∷ 10 ∷ 0 ∷ 0 ∷
    11 ∷ 24 ∷ 0 ∷ 0 ∷ 1 ∷ 10 ∷ 32 ∷ 0 ∷
    22 ∷ 0 ∷ 25 ∷ 0 ∷ 1 ∷ 10 ∷ 0 ∷ 0 ∷
    50 ∷ 0 ∷ 0 ∷ 0 ∷ 1 ∷ 11 ∷ 32 ∷ 0 ∷ []

-- what comes of it: numbers as F-1 has them
abbrev pub expected : List (List ℕ)
expected =
    (0 ∷ 0 ∷ 0 ∷ 0 ∷ 0 ∷ 12 ∷ 1 ∷ [])
    ∷ (2 ∷ 22 ∷ 258 ∷ 0 ∷ 1 ∷ 2 ∷ []) ∷ (2 ∷ 23 ∷ 0 ∷ 28 ∷ []) ∷ (2 ∷ 24 ∷ 23 ∷ 3 ∷ []) ∷ (2 ∷ 24 ∷ 29 ∷ 4 ∷ [])
    ∷ (3 ∷ 20 ∷ [])
    ∷ (7 ∷ 1 ∷ 5 ∷ [])
    ∷ (10 ∷ 2 ∷ 258 ∷ [])
    ∷ (14 ∷ 1 ∷ 4 ∷ [])
    ∷ (18 ∷ 3 ∷ 0 ∷ 0 ∷ 1 ∷ [])
    ∷ (20 ∷ 1 ∷ 2070 ∷ [])
    ∷ (22 ∷ 20 ∷ [])
    ∷ (25 ∷ 4 ∷ 0 ∷ 2070 ∷ [])
    ∷ []

pub entered : report (asked earlier 16384 entry) ≡ map eight expected
entered = refl
