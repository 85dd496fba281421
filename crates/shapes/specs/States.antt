-- The tables that the program reads by kind and by state of a child list.
use Rattle.std.specs.Prelude.{List, [], ◌∷◌, ℕ, get_or}
use Rattle.definition.specs.Shape.{Column, unread, up_to, name, row, global, mode, or_zero, Part, one, perhaps, many, only, statement, expression, never, nought}

-- entry j of row i of a table, 0 where there is none
abbrev pub entry_of : List (List ℕ) → ℕ → ℕ → ℕ
entry_of t i j = get_or (get_or t i []) j 0

-- of each kind: its class among children, the state in which its child list starts, the rules of its columns a and b
abbrev pub kind_table : List (List ℕ)
kind_table =
    (0 ∷ 2 ∷ 5 ∷ 10 ∷ [])
    ∷ (0 ∷ 0 ∷ 0 ∷ 0 ∷ [])
    ∷ (1 ∷ 3 ∷ 0 ∷ 0 ∷ [])
    ∷ (2 ∷ 4 ∷ 6 ∷ 2 ∷ [])
    ∷ (3 ∷ 5 ∷ 3 ∷ 4 ∷ [])
    ∷ (0 ∷ 0 ∷ 0 ∷ 0 ∷ [])
    ∷ (4 ∷ 6 ∷ 4 ∷ 2 ∷ [])
    ∷ (5 ∷ 1 ∷ 3 ∷ 7 ∷ [])
    ∷ (6 ∷ 1 ∷ 3 ∷ 11 ∷ [])
    ∷ (7 ∷ 1 ∷ 3 ∷ 0 ∷ [])
    ∷ (8 ∷ 1 ∷ 3 ∷ 0 ∷ [])
    ∷ (9 ∷ 1 ∷ 3 ∷ 0 ∷ [])
    ∷ (0 ∷ 0 ∷ 0 ∷ 0 ∷ [])
    ∷ (0 ∷ 0 ∷ 0 ∷ 0 ∷ [])
    ∷ (0 ∷ 0 ∷ 0 ∷ 0 ∷ [])
    ∷ (0 ∷ 0 ∷ 0 ∷ 0 ∷ [])
    ∷ (0 ∷ 0 ∷ 0 ∷ 0 ∷ [])
    ∷ (0 ∷ 0 ∷ 0 ∷ 0 ∷ [])
    ∷ (0 ∷ 0 ∷ 0 ∷ 0 ∷ [])
    ∷ (0 ∷ 0 ∷ 0 ∷ 0 ∷ [])
    ∷ (11 ∷ 7 ∷ 0 ∷ 0 ∷ [])
    ∷ (11 ∷ 8 ∷ 0 ∷ 0 ∷ [])
    ∷ (11 ∷ 7 ∷ 0 ∷ 0 ∷ [])
    ∷ (11 ∷ 1 ∷ 0 ∷ 0 ∷ [])
    ∷ (11 ∷ 1 ∷ 0 ∷ 0 ∷ [])
    ∷ (11 ∷ 9 ∷ 0 ∷ 0 ∷ [])
    ∷ (11 ∷ 10 ∷ 0 ∷ 0 ∷ [])
    ∷ (11 ∷ 11 ∷ 0 ∷ 0 ∷ [])
    ∷ (11 ∷ 7 ∷ 0 ∷ 0 ∷ [])
    ∷ (11 ∷ 7 ∷ 3 ∷ 12 ∷ [])
    ∷ (11 ∷ 1 ∷ 8 ∷ 0 ∷ [])
    ∷ (0 ∷ 0 ∷ 0 ∷ 0 ∷ [])
    ∷ (0 ∷ 0 ∷ 0 ∷ 0 ∷ [])
    ∷ (0 ∷ 0 ∷ 0 ∷ 0 ∷ [])
    ∷ (0 ∷ 0 ∷ 0 ∷ 0 ∷ [])
    ∷ (0 ∷ 0 ∷ 0 ∷ 0 ∷ [])
    ∷ (0 ∷ 0 ∷ 0 ∷ 0 ∷ [])
    ∷ (0 ∷ 0 ∷ 0 ∷ 0 ∷ [])
    ∷ (0 ∷ 0 ∷ 0 ∷ 0 ∷ [])
    ∷ (0 ∷ 0 ∷ 0 ∷ 0 ∷ [])
    ∷ (12 ∷ 1 ∷ 0 ∷ 0 ∷ [])
    ∷ (12 ∷ 1 ∷ 0 ∷ 0 ∷ [])
    ∷ (12 ∷ 1 ∷ 0 ∷ 0 ∷ [])
    ∷ (12 ∷ 1 ∷ 1 ∷ 1 ∷ [])
    ∷ (12 ∷ 1 ∷ 1 ∷ 1 ∷ [])
    ∷ (12 ∷ 1 ∷ 1 ∷ 1 ∷ [])
    ∷ (12 ∷ 1 ∷ 1 ∷ 1 ∷ [])
    ∷ (12 ∷ 12 ∷ 0 ∷ 0 ∷ [])
    ∷ (12 ∷ 13 ∷ 0 ∷ 0 ∷ [])
    ∷ (10 ∷ 7 ∷ 1 ∷ 1 ∷ [])
    ∷ (12 ∷ 1 ∷ 3 ∷ 0 ∷ [])
    ∷ (12 ∷ 1 ∷ 3 ∷ 0 ∷ [])
    ∷ (12 ∷ 14 ∷ 9 ∷ 0 ∷ [])
    ∷ (12 ∷ 8 ∷ 0 ∷ 0 ∷ [])
    ∷ (12 ∷ 7 ∷ 3 ∷ 0 ∷ [])
    ∷ (12 ∷ 7 ∷ 3 ∷ 0 ∷ [])
    ∷ (12 ∷ 7 ∷ 1 ∷ 1 ∷ [])
    ∷ (12 ∷ 8 ∷ 1 ∷ 1 ∷ [])
    ∷ (12 ∷ 15 ∷ 0 ∷ 0 ∷ [])
    ∷ (12 ∷ 16 ∷ 0 ∷ 0 ∷ [])
    ∷ []

-- of each state of a child list: 1 if the list may end there, then the state after a child of each class
abbrev pub state_table : List (List ℕ)
state_table =
    (0 ∷ 0 ∷ 0 ∷ 0 ∷ 0 ∷ 0 ∷ 0 ∷ 0 ∷ 0 ∷ 0 ∷ 0 ∷ 0 ∷ 0 ∷ 0 ∷ [])
    ∷ (1 ∷ 0 ∷ 0 ∷ 0 ∷ 0 ∷ 0 ∷ 0 ∷ 0 ∷ 0 ∷ 0 ∷ 0 ∷ 0 ∷ 0 ∷ 0 ∷ [])
    ∷ (1 ∷ 0 ∷ 2 ∷ 0 ∷ 0 ∷ 0 ∷ 0 ∷ 0 ∷ 0 ∷ 0 ∷ 0 ∷ 0 ∷ 0 ∷ 0 ∷ [])
    ∷ (0 ∷ 0 ∷ 0 ∷ 3 ∷ 17 ∷ 1 ∷ 18 ∷ 19 ∷ 0 ∷ 0 ∷ 0 ∷ 0 ∷ 0 ∷ 0 ∷ [])
    ∷ (1 ∷ 0 ∷ 0 ∷ 0 ∷ 0 ∷ 0 ∷ 0 ∷ 0 ∷ 4 ∷ 0 ∷ 0 ∷ 0 ∷ 0 ∷ 0 ∷ [])
    ∷ (1 ∷ 0 ∷ 0 ∷ 0 ∷ 0 ∷ 20 ∷ 0 ∷ 0 ∷ 0 ∷ 5 ∷ 0 ∷ 0 ∷ 0 ∷ 0 ∷ [])
    ∷ (0 ∷ 0 ∷ 0 ∷ 0 ∷ 0 ∷ 0 ∷ 0 ∷ 0 ∷ 0 ∷ 0 ∷ 6 ∷ 0 ∷ 1 ∷ 0 ∷ [])
    ∷ (0 ∷ 0 ∷ 0 ∷ 0 ∷ 0 ∷ 0 ∷ 0 ∷ 0 ∷ 0 ∷ 0 ∷ 0 ∷ 0 ∷ 0 ∷ 1 ∷ [])
    ∷ (0 ∷ 0 ∷ 0 ∷ 0 ∷ 0 ∷ 0 ∷ 0 ∷ 0 ∷ 0 ∷ 0 ∷ 0 ∷ 0 ∷ 0 ∷ 7 ∷ [])
    ∷ (1 ∷ 0 ∷ 0 ∷ 0 ∷ 0 ∷ 0 ∷ 0 ∷ 0 ∷ 0 ∷ 0 ∷ 0 ∷ 0 ∷ 9 ∷ 0 ∷ [])
    ∷ (0 ∷ 0 ∷ 0 ∷ 0 ∷ 0 ∷ 0 ∷ 0 ∷ 0 ∷ 0 ∷ 0 ∷ 0 ∷ 0 ∷ 0 ∷ 21 ∷ [])
    ∷ (0 ∷ 0 ∷ 0 ∷ 0 ∷ 0 ∷ 0 ∷ 0 ∷ 0 ∷ 0 ∷ 0 ∷ 0 ∷ 0 ∷ 22 ∷ 0 ∷ [])
    ∷ (1 ∷ 0 ∷ 0 ∷ 0 ∷ 0 ∷ 0 ∷ 0 ∷ 0 ∷ 0 ∷ 0 ∷ 0 ∷ 0 ∷ 0 ∷ 12 ∷ [])
    ∷ (1 ∷ 0 ∷ 0 ∷ 0 ∷ 0 ∷ 0 ∷ 0 ∷ 0 ∷ 0 ∷ 0 ∷ 0 ∷ 13 ∷ 0 ∷ 0 ∷ [])
    ∷ (0 ∷ 0 ∷ 0 ∷ 0 ∷ 0 ∷ 1 ∷ 0 ∷ 0 ∷ 0 ∷ 0 ∷ 0 ∷ 0 ∷ 0 ∷ 0 ∷ [])
    ∷ (0 ∷ 0 ∷ 0 ∷ 0 ∷ 0 ∷ 0 ∷ 0 ∷ 0 ∷ 0 ∷ 0 ∷ 0 ∷ 0 ∷ 0 ∷ 8 ∷ [])
    ∷ (0 ∷ 0 ∷ 0 ∷ 0 ∷ 0 ∷ 0 ∷ 0 ∷ 0 ∷ 0 ∷ 0 ∷ 0 ∷ 0 ∷ 0 ∷ 12 ∷ [])
    ∷ (0 ∷ 0 ∷ 0 ∷ 0 ∷ 17 ∷ 1 ∷ 0 ∷ 0 ∷ 0 ∷ 0 ∷ 0 ∷ 0 ∷ 0 ∷ 0 ∷ [])
    ∷ (0 ∷ 0 ∷ 0 ∷ 0 ∷ 17 ∷ 1 ∷ 18 ∷ 19 ∷ 0 ∷ 0 ∷ 0 ∷ 0 ∷ 0 ∷ 0 ∷ [])
    ∷ (0 ∷ 0 ∷ 0 ∷ 0 ∷ 17 ∷ 1 ∷ 0 ∷ 19 ∷ 0 ∷ 0 ∷ 0 ∷ 0 ∷ 0 ∷ 0 ∷ [])
    ∷ (1 ∷ 0 ∷ 0 ∷ 0 ∷ 0 ∷ 20 ∷ 0 ∷ 0 ∷ 0 ∷ 0 ∷ 0 ∷ 0 ∷ 0 ∷ 0 ∷ [])
    ∷ (0 ∷ 0 ∷ 0 ∷ 0 ∷ 0 ∷ 0 ∷ 0 ∷ 0 ∷ 0 ∷ 0 ∷ 0 ∷ 0 ∷ 23 ∷ 0 ∷ [])
    ∷ (0 ∷ 0 ∷ 0 ∷ 0 ∷ 0 ∷ 0 ∷ 0 ∷ 0 ∷ 0 ∷ 0 ∷ 0 ∷ 0 ∷ 0 ∷ 24 ∷ [])
    ∷ (1 ∷ 0 ∷ 0 ∷ 0 ∷ 0 ∷ 0 ∷ 0 ∷ 0 ∷ 0 ∷ 0 ∷ 0 ∷ 0 ∷ 1 ∷ 0 ∷ [])
    ∷ (0 ∷ 0 ∷ 0 ∷ 0 ∷ 0 ∷ 0 ∷ 0 ∷ 0 ∷ 0 ∷ 0 ∷ 0 ∷ 0 ∷ 25 ∷ 0 ∷ [])
    ∷ (0 ∷ 0 ∷ 0 ∷ 0 ∷ 0 ∷ 0 ∷ 0 ∷ 0 ∷ 0 ∷ 0 ∷ 0 ∷ 0 ∷ 1 ∷ 0 ∷ [])
    ∷ []

-- what is left of a child list in each state
abbrev pub states : List (List Part)
states =
    (one [] ∷ [])
    ∷ ([])
    ∷ (many (only 2) ∷ [])
    ∷ (many (only 3) ∷ many (only 7) ∷ many (only 8) ∷ many (only 4) ∷ one (only 6) ∷ [])
    ∷ (many (only 9) ∷ [])
    ∷ (many (only 10) ∷ many (only 6) ∷ [])
    ∷ (many (only 11) ∷ one statement ∷ [])
    ∷ (one expression ∷ [])
    ∷ (one expression ∷ one expression ∷ [])
    ∷ (many statement ∷ [])
    ∷ (one expression ∷ one statement ∷ perhaps statement ∷ [])
    ∷ (one statement ∷ one expression ∷ one statement ∷ one statement ∷ [])
    ∷ (many expression ∷ [])
    ∷ (many (only 49) ∷ [])
    ∷ (one (only 6) ∷ [])
    ∷ (one expression ∷ one expression ∷ one expression ∷ [])
    ∷ (one expression ∷ many expression ∷ [])
    ∷ (many (only 4) ∷ one (only 6) ∷ [])
    ∷ (many (only 7) ∷ many (only 8) ∷ many (only 4) ∷ one (only 6) ∷ [])
    ∷ (many (only 8) ∷ many (only 4) ∷ one (only 6) ∷ [])
    ∷ (many (only 6) ∷ [])
    ∷ (one statement ∷ perhaps statement ∷ [])
    ∷ (one expression ∷ one statement ∷ one statement ∷ [])
    ∷ (perhaps statement ∷ [])
    ∷ (one statement ∷ one statement ∷ [])
    ∷ (one statement ∷ []) ∷ []

-- what is left in state i, or what no list fits where there is no such state
abbrev pub state_at : ℕ → List Part
state_at i = get_or states i never

-- the rules of columns
abbrev pub rules : List Column
rules =
    nought ∷ unread ∷ up_to 1 ∷ name ∷ or_zero name ∷ up_to 1000000 ∷ row 2 ∷ row 6 ∷ row 4 ∷ or_zero (row 4) ∷ or_zero (row 6) ∷ global ∷ mode ∷ []

-- rule i, or that of a column that is 0
abbrev pub rule_at : ℕ → Column
rule_at i = get_or rules i nought
