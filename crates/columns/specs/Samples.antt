-- Computed: a small sheet by column and back, what is refused, and targets of several lengths.
use Rattle.std.specs.Prelude.{◌≡◌, refl, List, [], ◌∷◌, ◌++◌, map, ℕ, replicate}
use Rattle.columns.specs.Columns.{is_link, stored, restored, table, to_columns, from_columns, first_no, target_after}

-- three rows; row 1 has links of 0, row 2 the largest words
abbrev sheet : List ℕ
sheet =
    (10 ∷ 0 ∷ 1 ∷ 13 ∷ 14 ∷ 15 ∷ 16 ∷ 17 ∷ [])
    ++ (20 ∷ 0 ∷ 0 ∷ 23 ∷ 24 ∷ 25 ∷ 26 ∷ 27 ∷ [])
    ++ (4294967295 ∷ 1 ∷ 4294967295 ∷ 33 ∷ 34 ∷ 35 ∷ 36 ∷ 4294967295 ∷ [])

-- kinds; next and child less 0, 1 and 2; the other columns
abbrev by_column : List ℕ
by_column =
    (10 ∷ 20 ∷ 4294967295 ∷ [])
    ++ (0 ∷ 4294967295 ∷ 4294967295 ∷ [])
    ++ (1 ∷ 4294967295 ∷ 4294967293 ∷ [])
    ++ (13 ∷ 23 ∷ 33 ∷ 14 ∷ 24 ∷ 34 ∷ 15 ∷ 25 ∷ 35 ∷ 16 ∷ 26 ∷ 36 ∷ 17 ∷ 27 ∷ 4294967295 ∷ [])

stored_by_column : to_columns sheet ≡ by_column
unfolding is_link stored table to_columns
stored_by_column = refl

read_back : from_columns by_column ≡ sheet
unfolding is_link restored table from_columns
read_back = refl

-- the words of the sheet taken for a sheet by column: 0, 1 and 2 more in next and child
taken_for_columns : from_columns sheet
    ≡ (10 ∷ 13 ∷ 16 ∷ 0 ∷ 24 ∷ 27 ∷ 4294967295 ∷ 35 ∷ [])
    ++ (0 ∷ 15 ∷ 18 ∷ 0 ∷ 25 ∷ 4294967295 ∷ 33 ∷ 36 ∷ [])
    ++ (1 ∷ 17 ∷ 22 ∷ 23 ∷ 26 ∷ 1 ∷ 34 ∷ 4294967295 ∷ [])
unfolding is_link restored table from_columns
taken_for_columns = refl

-- a link of 1 in row 2 becomes 2^32 - 1, and comes back as 1; a kind stays
around_zero : map (λ c. stored c 2 1) (0 ∷ 1 ∷ 2 ∷ 3 ∷ []) ++ map (λ c. restored c 2 4294967295) (0 ∷ 1 ∷ 2 ∷ 3 ∷ [])
    ≡ 1 ∷ 4294967295 ∷ 4294967295 ∷ 1 ∷ 4294967295 ∷ 1 ∷ 1 ∷ 4294967295 ∷ []
unfolding is_link stored restored
around_zero = refl

-- no words, 7, 8, 9, 2,048 rows and 2,049, with room
refusals : map (λ n. first_no (replicate n 0) 16392) (0 ∷ 7 ∷ 8 ∷ 9 ∷ 16384 ∷ 16392 ∷ []) ≡ 1 ∷ 1 ∷ 0 ∷ 1 ∷ 0 ∷ 1 ∷ []
unfolding first_no
refusals = refl

-- 8 words with room for 7, and 7 with room for 6
no_room : first_no (replicate 8 0) 7 ∷ first_no (replicate 7 0) 6 ∷ [] ≡ 22 ∷ 1 ∷ []
unfolding first_no
no_room = refl

-- a target two words longer, an exact one, one a word shorter
targets : map (target_after to_columns sheet) (26 ∷ 24 ∷ 23 ∷ []) ≡ (by_column ++ 0 ∷ 0 ∷ []) ∷ by_column ∷ replicate 23 0 ∷ []
unfolding is_link stored table to_columns first_no target_after
targets = refl
