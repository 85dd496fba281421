-- A small run of entries, computed: a session with room for 24 name bytes, 2 entries, 6 declarations, 2 classes and 7 members.
use Rattle.std.specs.Prelude.{◌≡◌, refl, true, false, List, [], ◌∷◌, ◌++◌, map, ℕ, set, replicate}
use Rattle.definition.specs.Bytes.{bytes}
use Rattle.definition.specs.Sheet.{Sheet}
use Rattle.definition.specs.Answer.{eight}
use Rattle.definition.specs.Outcome.{report}
use Rattle.session.specs.Words.{Room, fixed_bytes, fresh_words, fresh_bytes, session_fits, enter_outcome, enter_words, enter_bytes, name_text}

abbrev pub little : Room
little = record { bytes = 24; entries = 2; laid = 6; classes = 2; members = 7 }

-- the report of an entry, with 60 answer rows lent
abbrev pub told : List ℕ → List ℕ → Sheet → List ℕ → List (List ℕ)
told w n s ns = report (enter_outcome little w n s ns 480)

-- class A { init(a, p) { a.q = p; } m(a) {} } let f = || return nil; let var b = nil;
-- Names: 25 A, 26 a, 27 p, 28 q, 29 m, 30 f, 31 b; 23 is init.
abbrev pub sheet0 : Sheet
sheet0 =
    0 ∷ 0 ∷ 1 ∷ 0 ∷ 0 ∷ 0 ∷ 0 ∷ 14 ∷
    2 ∷ 0 ∷ 2 ∷ 0 ∷ 0 ∷ 0 ∷ 0 ∷ 0 ∷
    4 ∷ 14 ∷ 3 ∷ 0 ∷ 1 ∷ 2 ∷ 25 ∷ 0 ∷
    6 ∷ 11 ∷ 4 ∷ 0 ∷ 1 ∷ 3 ∷ 23 ∷ 0 ∷
    11 ∷ 5 ∷ 0 ∷ 0 ∷ 1 ∷ 4 ∷ 26 ∷ 0 ∷
    11 ∷ 6 ∷ 0 ∷ 0 ∷ 1 ∷ 5 ∷ 27 ∷ 0 ∷
    25 ∷ 0 ∷ 7 ∷ 0 ∷ 1 ∷ 6 ∷ 0 ∷ 0 ∷
    21 ∷ 0 ∷ 8 ∷ 0 ∷ 1 ∷ 7 ∷ 0 ∷ 0 ∷
    54 ∷ 10 ∷ 9 ∷ 0 ∷ 1 ∷ 8 ∷ 28 ∷ 0 ∷
    50 ∷ 0 ∷ 0 ∷ 0 ∷ 1 ∷ 9 ∷ 26 ∷ 0 ∷
    50 ∷ 0 ∷ 0 ∷ 0 ∷ 1 ∷ 10 ∷ 27 ∷ 0 ∷
    6 ∷ 0 ∷ 12 ∷ 0 ∷ 1 ∷ 11 ∷ 29 ∷ 0 ∷
    11 ∷ 13 ∷ 0 ∷ 0 ∷ 1 ∷ 12 ∷ 26 ∷ 0 ∷
    25 ∷ 0 ∷ 0 ∷ 0 ∷ 1 ∷ 13 ∷ 0 ∷ 0 ∷
    6 ∷ 0 ∷ 15 ∷ 0 ∷ 1 ∷ 14 ∷ 0 ∷ 1 ∷
    25 ∷ 0 ∷ 16 ∷ 0 ∷ 1 ∷ 15 ∷ 0 ∷ 0 ∷
    29 ∷ 21 ∷ 17 ∷ 0 ∷ 1 ∷ 16 ∷ 30 ∷ 0 ∷
    52 ∷ 0 ∷ 18 ∷ 0 ∷ 1 ∷ 17 ∷ 0 ∷ 0 ∷
    6 ∷ 0 ∷ 19 ∷ 0 ∷ 1 ∷ 18 ∷ 0 ∷ 0 ∷
    22 ∷ 0 ∷ 20 ∷ 0 ∷ 1 ∷ 19 ∷ 0 ∷ 0 ∷
    40 ∷ 0 ∷ 0 ∷ 0 ∷ 1 ∷ 20 ∷ 0 ∷ 0 ∷
    29 ∷ 23 ∷ 22 ∷ 0 ∷ 1 ∷ 21 ∷ 31 ∷ 1 ∷
    40 ∷ 0 ∷ 0 ∷ 0 ∷ 1 ∷ 22 ∷ 0 ∷ 0 ∷
    30 ∷ 0 ∷ 0 ∷ 0 ∷ 1 ∷ 23 ∷ 2 ∷ 0 ∷ []

abbrev pub names0 : List ℕ
names0 = bytes "A\na\np\nq\nm\nf\nb\n"

pub fresh_fits : session_fits little (fresh_words little) (fresh_bytes little) ≡ true
fresh_fits = refl

-- A has field q, which init registers; f is function 18, b global 0
pub first_told : told (fresh_words little) (fresh_bytes little) sheet0 names0
    ≡ map eight (
    (0 ∷ 0 ∷ 0 ∷ 0 ∷ 0 ∷ 12 ∷ 1 ∷ [])
    ∷ (2 ∷ 22 ∷ 0 ∷ 0 ∷ 1 ∷ 2 ∷ [])
    ∷ (2 ∷ 23 ∷ 0 ∷ 28 ∷ [])
    ∷ (2 ∷ 24 ∷ 23 ∷ 3 ∷ [])
    ∷ (2 ∷ 24 ∷ 29 ∷ 11 ∷ [])
    ∷ (3 ∷ 20 ∷ [])
    ∷ (9 ∷ 4 ∷ 0 ∷ 3 ∷ [])
    ∷ (10 ∷ 4 ∷ 1 ∷ 3 ∷ [])
    ∷ (11 ∷ 20 ∷ [])
    ∷ (14 ∷ 20 ∷ [])
    ∷ (16 ∷ 1 ∷ 18 ∷ [])
    ∷ (18 ∷ 20 ∷ [])
    ∷ (21 ∷ 3 ∷ 0 ∷ 0 ∷ 1 ∷ [])
    ∷ [])
first_told = refl

-- One entry: 12 names on show, 7 names of 14 bytes; A, f and b are laid over; a class with three members.
abbrev pub words1 : List ℕ
words1 =
    1 ∷ 1 ∷ 12 ∷ 7 ∷ 14 ∷ 3 ∷ 1 ∷ 3 ∷
    7 ∷ 14 ∷ 3 ∷ 1 ∷ 3 ∷
    0 ∷ 0 ∷ 0 ∷ 0 ∷ 0 ∷
    25 ∷ 2 ∷ 258 ∷ 0 ∷
    30 ∷ 1 ∷ 18 ∷ 0 ∷
    31 ∷ 3 ∷ 0 ∷ 1 ∷
    0 ∷ 0 ∷ 0 ∷ 0 ∷
    0 ∷ 0 ∷ 0 ∷ 0 ∷
    0 ∷ 0 ∷ 0 ∷ 0 ∷
    258 ∷ 25 ∷ 0 ∷ 1 ∷ 2 ∷
    0 ∷ 0 ∷ 0 ∷ 0 ∷ 0 ∷
    28 ∷ 0 ∷ 0 ∷
    23 ∷ 3 ∷ 2 ∷
    29 ∷ 11 ∷ 1 ∷
    0 ∷ 0 ∷ 0 ∷
    0 ∷ 0 ∷ 0 ∷
    0 ∷ 0 ∷ 0 ∷
    0 ∷ 0 ∷ 0 ∷ []

pub first_words : enter_words little (fresh_words little) (fresh_bytes little) sheet0 names0 480 ≡ words1
first_words = refl

abbrev pub bytes1 : List ℕ
bytes1 = fixed_bytes ++ names0 ++ replicate 10 0

pub first_bytes_lem : enter_bytes little (fresh_words little) (fresh_bytes little) sheet0 names0 480 ≡ bytes1
first_bytes_lem = refl

pub first_fits : session_fits little words1 bytes1 ≡ true
first_fits = refl

-- class B : A {} f; A(nil); A.m(nil); b = nil; let f = nil;
-- The entry's names: 25 f, 26 A, 27 b, 28 m, 29 B. Of these B is new in the session, as 32.
abbrev pub sheet1 : Sheet
sheet1 =
    0 ∷ 0 ∷ 1 ∷ 0 ∷ 0 ∷ 0 ∷ 1 ∷ 3 ∷
    2 ∷ 0 ∷ 2 ∷ 0 ∷ 0 ∷ 0 ∷ 0 ∷ 0 ∷
    4 ∷ 3 ∷ 0 ∷ 0 ∷ 1 ∷ 2 ∷ 29 ∷ 26 ∷
    6 ∷ 0 ∷ 4 ∷ 0 ∷ 1 ∷ 3 ∷ 0 ∷ 1 ∷
    25 ∷ 0 ∷ 5 ∷ 0 ∷ 1 ∷ 4 ∷ 0 ∷ 0 ∷
    20 ∷ 7 ∷ 6 ∷ 0 ∷ 1 ∷ 5 ∷ 0 ∷ 0 ∷
    50 ∷ 0 ∷ 0 ∷ 0 ∷ 1 ∷ 6 ∷ 25 ∷ 0 ∷
    20 ∷ 11 ∷ 8 ∷ 0 ∷ 1 ∷ 7 ∷ 0 ∷ 0 ∷
    59 ∷ 0 ∷ 9 ∷ 0 ∷ 1 ∷ 8 ∷ 0 ∷ 0 ∷
    50 ∷ 10 ∷ 0 ∷ 0 ∷ 1 ∷ 9 ∷ 26 ∷ 0 ∷
    40 ∷ 0 ∷ 0 ∷ 0 ∷ 1 ∷ 10 ∷ 0 ∷ 0 ∷
    20 ∷ 16 ∷ 12 ∷ 0 ∷ 1 ∷ 11 ∷ 0 ∷ 0 ∷
    59 ∷ 0 ∷ 13 ∷ 0 ∷ 1 ∷ 12 ∷ 0 ∷ 0 ∷
    54 ∷ 15 ∷ 14 ∷ 0 ∷ 1 ∷ 13 ∷ 28 ∷ 0 ∷
    50 ∷ 0 ∷ 0 ∷ 0 ∷ 1 ∷ 14 ∷ 26 ∷ 0 ∷
    40 ∷ 0 ∷ 0 ∷ 0 ∷ 1 ∷ 15 ∷ 0 ∷ 0 ∷
    21 ∷ 19 ∷ 17 ∷ 0 ∷ 1 ∷ 16 ∷ 0 ∷ 0 ∷
    50 ∷ 18 ∷ 0 ∷ 0 ∷ 1 ∷ 17 ∷ 27 ∷ 0 ∷
    40 ∷ 0 ∷ 0 ∷ 0 ∷ 1 ∷ 18 ∷ 0 ∷ 0 ∷
    29 ∷ 21 ∷ 20 ∷ 0 ∷ 1 ∷ 19 ∷ 25 ∷ 0 ∷
    40 ∷ 0 ∷ 0 ∷ 0 ∷ 1 ∷ 20 ∷ 0 ∷ 0 ∷
    30 ∷ 0 ∷ 0 ∷ 0 ∷ 1 ∷ 21 ∷ 2 ∷ 0 ∷ []

abbrev pub names1 : List ℕ
names1 = bytes "f\nA\nb\nm\nB\n"

-- B inherits from class 258 of entry 0; f is function 18 until its let
pub second_told : told words1 bytes1 sheet1 names1
    ≡ map eight (
    (0 ∷ 0 ∷ 0 ∷ 0 ∷ 0 ∷ 10 ∷ 2 ∷ [])
    ∷ (2 ∷ 22 ∷ 258 ∷ 0 ∷ 1 ∷ 2 ∷ [])
    ∷ (2 ∷ 23 ∷ 0 ∷ 28 ∷ [])
    ∷ (2 ∷ 24 ∷ 23 ∷ 3 ∷ [])
    ∷ (2 ∷ 24 ∷ 29 ∷ 11 ∷ [])
    ∷ (3 ∷ 20 ∷ [])
    ∷ (6 ∷ 1 ∷ 18 ∷ [])
    ∷ (9 ∷ 2 ∷ 258 ∷ [])
    ∷ (13 ∷ 1 ∷ 11 ∷ [])
    ∷ (17 ∷ 3 ∷ 0 ∷ 0 ∷ 1 ∷ [])
    ∷ (19 ∷ 3 ∷ 1 ∷ [])
    ∷ [])
second_told = refl

-- B is class 2,306, and f global 1 now: f, redeclared, is on show once.
abbrev pub words2 : List ℕ
words2 =
    2 ∷ 2 ∷ 13 ∷ 8 ∷ 16 ∷ 5 ∷ 2 ∷ 6 ∷
    7 ∷ 14 ∷ 3 ∷ 1 ∷ 3 ∷
    8 ∷ 16 ∷ 5 ∷ 2 ∷ 6 ∷
    25 ∷ 2 ∷ 258 ∷ 0 ∷
    30 ∷ 1 ∷ 18 ∷ 0 ∷
    31 ∷ 3 ∷ 0 ∷ 1 ∷
    32 ∷ 2 ∷ 2306 ∷ 0 ∷
    30 ∷ 3 ∷ 1 ∷ 0 ∷
    0 ∷ 0 ∷ 0 ∷ 0 ∷
    258 ∷ 25 ∷ 0 ∷ 1 ∷ 2 ∷
    2306 ∷ 32 ∷ 258 ∷ 1 ∷ 2 ∷
    28 ∷ 0 ∷ 0 ∷
    23 ∷ 3 ∷ 2 ∷
    29 ∷ 11 ∷ 1 ∷
    28 ∷ 0 ∷ 0 ∷
    23 ∷ 3 ∷ 2 ∷
    29 ∷ 11 ∷ 1 ∷
    0 ∷ 0 ∷ 0 ∷ []

pub second_words : enter_words little words1 bytes1 sheet1 names1 480 ≡ words2
second_words = refl

abbrev pub bytes2 : List ℕ
bytes2 = fixed_bytes ++ names0 ++ bytes "B\n" ++ replicate 8 0

pub second_bytes : enter_bytes little words1 bytes1 sheet1 names1 480 ≡ bytes2
second_bytes = refl

pub second_fits : session_fits little words2 bytes2 ≡ true
second_fits = refl

-- let c = nil; n; let d = nil; -- n is not declared: 8, at row 7, with the entry's own number; the let before it has used up a global
abbrev pub sheet2 : Sheet
sheet2 =
    0 ∷ 0 ∷ 1 ∷ 0 ∷ 0 ∷ 0 ∷ 2 ∷ 2 ∷
    2 ∷ 0 ∷ 2 ∷ 0 ∷ 0 ∷ 0 ∷ 0 ∷ 0 ∷
    6 ∷ 0 ∷ 3 ∷ 0 ∷ 1 ∷ 2 ∷ 0 ∷ 1 ∷
    25 ∷ 0 ∷ 4 ∷ 0 ∷ 1 ∷ 3 ∷ 0 ∷ 0 ∷
    29 ∷ 6 ∷ 5 ∷ 0 ∷ 1 ∷ 4 ∷ 25 ∷ 0 ∷
    40 ∷ 0 ∷ 0 ∷ 0 ∷ 1 ∷ 5 ∷ 0 ∷ 0 ∷
    20 ∷ 8 ∷ 7 ∷ 0 ∷ 1 ∷ 6 ∷ 0 ∷ 0 ∷
    50 ∷ 0 ∷ 0 ∷ 0 ∷ 1 ∷ 7 ∷ 26 ∷ 0 ∷
    29 ∷ 0 ∷ 9 ∷ 0 ∷ 1 ∷ 8 ∷ 27 ∷ 0 ∷
    40 ∷ 0 ∷ 0 ∷ 0 ∷ 1 ∷ 9 ∷ 0 ∷ 0 ∷ []

pub third_told : told words2 bytes2 sheet2 (bytes "c\nn\nd\n") ≡ map eight ((8 ∷ 0 ∷ 1 ∷ 7 ∷ 26 ∷ []) ∷ [])
third_told = refl

pub third_words : enter_words little words2 bytes2 sheet2 (bytes "c\nn\nd\n") 480 ≡ set words2 0 3
third_words = refl

-- so an entry that starts at 2 is 23 now, and nothing changes
pub fourth_told : told (set words2 0 3) bytes2 sheet2 (bytes "c\nn\nd\n") ≡ map eight ((23 ∷ []) ∷ [])
fourth_told = refl

pub fourth_words : enter_words little (set words2 0 3) bytes2 sheet2 (bytes "c\nn\nd\n") 480 ≡ set words2 0 3
fourth_words = refl

-- f; -- the latest f, global 1, not function 18 of the first entry
abbrev pub sheet3 : Sheet
sheet3 =
    0 ∷ 0 ∷ 1 ∷ 0 ∷ 0 ∷ 0 ∷ 2 ∷ 2 ∷
    2 ∷ 0 ∷ 2 ∷ 0 ∷ 0 ∷ 0 ∷ 0 ∷ 0 ∷
    6 ∷ 0 ∷ 3 ∷ 0 ∷ 1 ∷ 2 ∷ 0 ∷ 1 ∷
    25 ∷ 0 ∷ 4 ∷ 0 ∷ 1 ∷ 3 ∷ 0 ∷ 0 ∷
    20 ∷ 0 ∷ 5 ∷ 0 ∷ 1 ∷ 4 ∷ 0 ∷ 0 ∷
    50 ∷ 0 ∷ 0 ∷ 0 ∷ 1 ∷ 5 ∷ 25 ∷ 0 ∷ []

pub latest_told : told words2 bytes2 sheet3 (bytes "f\n") ≡ map eight ((0 ∷ 0 ∷ 0 ∷ 0 ∷ 0 ∷ 2 ∷ 2 ∷ []) ∷ (2 ∷ 20 ∷ []) ∷ (5 ∷ 3 ∷ 1 ∷ []) ∷ [])
latest_told = refl

-- texts: the session's 32 and 33, the entry's 29 and 30, a fixed one by either, none for 0
pub texts : name_text little words2 bytes2 names1 false 32 ∷ name_text little words2 bytes2 names1 false 33 ∷ name_text little words2 bytes2 names1 true 29
    ∷ name_text little words2 bytes2 names1 true 30 ∷ name_text little words2 bytes2 names1 false 23
    ∷ name_text little words2 bytes2 names1 true 23 ∷ name_text little words2 bytes2 names1 false 0 ∷ []
    ≡ bytes "B" ∷ [] ∷ bytes "B" ∷ [] ∷ bytes "init" ∷ bytes "init" ∷ [] ∷ []
texts = refl
