-- Headers and what breaks them.
use Rattle.std.specs.Prelude.{Result, Ok, Err}
use Rattle.std.specs.Prelude.{◌≡◌, refl, List, [], ◌∷◌, ◌++◌, map, ℕ, take, set, replicate}
use Rattle.definition.specs.Text.{text_of}
use Rattle.request.specs.declared.broken.Broken.{Broken}
use Rattle.request.specs.declared.broken.Broken.TheVariants.{NoRow, Verb as UnknownVerb, Flags, X, Y, Bodies, CutOff}
use Rattle.request.specs.declared.verb.Verb.TheVariants.{Resolve}
use Rattle.request.specs.declared.BrokenRequest.{BrokenRequest}
use Rattle.request.specs.declared.Request.{Request}
use Rattle.request.specs.Header.{checked, told, refused, request_of}

-- what breaks a request, by number: 2 the verb, 3 a flag, 4 x, 5 y, 6 a body, 0 nothing
abbrev number_of : Broken → ℕ
number_of NoRow = 1
number_of UnknownVerb = 2
number_of Flags = 3
number_of X = 4
number_of Y = 5
number_of Bodies = 6
number_of CutOff = 7

abbrev broken : Result Request BrokenRequest → ℕ
broken (Ok r) = 0
broken (Err b) = number_of b.why

-- the header of eight numbers
abbrev header : List ℕ → List ℕ
header w = text_of (w ∷ [])

-- a sheet of 810 bytes and 4 of names, with 2,048 rows lent
abbrev whole : List ℕ
whole = 1 ∷ 810 ∷ 4 ∷ 0 ∷ 2048 ∷ 0 ∷ 0 ∷ 0 ∷ []

accepted : request_of (header whole) ≡ Ok (told Resolve whole)
unfolding request_of checked told refused
accepted = refl

-- the longest bodies that can be written; a row too many; an unknown verb or flag; a number where none is taken
breaks : map (λ w. broken (request_of (header w)))
    ((1 ∷ 4294967295 ∷ 4294967295 ∷ 0 ∷ 0 ∷ 0 ∷ 0 ∷ 0 ∷ []) ∷
    (1 ∷ 0 ∷ 0 ∷ 0 ∷ 2049 ∷ 0 ∷ 0 ∷ 0 ∷ []) ∷
    (0 ∷ 0 ∷ 0 ∷ 0 ∷ 0 ∷ 0 ∷ 0 ∷ 0 ∷ []) ∷
    (12 ∷ 0 ∷ 0 ∷ 0 ∷ 0 ∷ 0 ∷ 0 ∷ 0 ∷ []) ∷
    (1 ∷ 0 ∷ 0 ∷ 1 ∷ 0 ∷ 0 ∷ 0 ∷ 0 ∷ []) ∷
    (1 ∷ 0 ∷ 0 ∷ 0 ∷ 0 ∷ 1 ∷ 0 ∷ 0 ∷ []) ∷
    (1 ∷ 0 ∷ 0 ∷ 0 ∷ 0 ∷ 0 ∷ 1 ∷ 0 ∷ []) ∷
    (1 ∷ 0 ∷ 0 ∷ 0 ∷ 0 ∷ 0 ∷ 0 ∷ 1 ∷ []) ∷ [])
    ≡ 0 ∷ 4 ∷ 2 ∷ 2 ∷ 3 ∷ 5 ∷ 6 ∷ 6 ∷ []
unfolding request_of checked told refused
breaks = refl

-- verbs 2 and 3 take what verb 1 takes
entry_verb : map (λ w. broken (request_of (header w)))
    ((2 ∷ 4294967295 ∷ 4294967295 ∷ 0 ∷ 2048 ∷ 0 ∷ 0 ∷ 0 ∷ []) ∷
    (2 ∷ 0 ∷ 0 ∷ 0 ∷ 2049 ∷ 0 ∷ 0 ∷ 0 ∷ []) ∷
    (2 ∷ 0 ∷ 0 ∷ 1 ∷ 0 ∷ 0 ∷ 0 ∷ 0 ∷ []) ∷
    (2 ∷ 0 ∷ 0 ∷ 0 ∷ 0 ∷ 1 ∷ 0 ∷ 0 ∷ []) ∷
    (2 ∷ 0 ∷ 0 ∷ 0 ∷ 0 ∷ 0 ∷ 81 ∷ 0 ∷ []) ∷
    (2 ∷ 0 ∷ 0 ∷ 0 ∷ 0 ∷ 0 ∷ 0 ∷ 2 ∷ []) ∷
    (3 ∷ 4294967295 ∷ 4294967295 ∷ 0 ∷ 2048 ∷ 0 ∷ 0 ∷ 0 ∷ []) ∷
    (3 ∷ 0 ∷ 0 ∷ 0 ∷ 2049 ∷ 0 ∷ 0 ∷ 0 ∷ []) ∷
    (3 ∷ 0 ∷ 0 ∷ 1 ∷ 0 ∷ 0 ∷ 0 ∷ 0 ∷ []) ∷
    (3 ∷ 0 ∷ 0 ∷ 0 ∷ 0 ∷ 1 ∷ 0 ∷ 0 ∷ []) ∷ [])
    ≡ 0 ∷ 4 ∷ 3 ∷ 5 ∷ 6 ∷ 6 ∷ 0 ∷ 4 ∷ 3 ∷ 5 ∷ []
unfolding request_of checked told refused
entry_verb = refl

-- verb 4 takes nothing
withdraw_verb : map (λ w. broken (request_of (header w)))
    ((4 ∷ 0 ∷ 0 ∷ 0 ∷ 0 ∷ 0 ∷ 0 ∷ 0 ∷ []) ∷
    (4 ∷ 81 ∷ 0 ∷ 0 ∷ 0 ∷ 0 ∷ 0 ∷ 0 ∷ []) ∷
    (4 ∷ 0 ∷ 2 ∷ 0 ∷ 0 ∷ 0 ∷ 0 ∷ 0 ∷ []) ∷
    (4 ∷ 0 ∷ 0 ∷ 1 ∷ 0 ∷ 0 ∷ 0 ∷ 0 ∷ []) ∷
    (4 ∷ 0 ∷ 0 ∷ 0 ∷ 1 ∷ 0 ∷ 0 ∷ 0 ∷ []) ∷
    (4 ∷ 0 ∷ 0 ∷ 0 ∷ 0 ∷ 1 ∷ 0 ∷ 0 ∷ []) ∷ [])
    ≡ 0 ∷ 6 ∷ 6 ∷ 3 ∷ 4 ∷ 5 ∷ []
unfolding request_of checked told refused
withdraw_verb = refl

-- verb 5: the entry's names; x is at most 1, y any number; no sheet, no second names, no flag
text_verb : map (λ w. broken (request_of (header w)))
    ((5 ∷ 0 ∷ 4294967295 ∷ 0 ∷ 1 ∷ 4294967295 ∷ 0 ∷ 0 ∷ []) ∷
    (5 ∷ 0 ∷ 0 ∷ 0 ∷ 0 ∷ 25 ∷ 0 ∷ 0 ∷ []) ∷
    (5 ∷ 0 ∷ 0 ∷ 0 ∷ 2 ∷ 25 ∷ 0 ∷ 0 ∷ []) ∷
    (5 ∷ 0 ∷ 0 ∷ 1 ∷ 0 ∷ 25 ∷ 0 ∷ 0 ∷ []) ∷
    (5 ∷ 81 ∷ 0 ∷ 0 ∷ 0 ∷ 25 ∷ 0 ∷ 0 ∷ []) ∷
    (5 ∷ 0 ∷ 0 ∷ 0 ∷ 0 ∷ 25 ∷ 0 ∷ 2 ∷ []) ∷ [])
    ≡ 0 ∷ 0 ∷ 4 ∷ 3 ∷ 6 ∷ 6 ∷ []
unfolding request_of checked told refused
text_verb = refl

-- verb 6: names, and at most 32,768 bytes that are looked for; no sheet
find_verb : map (λ w. broken (request_of (header w)))
    ((6 ∷ 0 ∷ 4294967295 ∷ 0 ∷ 0 ∷ 0 ∷ 0 ∷ 32768 ∷ []) ∷
    (6 ∷ 0 ∷ 4 ∷ 0 ∷ 0 ∷ 0 ∷ 0 ∷ 32769 ∷ []) ∷
    (6 ∷ 1 ∷ 4 ∷ 0 ∷ 0 ∷ 0 ∷ 0 ∷ 1 ∷ []) ∷
    (6 ∷ 0 ∷ 4 ∷ 0 ∷ 1 ∷ 0 ∷ 0 ∷ 1 ∷ []) ∷ [])
    ≡ 0 ∷ 6 ∷ 6 ∷ 4 ∷ []
unfolding request_of checked told refused
find_verb = refl

-- verb 7: a sheet, names, up to 2,048 words lent; no flag, no y, no second bodies
order_verb : map (λ w. broken (request_of (header w)))
    ((7 ∷ 4294967295 ∷ 4294967295 ∷ 0 ∷ 2048 ∷ 0 ∷ 0 ∷ 0 ∷ []) ∷
    (7 ∷ 0 ∷ 0 ∷ 0 ∷ 2049 ∷ 0 ∷ 0 ∷ 0 ∷ []) ∷
    (7 ∷ 0 ∷ 0 ∷ 1 ∷ 0 ∷ 0 ∷ 0 ∷ 0 ∷ []) ∷
    (7 ∷ 0 ∷ 0 ∷ 0 ∷ 0 ∷ 1 ∷ 0 ∷ 0 ∷ []) ∷
    (7 ∷ 0 ∷ 0 ∷ 0 ∷ 0 ∷ 0 ∷ 81 ∷ 0 ∷ []) ∷
    (7 ∷ 0 ∷ 0 ∷ 0 ∷ 0 ∷ 0 ∷ 0 ∷ 2 ∷ []) ∷ [])
    ≡ 0 ∷ 4 ∷ 3 ∷ 5 ∷ 6 ∷ 6 ∷ []
unfolding request_of checked told refused
order_verb = refl

-- verbs 9 and 10: rows lent up to 2,048, no names, no second sheet; the verbs beside them, 8 and 11, are unknown
column_verbs : map (λ w. broken (request_of (header w)))
    ((9 ∷ 162 ∷ 0 ∷ 0 ∷ 2048 ∷ 0 ∷ 0 ∷ 0 ∷ []) ∷
    (10 ∷ 162 ∷ 0 ∷ 0 ∷ 2048 ∷ 0 ∷ 0 ∷ 0 ∷ []) ∷
    (9 ∷ 162 ∷ 0 ∷ 0 ∷ 2049 ∷ 0 ∷ 0 ∷ 0 ∷ []) ∷
    (10 ∷ 162 ∷ 1 ∷ 0 ∷ 2 ∷ 0 ∷ 0 ∷ 0 ∷ []) ∷
    (9 ∷ 162 ∷ 0 ∷ 0 ∷ 2 ∷ 0 ∷ 162 ∷ 0 ∷ []) ∷
    (8 ∷ 0 ∷ 0 ∷ 0 ∷ 0 ∷ 0 ∷ 0 ∷ 0 ∷ []) ∷
    (11 ∷ 0 ∷ 0 ∷ 0 ∷ 0 ∷ 0 ∷ 0 ∷ 0 ∷ []) ∷ [])
    ≡ 0 ∷ 0 ∷ 4 ∷ 6 ∷ 6 ∷ 2 ∷ 2 ∷ []
unfolding request_of checked told refused
column_verbs = refl

-- no row: a byte short, a byte more, two rows, no bytes, a leading zero
no_row : map request_of (take 80 (header whole) ∷ (header whole ++ 10 ∷ []) ∷ (header whole ++ header whole) ∷ [] ∷ set (header whole) 8 48 ∷ [])
    ≡ replicate 5 (Err (refused NoRow []))
unfolding request_of
no_row = refl

-- the numbers of a request that is broken, as they stand
numbers_stand : map (λ w. request_of (header w)) ((8 ∷ 162 ∷ 4 ∷ 1 ∷ 2049 ∷ 5 ∷ 6 ∷ 7 ∷ []) ∷ (1 ∷ 0 ∷ 0 ∷ 1 ∷ 2 ∷ 3 ∷ 4 ∷ 5 ∷ []) ∷ [])
    ≡ Err (refused UnknownVerb (8 ∷ 162 ∷ 4 ∷ 1 ∷ 2049 ∷ 5 ∷ 6 ∷ 7 ∷ [])) ∷ Err (refused Flags (1 ∷ 0 ∷ 0 ∷ 1 ∷ 2 ∷ 3 ∷ 4 ∷ 5 ∷ [])) ∷ []
unfolding request_of checked told refused
numbers_stand = refl
