-- The header of a request: verb, sheet bytes, name bytes, flags, x, y, second sheet bytes, second name bytes.
use Rattle.std.specs.Prelude.{Bool, ◌&&◌, ◌||◌, List, [], ◌∷◌, ℕ, get_or, eqb, ltb, Result, Ok, Err}
use Rattle.definition.specs.Basics.{when◌then◌else◌}
use Rattle.definition.specs.Text.{is_sheet_text, lines, sheet_of}
use Rattle.request.specs.declared.broken.Broken.{Broken}
use Rattle.request.specs.declared.broken.Broken.TheVariants.{NoRow, Flags, X, Y, Bodies}
use Rattle.request.specs.declared.verb.Verb.{Verb}
use Rattle.request.specs.declared.verb.Verb.TheVariants.{Resolve, Enter, Preview, Withdraw, NameText, FindName, OrderUnits, ToColumns, FromColumns}
use Rattle.request.specs.declared.BrokenRequest.{BrokenRequest}
use Rattle.request.specs.declared.Request.{Request}
use Rattle.request.specs.Verbs.{verb_of}

-- the largest of each number that a verb takes, the verb's own among them; a body may be of any length if the verb takes it,
-- but for the bytes that verb 6 looks for; of verb 5 x says whose names, and y may be any number
abbrev pub largest : Verb → List ℕ
largest Resolve = 1 ∷ 4294967295 ∷ 4294967295 ∷ 0 ∷ 2048 ∷ 0 ∷ 0 ∷ 0 ∷ []
largest Enter = 2 ∷ 4294967295 ∷ 4294967295 ∷ 0 ∷ 2048 ∷ 0 ∷ 0 ∷ 0 ∷ []
largest Preview = 3 ∷ 4294967295 ∷ 4294967295 ∷ 0 ∷ 2048 ∷ 0 ∷ 0 ∷ 0 ∷ []
largest Withdraw = 4 ∷ 0 ∷ 0 ∷ 0 ∷ 0 ∷ 0 ∷ 0 ∷ 0 ∷ []
largest NameText = 5 ∷ 0 ∷ 4294967295 ∷ 0 ∷ 1 ∷ 4294967295 ∷ 0 ∷ 0 ∷ []
largest FindName = 6 ∷ 0 ∷ 4294967295 ∷ 0 ∷ 0 ∷ 0 ∷ 0 ∷ 32768 ∷ []
largest OrderUnits = 7 ∷ 4294967295 ∷ 4294967295 ∷ 0 ∷ 2048 ∷ 0 ∷ 0 ∷ 0 ∷ []
largest ToColumns = 9 ∷ 4294967295 ∷ 0 ∷ 0 ∷ 2048 ∷ 0 ∷ 0 ∷ 0 ∷ []
largest FromColumns = 10 ∷ 4294967295 ∷ 0 ∷ 0 ∷ 2048 ∷ 0 ∷ 0 ∷ 0 ∷ []

-- is number c of the row w larger than that of m?
abbrev pub over : List ℕ → List ℕ → ℕ → Bool
over m w c = ltb (get_or m c 0) (get_or w c 0)

-- what breaks a row w of a known verb, whose numbers may be those of m
unfoldable pub checked : List ℕ → List ℕ → Result (Unit {0}) Broken
checked m w =
    when over m w 3 then Err Flags
    else when over m w 4 then Err X
    else when over m w 5 then Err Y
    else when over m w 1 || over m w 2 || over m w 6 || over m w 7 then Err Bodies
    else Ok tt

-- a request by its numbers
unfoldable pub told : Verb → List ℕ → Request
told v w = record {
  verb = v;
  sheet = get_or w 1 0;
  names = get_or w 2 0;
  flags = get_or w 3 0;
  x = get_or w 4 0;
  y = get_or w 5 0;
  second_sheet = get_or w 6 0;
  second_names = get_or w 7 0;
}

-- what breaks a request, with its numbers as they stand
unfoldable pub refused : Broken → List ℕ → BrokenRequest
refused b w = record {
  why = b;
  verb = get_or w 0 0;
  sheet = get_or w 1 0;
  names = get_or w 2 0;
  flags = get_or w 3 0;
  x = get_or w 4 0;
  y = get_or w 5 0;
  second_sheet = get_or w 6 0;
  second_names = get_or w 7 0;
}

-- is a header one row by the text rule of a sheet?
abbrev pub is_row : List ℕ → Bool
is_row h = is_sheet_text h && eqb (lines h) 1

-- the request of a row, by what its verb and its numbers tell
abbrev pub told_unless : Result (Unit {0}) Broken → Verb → List ℕ → Result Request BrokenRequest
told_unless (Ok u) v w = Ok (told v w)
told_unless (Err b) v w = Err (refused b w)

abbrev pub asked : Result Verb Broken → List ℕ → Result Request BrokenRequest
asked (Ok v) w = told_unless (checked (largest v) w) v w
asked (Err b) w = Err (refused b w)

-- the request of a header, or what breaks it first; the numbers of one that is no row are 0
unfoldable pub request_of : List ℕ → Result Request BrokenRequest
request_of h = when is_row h then asked (verb_of (get_or (sheet_of h) 0 0)) (sheet_of h) else Err (refused NoRow [])
