-- The names of an entry by the session's numbers, as they are counted and stored; l is the list of the session's names.
use Rattle.std.specs.Prelude.{◌≡◌, Bool, false, not, List, [], ◌∷◌, ◌++◌, map, ℕ, suc, ◌+◌, ◌-◌, ◌/◌, ◌%◌, length, get_or, take, eqb, leb, ltb}
use Rattle.definition.specs.Basics.{when◌then◌else◌, bit, any, place, from, concat_map}
use Rattle.definition.specs.Names.{Name, listed, same_name}
use Rattle.definition.specs.Sheet.{Sheet, kind}
use Rattle.definition.specs.Shape.{shape_of}
use Rattle.session.specs.Session.{Session}
use Rattle.session.specs.Entry.{new_names, to_session, holds_name}
use Rattle.session.specs.Words.{ended}

-- is a name new beside those of a list?
abbrev pub is_new : List Name → Name → Bool
is_new l x = not (any (same_name x) l)

-- the number of a name in a list, 0 if it is absent there
abbrev pub number_in : List Name → Name → ℕ
number_in l x = when any (same_name x) l then suc (place (same_name x) l) else 0

-- the number found of a name, or the next one if it is absent
abbrev pub found_or : ℕ → ℕ → ℕ
found_or next found = when eqb found 0 then next else found

-- the numbers of names one after another; those that the list has not get the numbers from `next` on
abbrev pub numbers_from : List Name → ℕ → List Name → List ℕ
numbers_from l next [] = []
numbers_from l next (x ∷ xs) = found_or next (number_in l x) ∷ numbers_from l (next + bit (eqb (number_in l x) 0)) xs

-- the session's number of each listed name of the entry
abbrev pub session_numbers : Session → List ℕ → List ℕ
session_numbers S ns = map (to_session S ns) (from 25 (length (listed ns)))

-- What is told of an entry's names: how many are listed, how many of them are new, in how many bytes with ends, and the number of each.
pub record NamesTold (S : Session) (ns : List ℕ) (count new bytes : ℕ) (numbers : List ℕ) : Type 0 where
  pub counted : count ≡ length (listed ns)
  pub new_counted : new ≡ length (new_names S ns)
  pub bytes_counted : bytes ≡ length (concat_map ended (new_names S ns))
  pub told : take count numbers ≡ session_numbers S ns

-- the session's number of the entry's name n, by the numbers of the listed names
abbrev pub number_told : List ℕ → ℕ → ℕ
number_told numbers n = when ltb n 25 then n else when ltb (n - 25) (length numbers) then get_or numbers (n - 25) 0 else n

-- does column c of a row of kind k hold names?
abbrev pub in_column : ℕ → ℕ → Bool
in_column k c = when eqb c 6 then holds_name (shape_of k).a else when eqb c 7 then holds_name (shape_of k).b else false

-- word i of a sheet; if it is a name, the session's number of it
abbrev pub word_told : Sheet → List ℕ → ℕ → ℕ
word_told s numbers i = when in_column (kind s (i / 8)) (i % 8) then number_told numbers (get_or s i 0) else get_or s i 0

-- a name with its end if its number is `first` at least, else nothing
abbrev pub ended_from : ℕ → ℕ → Name → List ℕ
ended_from first number x = when leb first number then ended x else []

-- the same of names one after another, whose numbers stand from place k on
abbrev pub new_bytes : ℕ → List ℕ → ℕ → List Name → List ℕ
new_bytes first numbers k [] = []
new_bytes first numbers k (x ∷ xs) = ended_from first (get_or numbers k 0) x ++ new_bytes first numbers (suc k) xs
