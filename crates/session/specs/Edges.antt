-- Single points of sessions, computed: what question 23 refuses, the limits of 24, what entries leave and see.
use Rattle.std.specs.Prelude.{◌≡◌, refl, Bool, true, false, List, [], ◌∷◌, ◌++◌, map, ℕ, ◌+◌, length, set, take, replicate}
use Rattle.definition.specs.Bytes.{bytes}
use Rattle.definition.specs.Basics.{from, concat_map}
use Rattle.definition.specs.Names.{Name}
use Rattle.definition.specs.Sheet.{Sheet}
use Rattle.definition.specs.Meaning.{named, function, global}
use Rattle.definition.specs.Answer.{eight}
use Rattle.session.specs.Session.{Class, Accepted, names_shown, within}
use Rattle.session.specs.Enter.{new_entry, entered}
use Rattle.session.specs.Words.{fixed_bytes, fresh_words, fresh_bytes, session_in, session_fits, enter_words, name_text}
use Rattle.session.specs.Samples.{little, told, words2, bytes2, sheet3}

-- Question 23 of the session after the second sample, with words changed.
abbrev holds : List (List ℕ) → List Bool
holds = map (λ w. session_fits little w bytes2)

-- counts: globals over the limit; more names than are listed; more declarations than the last entry's row has
pub bad_counts : holds (set words2 0 1002048 ∷ set words2 0 1002049 ∷ set (set words2 3 9) 13 9 ∷ set words2 5 6 ∷ []) ≡ true ∷ false ∷ false ∷ false ∷ []
bad_counts = refl

-- the row of entry 0: name bytes that are not those of its names; members that are not those of its classes
pub bad_rows : holds (set words2 9 13 ∷ set words2 12 2 ∷ []) ≡ false ∷ false ∷ []
bad_rows = refl

-- a declaration's name: 0, past all, past those of its entry
pub bad_names : holds (set words2 18 0 ∷ set words2 18 33 ∷ set words2 22 32 ∷ []) ≡ false ∷ false ∷ false ∷ []
bad_names = refl

-- what it means: code 0 or 4; a class that is not there, of another entry; a function of another entry, row 0; the global count; mutable 1 or 2 where it cannot be
pub bad_meanings : holds (
    set words2 19 0 ∷ set words2 19 4 ∷ set words2 20 259 ∷ set words2 20 2306 ∷ set (set words2 35 1) 36 18 ∷ set words2 24 0 ∷ set words2 28 2
    ∷ set words2 21 1 ∷ set words2 25 1 ∷ set words2 29 2 ∷ [])
    ≡ replicate 10 false
bad_meanings = refl

-- a class: its number of another entry; its name; its parent not there, later, itself; or 0 and 100
pub bad_classes : holds (
    set (set words2 47 259) 32 259 ∷ set words2 43 33 ∷ set words2 49 259 ∷ set words2 44 2306 ∷ set words2 49 2306 ∷ set words2 49 0 ∷ set words2 49 100 ∷ [])
    ≡ false ∷ false ∷ false ∷ false ∷ false ∷ true ∷ true ∷ []
bad_classes = refl

-- members: a field's name; a method's name, past all and twice; its function 0, of a later entry; its parameters, 2,047 and one more
pub bad_members : holds (
    set words2 52 33 ∷ set words2 58 33 ∷ set words2 58 23 ∷ set words2 59 0 ∷ set words2 59 2049 ∷ set words2 60 2047 ∷ set words2 60 2048 ∷ [])
    ≡ false ∷ false ∷ false ∷ false ∷ false ∷ true ∷ false ∷ []
bad_members = refl

-- names on show: one less, as many as a recount finds, one more
pub bad_shown : holds (set words2 2 12 ∷ set words2 2 13 ∷ set words2 2 14 ∷ []) ≡ false ∷ true ∷ false ∷ []
bad_shown = refl

-- what the recount finds where the second f is b, is A, or is the core name Int64: each counts once
pub shown_once : map (λ k. names_shown (session_in little (set words2 34 k) bytes2)) (30 ∷ 31 ∷ 25 ∷ 1 ∷ []) ≡ 13 ∷ 13 ∷ 13 ∷ 13 ∷ []
shown_once = refl

-- bytes: a fixed name changed; a listed name twice
pub bad_bytes : map (session_fits little words2) (set bytes2 0 74 ∷ set bytes2 (length fixed_bytes + 2) 65 ∷ []) ≡ false ∷ false ∷ []
bad_bytes = refl

-- Room: words and bytes as long as that, and one less.
pub short_words : map (λ w. session_fits little w (fresh_bytes little)) (take 73 (fresh_words little) ∷ take 72 (fresh_words little) ∷ []) ≡ true ∷ false ∷ []
short_words = refl

pub short_bytes : map (λ k. session_fits little (fresh_words little) (take (length fixed_bytes + k) (fresh_bytes little))) (24 ∷ 23 ∷ []) ≡ true ∷ false ∷ []
short_bytes = refl

-- 2 entries without anything, and 3
pub entries_room : map (λ k. session_fits little (set (fresh_words little) 1 k) (fresh_bytes little)) (2 ∷ 3 ∷ []) ≡ true ∷ false ∷ []
entries_room = refl

-- one entry of k names of two bytes each
pub bytes_room : map (λ k. session_fits little (
    (0 ∷ 1 ∷ 9 ∷ k ∷ (k + k) ∷ 0 ∷ 0 ∷ 0 ∷ k ∷ (k + k) ∷ []) ++ replicate 63 0) (fixed_bytes ++ take (k + k) (bytes "a\nb\nc\nd\ne\nf\ng\nh\ni\nj\nk\nl\nm\n")
    ++ replicate 24 0)) (12 ∷ 13 ∷ [])
    ≡ true ∷ false ∷ []
bytes_room = refl

-- one entry of k declarations
pub laid_room : map (λ k. session_fits little (
    (1 ∷ 1 ∷ 9 ∷ 0 ∷ 0 ∷ k ∷ 0 ∷ 0 ∷ 0 ∷ 0 ∷ k ∷ 0 ∷ 0 ∷ 0 ∷ 0 ∷ 0 ∷ 0 ∷ 0 ∷ []) ++ concat_map (λ i. 1 ∷ 3 ∷ 0 ∷ 0 ∷ []) (from 0 k) ++ replicate 31 0)
    (fresh_bytes little)) (6 ∷ 7 ∷ [])
    ≡ true ∷ false ∷ []
laid_room = refl

-- one entry of k classes without members, from number n on; row 0 is no class, and numbers rise
abbrev class_rows : ℕ → ℕ → List ℕ
class_rows n k =
    (0 ∷ 1 ∷ 9 ∷ 1 ∷ 2 ∷ 0 ∷ k ∷ 0 ∷ 1 ∷ 2 ∷ 0 ∷ k ∷ 0 ∷ []) ++ replicate 29 0
    ++ take (k + k + k + k + k) (n ∷ 25 ∷ 0 ∷ 0 ∷ 0 ∷ (n + 1) ∷ 25 ∷ 0 ∷ 0 ∷ 0 ∷ (n + 2) ∷ 25 ∷ 0 ∷ 0 ∷ 0 ∷ []) ++ replicate 31 0

pub classes_room : map (λ w. session_fits little w (fixed_bytes ++ bytes "A\n" ++ replicate 22 0)) (
    class_rows 257 2 ∷ class_rows 257 3 ∷ class_rows 256 2 ∷ set (class_rows 257 2) 47 257 ∷ [])
    ≡ true ∷ false ∷ false ∷ false ∷ []
classes_room = refl

-- one class with fields of k names; the members of 7 and of 8 are there; no two of one name
abbrev field_rows : ℕ → List ℕ → List ℕ
field_rows k names =
    (0 ∷ 1 ∷ 9 ∷ 1 ∷ 2 ∷ 0 ∷ 1 ∷ k ∷ 1 ∷ 2 ∷ 0 ∷ 1 ∷ k ∷ []) ++ replicate 29 0 ++ (257 ∷ 25 ∷ 0 ∷ k ∷ 0 ∷ 0 ∷ 0 ∷ 0 ∷ 0 ∷ 0 ∷ []) ++ go names
  where
    go : List ℕ → List ℕ
    go [] = []
    go (x ∷ xs) = x ∷ 0 ∷ 0 ∷ go xs

pub members_room : map (λ w. session_fits little w (fixed_bytes ++ bytes "A\n" ++ replicate 22 0))
    (field_rows 7 (1 ∷ 2 ∷ 3 ∷ 4 ∷ 5 ∷ 6 ∷ 7 ∷ []) ∷ field_rows 8 (1 ∷ 2 ∷ 3 ∷ 4 ∷ 5 ∷ 6 ∷ 7 ∷ 8 ∷ []) ∷ field_rows 7 (1 ∷ 2 ∷ 3 ∷ 4 ∷ 5 ∷ 6 ∷ 1 ∷ []) ∷ [])
    ≡ true ∷ false ∷ false ∷ []
members_room = refl

-- counts that rise, and that fall and rise again: an entry of one declaration and two without
pub falling : map (λ k. session_fits (record { bytes = 0; entries = 3; laid = 1; classes = 0; members = 0 }) (
    1 ∷ 3 ∷ 9 ∷ 0 ∷ 0 ∷ 1 ∷ 0 ∷ 0 ∷
    0 ∷ 0 ∷ 1 ∷ 0 ∷ 0 ∷
    0 ∷ 0 ∷ k ∷ 0 ∷ 0 ∷
    0 ∷ 0 ∷ 1 ∷ 0 ∷ 0 ∷
    1 ∷ 3 ∷ 0 ∷ 0 ∷ []) fixed_bytes) (1 ∷ 0 ∷ [])
    ≡ true ∷ false ∷ []
falling = refl

-- The limits of question 24, one less, exact, one more: names, a name's bytes with its end, declarations, classes, members, entries.
abbrev entry_of : List Name → ℕ → List Class → Accepted
entry_of ns n cs = record { names = ns; laid = replicate n (named 25 (function 1)); classes = cs }

abbrev class_of : ℕ → Class
class_of n = record { number = 257; name = 25; parent = 0; fields = replicate n 25; methods = [] }

abbrev fits : List Accepted → Bool
fits es = within (record { globals = 0; entries = es })

pub limits : (map (λ n. fits (entry_of (replicate n []) 0 [] ∷ [])) (1023 ∷ 1024 ∷ 1025 ∷ []) ≡ true ∷ true ∷ false ∷ [])
    × (map (λ n. fits (entry_of (replicate n 97 ∷ []) 0 [] ∷ [])) (32766 ∷ 32767 ∷ 32768 ∷ []) ≡ true ∷ true ∷ false ∷ [])
    × (map (λ n. fits (entry_of [] n [] ∷ [])) (4095 ∷ 4096 ∷ 4097 ∷ []) ≡ true ∷ true ∷ false ∷ [])
    × (map (λ n. fits (entry_of [] 0 (replicate n (class_of 0)) ∷ [])) (1023 ∷ 1024 ∷ 1025 ∷ []) ≡ true ∷ true ∷ false ∷ [])
    × (map (λ n. fits (entry_of [] 0 (class_of n ∷ []) ∷ [])) (8191 ∷ 8192 ∷ 8193 ∷ []) ≡ true ∷ true ∷ false ∷ [])
    × (map (λ n. fits (replicate n (entry_of [] 0 []))) (999 ∷ 1000 ∷ 1001 ∷ []) ≡ true ∷ true ∷ false ∷ [])
limits = (refl, refl, refl, refl, refl, refl)

-- Sheets of one unit: its function is row 2, the statements follow from row 4 on.
abbrev unit_of : ℕ → List ℕ → Sheet
unit_of globals statements =
    0 ∷ 0 ∷ 1 ∷ 0 ∷ 0 ∷ 0 ∷ globals ∷ 2 ∷
    2 ∷ 0 ∷ 2 ∷ 0 ∷ 0 ∷ 0 ∷ 0 ∷ 0 ∷
    6 ∷ 0 ∷ 3 ∷ 0 ∷ 1 ∷ 2 ∷ 0 ∷ 1 ∷
    25 ∷ 0 ∷ 4 ∷ 0 ∷ 1 ∷ 3 ∷ 0 ∷ 0 ∷ statements

-- a thousand entries, and one more: 24 is asked after all others
pub one_more_lem : map (λ k. (entered (record { globals = 0; entries = replicate k (entry_of [] 0 []) }) (
    unit_of 0 (20 ∷ 0 ∷ 5 ∷ 0 ∷ 1 ∷ 4 ∷ 0 ∷ 0 ∷ 40 ∷ 0 ∷ 0 ∷ 0 ∷ 1 ∷ 5 ∷ 0 ∷ 0 ∷ [])) [] 8).number) (999 ∷ 1000 ∷ [])
    ≡ 0 ∷ 24 ∷ []
one_more_lem = refl

-- let f = || nil; let k = 1; -- f is hoisted, k a constant at global 0; they are laid over as function 2,054, of entry 1, and as that global
pub laid_over : (new_entry (record { globals = 1; entries = entry_of [] 0 [] ∷ [] }) (
    unit_of 1 (
    29 ∷ 8 ∷ 5 ∷ 0 ∷ 1 ∷ 4 ∷ 25 ∷ 0 ∷
    52 ∷ 0 ∷ 6 ∷ 0 ∷ 1 ∷ 5 ∷ 0 ∷ 0 ∷
    6 ∷ 0 ∷ 7 ∷ 0 ∷ 1 ∷ 6 ∷ 0 ∷ 0 ∷
    25 ∷ 0 ∷ 0 ∷ 0 ∷ 1 ∷ 7 ∷ 0 ∷ 0 ∷
    29 ∷ 0 ∷ 9 ∷ 0 ∷ 1 ∷ 8 ∷ 26 ∷ 2 ∷
    43 ∷ 0 ∷ 0 ∷ 0 ∷ 1 ∷ 9 ∷ 1 ∷ 0 ∷ [])) (bytes "f\nk\n")).laid
    ≡ named 25 (function 2054) ∷ named 26 (global 0 0) ∷ []
laid_over = refl

-- Int64; -- class 3, or global 1 where an entry has declared that name
pub core_name_lem : map (λ w. told w bytes2 (set sheet3 46 1) []) (words2 ∷ set words2 34 1 ∷ [])
    ≡ map (λ x. map eight ((0 ∷ 0 ∷ 0 ∷ 0 ∷ 0 ∷ 2 ∷ 2 ∷ []) ∷ (2 ∷ 20 ∷ []) ∷ (5 ∷ x) ∷ [])) ((2 ∷ 3 ∷ []) ∷ (3 ∷ 1 ∷ []) ∷ [])
core_name_lem = refl

-- let c = nil; UIEvent(); -- 20, at the callee; the walk is through, and the let's global used up
abbrev constructed : Sheet
constructed =
    unit_of 2 (
    29 ∷ 6 ∷ 5 ∷ 0 ∷ 1 ∷ 4 ∷ 25 ∷ 0 ∷
    40 ∷ 0 ∷ 0 ∷ 0 ∷ 1 ∷ 5 ∷ 0 ∷ 0 ∷
    20 ∷ 0 ∷ 7 ∷ 0 ∷ 1 ∷ 6 ∷ 0 ∷ 0 ∷
    59 ∷ 0 ∷ 8 ∷ 0 ∷ 1 ∷ 7 ∷ 0 ∷ 0 ∷
    50 ∷ 0 ∷ 0 ∷ 0 ∷ 1 ∷ 8 ∷ 7 ∷ 0 ∷ [])

pub constructed_told : told words2 bytes2 constructed (bytes "c\n") ≡ map eight ((20 ∷ 0 ∷ 1 ∷ 8 ∷ 7 ∷ []) ∷ [])
constructed_told = refl

pub constructed_words : enter_words little words2 bytes2 constructed (bytes "c\n") 480 ≡ set words2 0 3
constructed_words = refl

-- an entry may start above the session's count
pub above : told words2 bytes2 (set sheet3 6 5) (bytes "f\n") ≡ map eight ((0 ∷ 0 ∷ 0 ∷ 0 ∷ 0 ∷ 2 ∷ 5 ∷ []) ∷ (2 ∷ 20 ∷ []) ∷ (5 ∷ 3 ∷ 1 ∷ []) ∷ [])
above = refl

-- 23 before 1, if the session is refused: a declaration without a name; another number of names on show
pub session_first : map (λ w. told w bytes2 [] []) (set words2 18 0 ∷ set words2 2 12 ∷ words2 ∷ []) ≡ map (λ k. map eight ((k ∷ []) ∷ [])) (23 ∷ 23 ∷ 1 ∷ [])
session_first = refl

-- 23: two units; a unit that imports itself
pub no_entries : map (λ s. told words2 bytes2 s []) (
    (0 ∷ 0 ∷ 1 ∷ 0 ∷ 0 ∷ 0 ∷ 2 ∷ 0 ∷
    2 ∷ 4 ∷ 2 ∷ 0 ∷ 0 ∷ 0 ∷ 0 ∷ 0 ∷
    6 ∷ 0 ∷ 3 ∷ 0 ∷ 0 ∷ 0 ∷ 0 ∷ 1 ∷
    25 ∷ 0 ∷ 0 ∷ 0 ∷ 0 ∷ 0 ∷ 0 ∷ 0 ∷
    2 ∷ 0 ∷ 5 ∷ 0 ∷ 0 ∷ 0 ∷ 0 ∷ 0 ∷
    6 ∷ 0 ∷ 6 ∷ 0 ∷ 0 ∷ 0 ∷ 0 ∷ 1 ∷
    25 ∷ 0 ∷ 0 ∷ 0 ∷ 0 ∷ 0 ∷ 0 ∷ 0 ∷ [])
    ∷ (0 ∷ 0 ∷ 1 ∷ 0 ∷ 0 ∷ 0 ∷ 2 ∷ 0 ∷
    2 ∷ 0 ∷ 2 ∷ 0 ∷ 0 ∷ 0 ∷ 0 ∷ 0 ∷
    3 ∷ 3 ∷ 0 ∷ 0 ∷ 0 ∷ 0 ∷ 1 ∷ 1 ∷
    6 ∷ 0 ∷ 4 ∷ 0 ∷ 0 ∷ 0 ∷ 0 ∷ 1 ∷
    25 ∷ 0 ∷ 0 ∷ 0 ∷ 0 ∷ 0 ∷ 0 ∷ 0 ∷ [])
    ∷ [])
    ≡ map eight ((23 ∷ []) ∷ []) ∷ map eight ((23 ∷ []) ∷ []) ∷ []
no_entries = refl

-- no text from a list that is refused: the entry's with a name twice, the session's with a fixed name changed or a listed one twice
pub no_texts : name_text little words2 bytes2 (bytes "f\nf\n") true 25 ∷ name_text little words2 (set bytes2 0 74) [] false 25
    ∷ name_text little words2 (set bytes2 (length fixed_bytes + 2) 65) [] true 1 ∷ []
    ≡ [] ∷ [] ∷ [] ∷ []
no_texts = refl
