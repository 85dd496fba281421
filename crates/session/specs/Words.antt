-- A session as lent words and bytes: runs that grow with an accepted entry, each in its own region. What lies past the counts is not read.
--
-- Eight counts: globals, entries, names on show (request F-8), names, name bytes, declarations, classes, members. Then, with room for as many as a
-- session may have: a row of five for each entry, the last five counts after it; a row of four for each declaration laid over:
-- name, code (1 function, 2 class, 3 global), number, 1 if mutable; a row of five for each class: number, name, parent or 0, fields, methods; a row of
-- three for each member: name, function or 0, parameters or 0, a class's fields by slot and then its methods, class after class. The bytes are the 24
-- fixed names and then the listed ones, each with its end.
use Rattle.std.specs.Prelude.{Bool, not, ◌&&◌, ◌||◌, List, [], ◌∷◌, ◌++◌, map, ℕ, suc, ◌+◌, ◌-◌, ◌*◌, ◌/◌, length, get_or, set, take, drop, replicate, eqb, leb, ltb}
use Rattle.std.proofs.lemmas.List.Edits.{sets}
use Rattle.definition.specs.Basics.{when◌then◌else◌, all, any, every, unlike, from, concat_map, total}
use Rattle.definition.specs.Names.{Name, fixed, listed, same_name, names_fit}
use Rattle.definition.specs.Sheet.{Sheet}
use Rattle.definition.specs.Meaning.{Meaning, Named, named, nothing, function, class, global, toplevel, variable}
use Rattle.definition.specs.Outside.{is_recorded, core}
use Rattle.definition.specs.Outcome.{Outcome, refused}
use Rattle.session.specs.Session.{Class, Accepted, Session, fresh, names_shown, member_count}
use Rattle.session.specs.Enter.{new_entry, entered, after_entry}

-- How many name bytes, entries, declarations, classes and members there is room for.
pub record Room : Type 0 where
  pub bytes : ℕ
  pub entries : ℕ
  pub laid : ℕ
  pub classes : ℕ
  pub members : ℕ

-- the room of every session; samples have less
abbrev pub whole : Room
whole = record { bytes = 32768; entries = 1000; laid = 4096; classes = 1024; members = 8192 }

-- a name with its end
abbrev pub ended : Name → List ℕ
ended n = n ++ 10 ∷ []

-- the bytes of the fixed names
abbrev pub fixed_bytes : List ℕ
fixed_bytes = concat_map ended fixed

module _ (R : Room) where
  -- where the row of entry, declaration, class or member i begins; the last is where the words end
  abbrev pub entry_place : ℕ → ℕ
  entry_place i = 8 + 5 * i

  abbrev pub laid_place : ℕ → ℕ
  laid_place i = entry_place R.entries + 4 * i

  abbrev pub class_place : ℕ → ℕ
  class_place i = laid_place R.laid + 5 * i

  abbrev pub member_place : ℕ → ℕ
  member_place i = class_place R.classes + 3 * i

  abbrev pub session_size : ℕ
  session_size = member_place R.members

  -- Session words w and bytes n.
  module _ (w n : List ℕ) where
    -- count c after the first e entries: 0 names, 1 name bytes, 2 declarations, 3 classes, 4 members
    abbrev pub count_after : ℕ → ℕ → ℕ
    count_after e c = when eqb e 0 then 0 else get_or w (entry_place (e - 1) + c) 0

    -- the numbers from what was there before entry e on to what was there after it
    abbrev pub part_of : ℕ → ℕ → List ℕ
    part_of e c = from (count_after e c) (count_after (suc e) c - count_after e c)

    -- the listed names
    abbrev pub name_bytes : List ℕ
    name_bytes = take (get_or w 4 0) (drop (length fixed_bytes) n)

    -- declaration i
    abbrev pub laid_in : ℕ → Named
    laid_in i =
        let p : ℕ = laid_place i in
        let code : ℕ = get_or w (p + 1) 0 in
        named (get_or w p 0)
        (when eqb code 1 then function (get_or w (p + 2) 0) else when eqb code 2 then class (get_or w (p + 2) 0) else global (get_or w (p + 2) 0) (get_or w (p + 3) 0))

    -- how many fields and methods class i has, and how many members stand before its own
    abbrev pub fields_in : ℕ → ℕ
    fields_in i = get_or w (class_place i + 3) 0

    abbrev pub methods_in : ℕ → ℕ
    methods_in i = get_or w (class_place i + 4) 0

    abbrev pub members_before : ℕ → ℕ
    members_before i = total (λ j. fields_in j + methods_in j) (from 0 i)

    -- class i
    abbrev pub class_in : ℕ → Class
    class_in i =
        let p : ℕ = class_place i in
        record {
          number = get_or w p 0;
          name = get_or w (p + 1) 0;
          parent = get_or w (p + 2) 0;
          fields = map (λ j. get_or w (member_place j) 0) (from (members_before i) (fields_in i));
          methods =
              map (λ j. record { name = get_or w (member_place j) 0; fun = get_or w (member_place j + 1) 0; params = get_or w (member_place j + 2) 0 })
              (from (members_before i + fields_in i) (methods_in i));
        }

    -- entry e
    abbrev pub entry_in : ℕ → Accepted
    entry_in e =
        record {
          names = map (λ i. get_or (listed name_bytes) i []) (part_of e 0);
          laid = map laid_in (part_of e 2);
          classes = map class_in (part_of e 3);
        }

    -- the session that they hold
    abbrev pub session_in : Session
    session_in = record { globals = get_or w 0 0; entries = map entry_in (from 0 (get_or w 1 0)) }

    -- Question 23 of a session.
    -- Is no count over its limit, and is there room for all?
    abbrev pub counts_fit : Bool
    counts_fit =
        every (
        leb (get_or w 0 0) 1002048 ∷ leb (get_or w 1 0) R.entries ∷ leb (get_or w 3 0) 1024 ∷ leb (get_or w 4 0) R.bytes ∷ leb (get_or w 5 0) R.laid
        ∷ leb (get_or w 6 0) R.classes ∷ leb (get_or w 7 0) R.members ∷ leb session_size (length w) ∷ leb (length fixed_bytes + R.bytes) (length n) ∷ [])

    -- Are its names the 24 fixed in order, each ended, and then a list past question 2 of as many names as it says?
    abbrev pub session_names_fit : Bool
    session_names_fit = same_name (take (length fixed_bytes) n) fixed_bytes && names_fit name_bytes && eqb (length (listed name_bytes)) (get_or w 3 0)

    -- the bytes of the first k listed names
    abbrev pub bytes_of : ℕ → ℕ
    bytes_of k = length (concat_map ended (take k (listed name_bytes)))

    -- Does the row of entry e tell places in the runs: no count falls, none is past the session's, and its name bytes are those of its names?
    abbrev pub row_fits : ℕ → Bool
    row_fits e =
        all (λ c. leb (count_after e c) (count_after (suc e) c) && leb (count_after (suc e) c) (get_or w (3 + c) 0)) (from 0 5)
        && eqb (count_after (suc e) 1) (bytes_of (count_after (suc e) 0))

    -- Is f the number of a function of an entry up to e? Row 0 of a sheet is none.
    abbrev pub is_function_up_to : ℕ → ℕ → Bool
    is_function_up_to e f = leb (f / 2048) e && not (eqb f (2048 * (f / 2048)))

    -- Is x the number of a name, fixed or of an entry up to e?
    abbrev pub is_name_up_to : ℕ → ℕ → Bool
    is_name_up_to e x = leb 1 x && leb x (24 + count_after (suc e) 0)

    -- Is c a class with a record in the session up to entry e, or 100 to 102?
    abbrev pub is_class_up_to : ℕ → ℕ → Bool
    is_class_up_to e c = any (λ i. eqb (get_or w (class_place i) 0) c) (from 0 (count_after (suc e) 3)) || is_recorded core c

    -- Does declaration i of entry e name something there: a name, and a function or class of the entry or a global below the count?
    abbrev pub laid_fits : ℕ → ℕ → Bool
    laid_fits e i =
        let p : ℕ = laid_place i in
        let x : ℕ = get_or w (p + 2) 0 in
        let m : ℕ = get_or w (p + 3) 0 in
        is_name_up_to e (get_or w p 0)
        && ((eqb (get_or w (p + 1) 0) 1 && is_function_up_to e x && eqb (x / 2048) e && eqb m 0)
        || (eqb (get_or w (p + 1) 0) 2 && any (λ j. eqb (get_or w (class_place j) 0) x) (part_of e 3) && eqb m 0)
        || (eqb (get_or w (p + 1) 0) 3 && ltb x (get_or w 0 0) && leb m 1))

    -- What is asked of class i of entry e: a number of the entry above those before it, a name, a parent there; members that can be found, so no two
    -- fields and no two methods of one name.
    abbrev pub class_tests : ℕ → ℕ → List Bool
    class_tests e i =
        let c : Class = class_in i in
        is_function_up_to e (c.number - 256) ∷ eqb ((c.number - 256) / 2048) e
        ∷ (eqb i (count_after e 3) || ltb (get_or w (class_place (i - 1)) 0) c.number)
        ∷ is_name_up_to e c.name ∷ (eqb c.parent 0 || is_class_up_to e c.parent && not (eqb c.parent c.number))
        ∷ all (is_name_up_to e) c.fields ∷ unlike eqb c.fields
        ∷ all (λ m. is_name_up_to e m.name && is_function_up_to e m.fun && leb m.params 2047) c.methods ∷ unlike eqb (map (λ m. m.name) c.methods)
        ∷ []

    abbrev pub class_fits : ℕ → ℕ → Bool
    class_fits e i = every (class_tests e i)

    -- Do all numbers of entry e, and are its members those of its classes?
    abbrev pub entry_numbers_fit : ℕ → Bool
    entry_numbers_fit e =
        every (row_fits e ∷ all (laid_fits e) (part_of e 2) ∷ all (class_fits e) (part_of e 3) ∷ eqb (members_before (count_after (suc e) 3)) (count_after (suc e) 4) ∷ [])

    -- and the last row has the session's counts
    abbrev pub numbers_fit : Bool
    numbers_fit = all entry_numbers_fit (from 0 (get_or w 1 0)) && all (λ c. eqb (count_after (get_or w 1 0) c) (get_or w (3 + c) 0)) (from 0 5)

    -- these three: all of question 23 but the names on show
    abbrev pub runs_fit : Bool
    runs_fit = every (counts_fit ∷ session_names_fit ∷ numbers_fit ∷ [])

    -- Are as many names on show as a full recount finds?
    abbrev pub shown_fits : Bool
    shown_fits = eqb (get_or w 2 0) (names_shown session_in)

    abbrev pub session_fits : Bool
    session_fits = runs_fit && shown_fits

-- words w with the number of names that session S shows
abbrev pub showing : Session → List ℕ → List ℕ
showing S w = set w 2 (names_shown S)

-- The fresh session: the nine core names are on show, nothing else is counted; and the fixed names.
abbrev pub fresh_words : Room → List ℕ
fresh_words R = showing fresh (replicate (session_size R) 0)

abbrev pub fresh_bytes : Room → List ℕ
fresh_bytes R = fixed_bytes ++ replicate R.bytes 0

-- the words of a declaration, a class and its members
abbrev pub laid_words : Named → List ℕ
laid_words x = x.name ∷ go x.means
  where
    go : Meaning → List ℕ
    go nothing = 0 ∷ 0 ∷ 0 ∷ []
    go (function f) = 1 ∷ f ∷ 0 ∷ []
    go (class c) = 2 ∷ c ∷ 0 ∷ []
    go (global g m) = 3 ∷ g ∷ m ∷ []
    go (toplevel r) = 0 ∷ 0 ∷ 0 ∷ []
    go (variable r f) = 0 ∷ 0 ∷ 0 ∷ []

abbrev pub class_words : Class → List ℕ
class_words c = c.number ∷ c.name ∷ c.parent ∷ length c.fields ∷ length c.methods ∷ []

abbrev pub member_words : Class → List ℕ
member_words c = concat_map (λ f. f ∷ 0 ∷ 0 ∷ []) c.fields ++ concat_map (λ m. m.name ∷ m.fun ∷ m.params ∷ []) c.methods

-- the five counts with an entry more
abbrev pub counts_with : List ℕ → Accepted → List ℕ
counts_with w e =
    (get_or w 3 0 + length e.names) ∷ (get_or w 4 0 + length (concat_map ended e.names)) ∷ (get_or w 5 0 + length e.laid)
    ∷ (get_or w 6 0 + length e.classes) ∷ (get_or w 7 0 + total member_count e.classes) ∷ []

-- the words with an accepted entry more: its runs after those that are there, its row, the counts; all other words stay, the names on show among them
abbrev pub words_with : Room → List ℕ → ℕ → Accepted → List ℕ
words_with R w g e =
    sets
    (sets (sets (sets (sets w (member_place R (get_or w 7 0)) (concat_map member_words e.classes))
    (class_place R (get_or w 6 0)) (concat_map class_words e.classes))
    (laid_place R (get_or w 5 0)) (concat_map laid_words e.laid))
    (entry_place R (get_or w 1 0)) (counts_with w e))
    0 (g ∷ suc (get_or w 1 0) ∷ get_or w 2 0 ∷ counts_with w e)

-- the bytes with its new names after those that are there
abbrev pub bytes_with : List ℕ → List ℕ → Accepted → List ℕ
bytes_with w n e = sets n (length fixed_bytes + get_or w 4 0) (concat_map ended e.names)

-- Entering sheet s with names ns into the session of words w and bytes n, with a buffer of `lent` words: the outcome, and the words and bytes after it.
module _ (R : Room) (w n : List ℕ) (s : Sheet) (ns : List ℕ) (lent : ℕ) where
  abbrev pub enter_outcome : Outcome
  enter_outcome = when not (session_fits R w n) then refused 23 else entered (session_in R w n) s ns lent

  abbrev pub enter_words : List ℕ
  enter_words =
      when eqb enter_outcome.number 0
      then showing (after_entry (session_in R w n) s ns lent) (words_with R w enter_outcome.globals (new_entry (session_in R w n) s ns))
      else when leb 5 enter_outcome.number && leb enter_outcome.number 21 then set w 0 (after_entry (session_in R w n) s ns lent).globals
      else w

  abbrev pub enter_bytes : List ℕ
  enter_bytes = when eqb enter_outcome.number 0 then bytes_with w n (new_entry (session_in R w n) s ns) else n

-- The text of name k, the session's or the entry's: fixed ones stand in the session's bytes. Empty for a number that is not there, and where the list that it
-- stands in is refused.
abbrev pub name_text : Room → List ℕ → List ℕ → List ℕ → Bool → ℕ → Name
name_text R w n ns of_entry k =
    when of_entry && leb 25 k then (when names_fit ns then get_or (listed ns) (k - 25) [] else [])
    else when eqb k 0 || not (session_names_fit R w n) then []
    else get_or (fixed ++ listed (name_bytes R w n)) (k - 1) []
