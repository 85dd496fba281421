-- The words of an outside, and how those of a session's names come about.
use Rattle.std.specs.Prelude.{List, [], ◌∷◌, ◌++◌, map, ℕ, suc, ◌+◌, ◌-◌, ◌*◌, length, get_or, set, eqb}
use Rattle.std.proofs.lemmas.List.Edits.{sets}
use Rattle.definition.specs.Basics.{when◌then◌else◌, concat_map, distinct, from}
use Rattle.definition.specs.Meaning.{Named, named, nothing}
use Rattle.definition.specs.Outside.{Outside, Method, ClassRecord, core}
use Rattle.session.specs.Session.{backward, earlier, past_rows, earlier_record}
use Rattle.session.specs.Words.{whole, member_place, laid_in, class_in, laid_words}

-- the row of a name
unfoldable pub name_row : Named → List ℕ
name_row x = laid_words x ++ 0 ∷ 0 ∷ 0 ∷ 0 ∷ []

-- a method's words
abbrev pub method_words : Method → List ℕ
method_words m = m.name ∷ m.fun ∷ m.params ∷ []

-- the fields and methods of a record
abbrev pub member_run : ClassRecord → List ℕ
member_run r = r.fields ++ concat_map method_words r.methods

-- the row of a record whose fields begin at place p
abbrev pub record_row : ℕ → ClassRecord → List ℕ
record_row p r =
    r.number ∷ r.name ∷ p ∷ length r.fields ∷ (p + length r.fields) ∷ length r.methods ∷ 0 ∷ 0 ∷ []

-- where the next record's fields begin
abbrev pub next_place : ℕ → ClassRecord → ℕ
next_place p r = p + length r.fields + 3 * length r.methods

-- the rows of records, one's members after another's from place p on
unfoldable pub record_rows : ℕ → List ClassRecord → List ℕ
record_rows p [] = []
record_rows p (r ∷ rs) = record_row p r ++ record_rows (next_place p r) rs

-- the words of an outside: row 0, the rows of names, those of records, the members of these
unfoldable pub outside_words : Outside → List ℕ
outside_words O =
    let names : ℕ = suc (length O.names) in
    let records : ℕ = names + length O.records in
    (names ∷ records ∷ 0 ∷ 0 ∷ 0 ∷ 0 ∷ 0 ∷ 0 ∷ [])
    ++ concat_map name_row O.names ++ record_rows (8 * records) O.records ++ concat_map member_run O.records

-- a declaration of the session as an entry's walk reads it
abbrev pub seen : Named → Named
seen x = named x.name (earlier x.means)

-- the first of each name that has no mark
unfoldable pub firsts : List ℕ → List Named → List Named
firsts marks [] = []
firsts marks (x ∷ xs) = when eqb (get_or marks x.name 0) 0 then x ∷ firsts (set marks x.name 1) xs else firsts marks xs

-- Rows of names: the row after the last, and the words.
pub record NameRows : Type 0 where
  pub end : ℕ
  pub words : List ℕ

-- the rows of these, from row i on
unfoldable pub name_rows : ℕ → List ℕ → List ℕ → List Named → NameRows
name_rows i marks w xs =
    record { end = i + length (firsts marks xs); words = sets w (8 * i) (concat_map name_row (map seen (firsts marks xs))) }

-- the first k declarations of session words, the latest first, and the core names under them
unfoldable pub names_below : List ℕ → ℕ → List Named
names_below w k = backward (map (laid_in whole w []) (from 0 k)) ++ core.names

-- the records of the classes of session words from class i on, and those of the core
unfoldable pub records_from : List ℕ → ℕ → List ClassRecord
records_from w i = map earlier_record (map (class_in whole w []) (from i (get_or w 6 0 - i))) ++ core.records

-- the visible names of session words, with what they mean in an entry's walk
unfoldable pub visible_names : List ℕ → List Named
visible_names w = map seen (distinct (λ x y. eqb x.name y.name) (names_below w (get_or w 5 0)))

-- core name i, from 0
abbrev pub core_name : ℕ → Named
core_name i = get_or core.names i (named 0 nothing)

-- member j of session words as a method of an earlier entry
abbrev pub earlier_method_in : List ℕ → ℕ → Method
earlier_method_in w j =
    record { name = get_or w (member_place whole j) 0; fun = past_rows (get_or w (member_place whole j + 1) 0); params = get_or w (member_place whole j + 2) 0 }

-- what stands outside the next entry's sheet, by session words
abbrev pub outside_in : List ℕ → Outside
outside_in w = record { names = visible_names w; records = records_from w 0; base = 0 }
