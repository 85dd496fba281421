-- The answer rows, read off the sheet and off what the walk stored.
use Rattle.std.specs.Prelude.{◌||◌, List, [], ◌∷◌, ◌++◌, map, ℕ, ◌+◌, ◌*◌, length, eqb}
use Rattle.definition.specs.Basics.{when◌then◌else◌, bit, concat_map, from}
use Rattle.definition.specs.Sheet.{Sheet, child, rows, is}
use Rattle.definition.specs.Outside.{Outside, Method}
use Rattle.definition.specs.Classes.{method_named}
use Rattle.definition.specs.Answer.{eight, numbered}
use Rattle.machine.specs.Machine.{Store, cell, list_at, seen_in, code_of}
use Rattle.machine.specs.Reads.{row_words, answer_row, identifier_answer, meaning_of_node, escaping_slots}
use Rattle.after.specs.Inherited.{parent_in, fields_in, methods_in, method_names_in, has_children_in}

-- a literal: a row for each source
unfoldable pub literal_rows_in : Sheet → Store → ℕ → List (List ℕ)
literal_rows_in s o r = map (λ y. seen_in s (meaning_of_node y) y.two 0 (cell o.table r 1) o) (list_at o (8 * child s r + 6))

-- a function: its counts, what it captures, its escaping locals
unfoldable pub function_rows_in : Sheet → Store → ℕ → List (List ℕ)
function_rows_in s o f =
    (20 ∷ cell o.table f 5 ∷ length (list_at o (8 * f + 6)) ∷ length (escaping_slots s o f) ∷ [])
    ∷ map (λ y. code_of s (meaning_of_node y) y.two 0) (list_at o (8 * f + 6)) ++ map (λ j. 5 ∷ j ∷ f ∷ 1 ∷ []) (escaping_slots s o f)

-- a class: its counts, its fields by slot, its methods
unfoldable pub class_rows_in : Outside → Sheet → Store → ℕ → List (List ℕ)
class_rows_in O s o r =
    let fs : List ℕ = fields_in O s o (rows s) (256 + r) in
    let ms : List Method = methods_in O s o (rows s) (256 + r) in
    (22 ∷ parent_in s o (256 + r) ∷ bit (has_children_in s o (256 + r)) ∷ length fs ∷ length ms ∷ [])
    ∷ numbered 0 fs ++ map (λ m. 24 ∷ m.name ∷ m.fun ∷ []) ms

-- the same, with each method told by its name and then looked for
unfoldable pub class_rows_named : Outside → Sheet → Store → ℕ → List (List ℕ)
class_rows_named O s o r =
    let fs : List ℕ = fields_in O s o (rows s) (256 + r) in
    let ns : List ℕ = method_names_in O s o (rows s) (256 + r) in
    (22 ∷ parent_in s o (256 + r) ∷ bit (has_children_in s o (256 + r)) ∷ length fs ∷ length ns ∷ [])
    ∷ numbered 0 fs ++ map (λ n. 24 ∷ n ∷ method_named n (methods_in O s o (rows s) (256 + r)) ∷ []) ns

-- the answer rows of sheet row r
unfoldable pub rows_in : Outside → Sheet → Store → ℕ → List (List ℕ)
rows_in O s o r =
    when is s 29 r || is s 51 r || is s 55 r then answer_row r (row_words o.table r) ∷ []
    else when is s 50 r then (when eqb (cell o.table r 4) 0 then identifier_answer r (row_words o.table r) ∷ [] else [])
    else when is s 54 r then (when eqb (cell o.table r 0) 0 then [] else answer_row r (row_words o.table r) ∷ [])
    else map (λ vs. eight (r ∷ vs)) (when is s 52 r then literal_rows_in s o r else when is s 6 r then function_rows_in s o r else when is s 4 r then class_rows_in O s o r else [])

-- all answer rows, in rising sheet row
abbrev pub answers_in : Outside → Sheet → Store → List (List ℕ)
answers_in O s o = concat_map (rows_in O s o) (from 0 (rows s))
