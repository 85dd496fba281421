-- An entry's sheet with the session's name numbers: after it, document 01 is asked as of any sheet.
use Rattle.std.specs.Prelude.{Bool, true, false, not, ◌&&◌, List, [], ◌∷◌, ◌++◌, ℕ, suc, ◌-◌, length, get_or, leb}
use Rattle.definition.specs.Basics.{when◌then◌else◌, filter, any, place, from, concat_map}
use Rattle.definition.specs.Names.{Name, fixed, listed, same_name}
use Rattle.definition.specs.Sheet.{Sheet, kind, next, child, file, line, column, a, b, rows}
use Rattle.definition.specs.Shape.{Column, unread, up_to, name, row, global, mode, or_zero, shape_of}
use Rattle.session.specs.Session.{Session, all_names}

-- the entry's names by number from 1 on
abbrev pub own_names : List ℕ → List Name
own_names ns = fixed ++ listed ns

-- the entry's new names: those listed whose bytes the session does not have, in the list's order
abbrev pub new_names : Session → List ℕ → List Name
new_names S ns = filter (λ x. not (any (same_name x) (all_names S))) (listed ns)

-- the session's names with the entry's new ones after them
abbrev pub names_with : Session → List ℕ → List Name
names_with S ns = all_names S ++ new_names S ns

-- the number in the list l of the name that has number n in the list k; a number that names nothing there, as 0, stays
abbrev pub renumbered : List Name → List Name → ℕ → ℕ
renumbered k l n = when leb 1 n && leb n (length k) then suc (place (same_name (get_or k (n - 1) [])) l) else n

-- the session's number of the entry's name n, and the way back
abbrev pub to_session : Session → List ℕ → ℕ → ℕ
to_session S ns n = renumbered (own_names ns) (names_with S ns) n

abbrev pub to_entry : Session → List ℕ → ℕ → ℕ
to_entry S ns n = renumbered (names_with S ns) (own_names ns) n

-- does a column hold names?
abbrev pub holds_name : Column → Bool
holds_name unread = false
holds_name (up_to n) = false
holds_name name = true
holds_name (row k) = false
holds_name global = false
holds_name mode = false
holds_name (or_zero c) = holds_name c

-- row r with the session's numbers in the columns that hold names
abbrev pub entry_row : Session → List ℕ → Sheet → ℕ → List ℕ
entry_row S ns s r =
    kind s r ∷ next s r ∷ child s r ∷ file s r ∷ line s r ∷ column s r
    ∷ (when holds_name (shape_of (kind s r)).a then to_session S ns (a s r) else a s r)
    ∷ (when holds_name (shape_of (kind s r)).b then to_session S ns (b s r) else b s r)
    ∷ []

-- the whole sheet so
abbrev pub entry_sheet : Session → List ℕ → Sheet → Sheet
entry_sheet S ns s = concat_map (entry_row S ns s) (from 0 (rows s))
