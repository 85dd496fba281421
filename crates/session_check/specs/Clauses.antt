-- The program's own order of question 23, second part: declarations, classes and members, each entry by itself.
use Rattle.std.specs.Prelude.{Bool, true, false, not, ◌&&◌, ◌||◌, List, [], ◌∷◌, map, ℕ, suc, ◌+◌, ◌-◌, ◌/◌, ◌<◌, get_or, set, eqb, leb, ltb}
use Rattle.definition.specs.Basics.{when◌then◌else◌, all, any, unlike, from}
use Rattle.session.specs.Words.{whole, class_place, member_place, part_of, fields_in, methods_in, members_before, is_function_up_to, is_name_up_to, is_class_up_to, laid_fits}
use Rattle.session_rows.specs.Rows.{after, number_of, order_right}

-- the name of member j
abbrev pub member_name : List ℕ → ℕ → ℕ
member_name w j = get_or w (member_place whole j) 0

-- are the names of the members from a on and below b numbers of names up to `last`, and no two the same?
unfoldable pub names_apart : List ℕ → ℕ → ℕ → ℕ → Bool
names_apart w last a b =
    all (λ j. leb 1 (member_name w j) && leb (member_name w j) last) (from a (b - a)) && unlike eqb (map (member_name w) (from a (b - a)))

-- is x a name without the mark v in m?
unfoldable pub is_fresh : ℕ → ℕ → List ℕ → ℕ → Bool
is_fresh last v m x = (leb 1 x && leb x last) && not (eqb (get_or m x 0) v)

-- the same of the names xs, in order, each with the marks of those before it
unfoldable pub are_fresh : ℕ → ℕ → List ℕ → List ℕ → Bool
are_fresh last v m [] = true
are_fresh last v m (x ∷ xs) = is_fresh last v m x && are_fresh last v (set m x v) xs

-- all marks are below v
pub record Under (m : List ℕ) (v : ℕ) : Type 0 where
  pub each : (i : ℕ) → get_or m i 0 < v

-- is member j a function up to entry e, of at most 2,047 parameters?
unfoldable pub method_right : List ℕ → ℕ → ℕ → Bool
method_right w e j = is_function_up_to whole w [] e (get_or w (member_place whole j + 1) 0) && leb (get_or w (member_place whole j + 2) 0) 2047

-- the same of those from a on and below b
unfoldable pub methods_right : List ℕ → ℕ → ℕ → ℕ → Bool
methods_right w e a b = all (method_right w e) (from a (b - a))

-- the number of the last name of the entries up to e
abbrev pub last_name : List ℕ → ℕ → ℕ
last_name w e = 24 + after w (suc e) 0

-- are the members of class i, the first of them x, as they should be?
unfoldable pub members_right : List ℕ → ℕ → ℕ → ℕ → Bool
members_right w e i x =
    let y : ℕ = x + fields_in whole w [] i in
    let z : ℕ = y + methods_in whole w [] i in
    names_apart w (last_name w e) x y && (names_apart w (last_name w e) y z && methods_right w e y z)

-- is what a declaration of entry e means there: a function or class of the entry, or a global below the count?
unfoldable pub means_right : List ℕ → ℕ → ℕ → ℕ → ℕ → Bool
means_right w e code x m =
    when eqb code 1 then is_function_up_to whole w [] e x && eqb (x / 2048) e && eqb m 0
    else when eqb code 2 then any (λ j. eqb (number_of w j) x) (part_of whole w [] e 3) && eqb m 0
    else when eqb code 3 then ltb x (get_or w 0 0) && leb m 1
    else false

-- is the parent of class i none, or another class of the entries up to e?
unfoldable pub parent_right : List ℕ → ℕ → ℕ → Bool
parent_right w e i =
    let p : ℕ = get_or w (class_place whole i + 2) 0 in
    eqb p 0 || is_class_up_to whole w [] e p && not (eqb p (number_of w i))

-- is class i, but for its number, as it should be?
unfoldable pub class_right : List ℕ → ℕ → ℕ → Bool
class_right w e i = is_name_up_to whole w [] e (get_or w (class_place whole i + 1) 0) && (parent_right w e i && members_right w e i (members_before whole w [] i))

-- are all classes of entry e, and are its members theirs?
unfoldable pub classes_right : List ℕ → ℕ → Bool
classes_right w e = all (class_right w e) (part_of whole w [] e 3) && eqb (members_before whole w [] (after w (suc e) 3)) (after w (suc e) 4)

-- are all declarations and classes of entry e?
unfoldable pub entry_right : List ℕ → ℕ → Bool
entry_right w e = all (laid_fits whole w [] e) (part_of whole w [] e 2) && classes_right w e

-- the same of all entries
unfoldable pub entries_right : List ℕ → Bool
entries_right w = all (entry_right w) (from 0 (get_or w 1 0))

-- are all numbers of the session?
unfoldable pub numbers_right : List ℕ → List ℕ → Bool
numbers_right w t = order_right w t && entries_right w
