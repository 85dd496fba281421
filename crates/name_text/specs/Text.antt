-- The two places of a name's text, as the program takes them.
use Rattle.std.specs.Prelude.{Bool, true, false, not, ◌||◌, List, [], ◌++◌, ℕ, ◌-◌, get_or, eqb}
use Rattle.name_text.specs.declared.Whose.{Whose}
use Rattle.name_text.specs.declared.Whose.TheVariants.{Session, Entry}
use Rattle.definition.specs.Basics.{when◌then◌else◌}
use Rattle.definition.specs.Names.{Name, fixed, listed, names_fit}
use Rattle.names.specs.Listed.{name_of}
use Rattle.session.specs.Words.{whole, name_bytes, session_names_fit}

-- is it the entry's number?
abbrev pub of_entry : Whose → Bool
of_entry Session = false
of_entry Entry = true

-- the name of number k in an entry's list
abbrev pub list_text : List ℕ → ℕ → Name
list_text ns k = when names_fit ns then name_of ns k else []

-- the name of number k in a session of words w and bytes n
abbrev pub session_text : List ℕ → List ℕ → ℕ → Name
session_text w n k = when eqb k 0 || not (session_names_fit whole w n) then [] else get_or (fixed ++ listed (name_bytes whole w n)) (k - 1) []
