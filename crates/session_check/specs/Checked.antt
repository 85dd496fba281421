-- What the entry promises: of a session in lent words and bytes past question 23 its listed names with their index.
use Rattle.std.specs.Prelude.{List, ℕ, Option}
use Rattle.name_index.specs.declared.NameIndex.{NameIndex}
use Rattle.session.specs.Words.{whole, name_bytes, runs_fit, session_fits}
use Rattle.session_names.specs.Listing.{Listing}

-- the listed names of the session of words w and bytes n, if it passes question 23
abbrev pub Checked : List ℕ → List ℕ → Option NameIndex → Type 0
Checked w n = Listing (session_fits whole w n) (name_bytes whole w n)

-- the same, if all of it but the names on show gets a yes
abbrev pub RunsChecked : List ℕ → List ℕ → Option NameIndex → Type 0
RunsChecked w n = Listing (runs_fit whole w n) (name_bytes whole w n)
