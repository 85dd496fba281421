-- A list of names that passed a test, with the starts of its names and their index.
use Rattle.std.specs.Prelude.{◌≡◌, Bool, true, false, List, ℕ, Option, MatchOption}
use Rattle.name_index.specs.declared.NameIndex.{NameIndex}

-- if names pass a test, they are there with their starts and their index; else there is nothing
abbrev pub Listing : Bool → List ℕ → Option NameIndex → Type 0
Listing fits ns found = MatchOption found (fits ≡ false) (λ list. (fits ≡ true) × (list.listed.names.now ≡ ns))
