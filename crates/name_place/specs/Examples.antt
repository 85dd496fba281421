-- Places, computed.
use Rattle.std.specs.Prelude.{◌≡◌, refl, true, false, [], ◌∷◌, ◌++◌, map}
use Rattle.definition.specs.Bytes.{bytes}
use Rattle.session.specs.Words.{fixed_bytes}
use Rattle.name_place.specs.Place.{bytes_before, nowhere, place_of}

-- the names of a list start after the ends of those before them
starts : map (λ k. bytes_before k (bytes "rule\nto\n")) (0 ∷ 1 ∷ 2 ∷ 3 ∷ []) ≡ 0 ∷ 5 ∷ 8 ∷ 8 ∷ []
starts = refl

-- a session's listed names follow the fixed ones; an entry's stand in its list; no text stands nowhere
places : place_of (fixed_bytes ++ bytes "rule\nto\n") (bytes "a\nto\n") false 26 2 ∷ place_of (fixed_bytes ++ bytes "rule\nto\n") (bytes "a\nto\n") true 26 2
    ∷ place_of (fixed_bytes ++ bytes "rule\nto\n") (bytes "a\nto\n") true 6 4 ∷ place_of fixed_bytes [] false 25 0 ∷ []
    ≡ record { list = 0; start = 173; length = 2 } ∷ record { list = 1; start = 2; length = 2 } ∷ record { list = 0; start = 37; length = 4 } ∷ nowhere ∷ []
places = refl
