-- Question 24 and a session's counts, by what an entry adds.
use Rattle.std.specs.Prelude.{Bool, ◌&&◌, List, [], ◌∷◌, ℕ, ◌+◌, get_or, leb}
use Rattle.session_room.specs.declared.Added.{Added}
use Rattle.session_room.specs.declared.Counts.{Counts}

-- the five counts as words
abbrev pub counts_of : Counts → List ℕ
counts_of a = a.names ∷ a.bytes ∷ a.laid ∷ a.classes ∷ a.members ∷ []

-- the session's five counts with what an entry adds
abbrev pub counts_added : List ℕ → Added → List ℕ
counts_added w a = (get_or w 3 0 + a.names) ∷ (get_or w 4 0 + a.bytes) ∷ (get_or w 5 0 + a.laid) ∷ (get_or w 6 0 + a.classes) ∷ (get_or w 7 0 + a.members) ∷ []

-- does the session of words w have room for it?
abbrev pub room_for : List ℕ → Added → Bool
room_for w a =
    leb (get_or w 3 0 + a.names) 1024 && leb (get_or w 4 0 + a.bytes) 32768 && leb (get_or w 5 0 + a.laid) 4096 && leb (get_or w 6 0 + a.classes) 1024
    && leb (get_or w 7 0 + a.members) 8192 && leb (get_or w 1 0 + 1) 1000
