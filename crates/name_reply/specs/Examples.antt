-- Replies, computed.
use Rattle.std.specs.Prelude.{◌≡◌, refl, true, false, List, [], ◌∷◌, ◌++◌, map, ℕ}
use Rattle.definition.specs.Bytes.{bytes}
use Rattle.session.specs.Words.{whole, fixed_bytes, name_text}
use Rattle.name_reply.specs.Reply.{printed_name}

-- a name of one byte, and no name
replies : map printed_name (bytes "x" ∷ [] ∷ [])
    ≡ bytes "         0         0         0         0         0         0         0         1\nx"
    ∷ bytes "         0         0         0         0         0         0         0         0\n" ∷ []
replies = refl

-- a session whose two listed names are `rule` and `to`, and an entry's list
abbrev words : List ℕ
words = 0 ∷ 1 ∷ 0 ∷ 2 ∷ 8 ∷ []

abbrev session : List ℕ
session = fixed_bytes ++ bytes "rule\nto\n"

-- the session's: fixed, listed, past the last, 0; the entry's: fixed, listed, past its last, 0
texts : map (name_text whole words session (bytes "to\n") false) (6 ∷ 25 ∷ 26 ∷ 27 ∷ 0 ∷ [])
    ≡ bytes "Dict" ∷ bytes "rule" ∷ bytes "to" ∷ [] ∷ [] ∷ []
texts = refl

texts_of_entry : map (name_text whole words session (bytes "to\n") true) (6 ∷ 25 ∷ 26 ∷ 0 ∷ []) ≡ bytes "Dict" ∷ bytes "to" ∷ [] ∷ [] ∷ []
texts_of_entry = refl

-- the entry's list refused: its own numbers name nothing
texts_refused : map (name_text whole words session (bytes "to\nto\n") true) (6 ∷ 25 ∷ []) ≡ bytes "Dict" ∷ [] ∷ []
texts_refused = refl
