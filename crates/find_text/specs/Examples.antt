-- Replies, computed.
use Rattle.std.specs.Prelude.{◌≡◌, refl, List, [], ◌∷◌, map, ℕ}
use Rattle.definition.specs.Bytes.{bytes}
use Rattle.definition.specs.Text.{text_of}
use Rattle.definition.specs.Answer.{eight}
use Rattle.name_index.specs.Index.{index_of}
use Rattle.find_text.specs.Reply.{printed_find}

-- the first line, and the row of a number and places
abbrev told : ℕ → ℕ → List ℕ
told n places = text_of ((0 ∷ 0 ∷ 0 ∷ 0 ∷ 0 ∷ 1 ∷ 0 ∷ 0 ∷ []) ∷ eight (n ∷ places ∷ []) ∷ [])

-- two names of one value, a fixed name, an absent one; a list refused as 2
replies : map (printed_find (bytes "costarring\nliquid\n")) (bytes "costarring" ∷ bytes "liquid" ∷ bytes "x" ∷ [] ∷ [])
    ≡ told 25 1 ∷ told 26 2 ∷ told 14 1 ∷ told 0 1 ∷ []
unfolding index_of
replies = refl

refused : printed_find (bytes "a\na\n") (bytes "a") ≡ told 0 0
refused = refl
