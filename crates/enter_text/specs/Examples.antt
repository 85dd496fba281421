-- Replies, computed.
use Rattle.std.specs.Prelude.{◌≡◌, refl, true, false, [], ◌∷◌, map}
use Rattle.definition.specs.Bytes.{bytes}
use Rattle.definition.specs.Text.{text_of}
use Rattle.definition.specs.Samples.{s1}
use Rattle.definition.specs.Answer.{eight}
use Rattle.session.specs.Words.{whole, fresh_words, fresh_bytes}
use Rattle.text.specs.Writing.{rows_in}
use Rattle.report.specs.Report.{fitted}
use Rattle.enter_text.specs.Reply.{session_row, printed_entry, is_lent}

-- the whole case of document 01 entered into a fresh session: its four answer rows, then one entry, ten names on show, the names f and p of four bytes, and f laid over
first_entry : printed_entry 4 (fresh_words whole) (fresh_bytes whole) (text_of (rows_in s1.sheet)) (bytes "f\np\n")
    ≡ text_of (map eight (
    (0 ∷ 0 ∷ 0 ∷ 0 ∷ 0 ∷ 4 ∷ [])
    ∷ (2 ∷ 20 ∷ [])
    ∷ (4 ∷ 1 ∷ 6 ∷ [])
    ∷ (6 ∷ 20 ∷ [])
    ∷ (9 ∷ 4 ∷ 0 ∷ 6 ∷ [])
    ∷ (0 ∷ 1 ∷ 10 ∷ 2 ∷ 4 ∷ 1 ∷ [])
    ∷ []))
unfolding fitted
first_entry = refl

-- a session that is refused: 23, and its words as they are; fewer than eight are filled up with zeros
refused_entry : printed_entry 2048 (7 ∷ 8 ∷ 9 ∷ []) [] [] [] ≡ text_of (map eight ((23 ∷ []) ∷ (7 ∷ 8 ∷ 9 ∷ []) ∷ []))
unfolding fitted
refused_entry = refl

-- eight words are told, more are not
rows : map session_row ((1 ∷ 2 ∷ 3 ∷ 4 ∷ 5 ∷ 6 ∷ 7 ∷ 8 ∷ 9 ∷ []) ∷ [] ∷ []) ≡ text_of (map eight ((1 ∷ 2 ∷ 3 ∷ 4 ∷ 5 ∷ 6 ∷ 7 ∷ 8 ∷ []) ∷ [])) ∷ text_of (map eight ([] ∷ [])) ∷ []
unfolding fitted
rows = refl

-- rows lent and room, exact and one off
lent : is_lent 2048 166050 ∷ is_lent 2049 166050 ∷ is_lent 2048 166049 ∷ is_lent 0 166051 ∷ [] ≡ true ∷ false ∷ false ∷ true ∷ []
unfolding is_lent
lent = refl
