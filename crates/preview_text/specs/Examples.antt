-- Replies, computed.
use Rattle.std.specs.Prelude.{◌≡◌, refl, [], ◌∷◌, map}
use Rattle.definition.specs.Bytes.{bytes}
use Rattle.definition.specs.Text.{text_of}
use Rattle.definition.specs.Samples.{s1}
use Rattle.definition.specs.Answer.{eight}
use Rattle.session.specs.Words.{whole, fresh_words, fresh_bytes}
use Rattle.text.specs.Writing.{rows_in}
use Rattle.report.specs.Report.{fitted}
use Rattle.preview_text.specs.Reply.{printed_preview}

-- the whole case of document 01 previewed in a fresh session: its four answer rows, then the session as it was
first_preview : printed_preview 4 (fresh_words whole) (fresh_bytes whole) (text_of (rows_in s1.sheet)) (bytes "f\np\n")
    ≡ text_of (map eight ((0 ∷ 0 ∷ 0 ∷ 0 ∷ 0 ∷ 4 ∷ []) ∷ (2 ∷ 20 ∷ []) ∷ (4 ∷ 1 ∷ 6 ∷ []) ∷ (6 ∷ 20 ∷ []) ∷ (9 ∷ 4 ∷ 0 ∷ 6 ∷ []) ∷ (0 ∷ 0 ∷ 9 ∷ []) ∷ []))
unfolding fitted
first_preview = refl

-- a row lent too few is 22, and a session that is refused 23
few_lent : printed_preview 3 (fresh_words whole) (fresh_bytes whole) (text_of (rows_in s1.sheet)) (bytes "f\np\n") ≡ text_of (map eight ((22 ∷ []) ∷ (0 ∷ 0 ∷ 9 ∷ []) ∷ []))
unfolding fitted
few_lent = refl

refused_session : printed_preview 2048 (7 ∷ 8 ∷ 9 ∷ []) [] [] [] ≡ text_of (map eight ((23 ∷ []) ∷ (7 ∷ 8 ∷ 9 ∷ []) ∷ []))
unfolding fitted
refused_session = refl
