-- Replies, computed.
use Rattle.std.specs.Prelude.{◌≡◌, refl, [], ◌∷◌, map, set}
use Rattle.definition.specs.Text.{text_of}
use Rattle.definition.specs.Answer.{eight}
use Rattle.session.specs.Words.{whole, fresh_words, fresh_bytes}
use Rattle.report.specs.Report.{fitted}
use Rattle.withdraw_text.specs.Reply.{printed_withdrawal}

-- a session without entries, whose count of globals is 3: 25, and it is as it was
none_left : printed_withdrawal (set (fresh_words whole) 0 3) (fresh_bytes whole) ≡ text_of (map eight ((25 ∷ []) ∷ (3 ∷ 0 ∷ 9 ∷ []) ∷ []))
unfolding fitted
none_left = refl

-- one entry that left nothing is withdrawn: no question gets a no
withdrawn : printed_withdrawal (set (set (fresh_words whole) 0 3) 1 1) (fresh_bytes whole) ≡ text_of (map eight ([] ∷ (3 ∷ 0 ∷ 9 ∷ []) ∷ []))
unfolding fitted
withdrawn = refl

-- a session that is refused: 23, and its words as they are; fewer than eight are filled up with zeros
refused_session : printed_withdrawal (7 ∷ 8 ∷ 9 ∷ []) [] ≡ text_of (map eight ((23 ∷ []) ∷ (7 ∷ 8 ∷ 9 ∷ []) ∷ []))
unfolding fitted
refused_session = refl
