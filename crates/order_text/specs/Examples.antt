-- Replies, computed.
use Rattle.std.specs.Prelude.{◌≡◌, refl, List, [], ◌∷◌, map, ℕ}
use Rattle.definition.specs.Text.{text_of}
use Rattle.definition.specs.Answer.{eight}
use Rattle.report.specs.Report.{reply}
use Rattle.unit_order.specs.Order.{units, imports_of, circles, order, order_asked, order_outcome}
use Rattle.order_text.specs.Reply.{printed_order}

-- two units, in rows 1 and 5; the first imports the unit in row u
abbrev two : ℕ → List ℕ
two u =
    text_of
    ((0 ∷ 0 ∷ 1 ∷ 0 ∷ 0 ∷ 0 ∷ 0 ∷ 0 ∷ []) ∷
    (2 ∷ 5 ∷ 2 ∷ 7 ∷ 3 ∷ 4 ∷ 0 ∷ 0 ∷ []) ∷
    (3 ∷ 3 ∷ 0 ∷ 7 ∷ 3 ∷ 5 ∷ u ∷ 0 ∷ []) ∷
    (6 ∷ 0 ∷ 4 ∷ 7 ∷ 3 ∷ 6 ∷ 0 ∷ 1 ∷ []) ∷
    (25 ∷ 0 ∷ 0 ∷ 7 ∷ 3 ∷ 7 ∷ 0 ∷ 0 ∷ []) ∷
    (2 ∷ 0 ∷ 6 ∷ 7 ∷ 8 ∷ 9 ∷ 0 ∷ 0 ∷ []) ∷
    (6 ∷ 0 ∷ 7 ∷ 7 ∷ 8 ∷ 9 ∷ 0 ∷ 1 ∷ []) ∷
    (25 ∷ 0 ∷ 0 ∷ 7 ∷ 8 ∷ 9 ∷ 0 ∷ 0 ∷ []) ∷ [])

-- the first line, and the rows that follow it
abbrev told : List (List ℕ) → List ℕ
told rows = text_of (map eight rows)

-- the reply to a sheet's text into `room` bytes, with n words lent
abbrev to : List ℕ → ℕ → ℕ → List ℕ
to sheet n room = reply n room (printed_order n sheet [])

-- the first imports the second: with a word for each, and with one too few
second_first : map (λ n. to (two 5) n 165969) (2048 ∷ 2 ∷ 1 ∷ [])
    ≡ told ((0 ∷ 0 ∷ 0 ∷ 0 ∷ 0 ∷ 2 ∷ []) ∷ (5 ∷ []) ∷ (1 ∷ []) ∷ [])
    ∷ told ((0 ∷ 0 ∷ 0 ∷ 0 ∷ 0 ∷ 2 ∷ []) ∷ (5 ∷ []) ∷ (1 ∷ []) ∷ [])
    ∷ told ((22 ∷ []) ∷ []) ∷ []
unfolding reply units imports_of circles order order_asked order_outcome
second_first = refl

-- the first imports itself; what it imports is no unit; no text; over 2,048 words or too few bytes lent: no reply
others : to (two 1) 0 165969 ∷ to (two 6) 2 165969 ∷ to [] 2 165969 ∷ to (two 5) 2049 165969 ∷ to (two 5) 2 165968 ∷ []
    ≡ told ((29 ∷ 7 ∷ 3 ∷ 4 ∷ []) ∷ []) ∷ told ((3 ∷ []) ∷ []) ∷ told ((1 ∷ []) ∷ []) ∷ [] ∷ [] ∷ []
unfolding reply units imports_of circles order order_asked order_outcome
others = refl
