-- Replies, computed.
use Rattle.std.specs.Prelude.{◌≡◌, refl, List, [], ◌∷◌, map, ℕ}
use Rattle.definition.specs.Bytes.{bytes}
use Rattle.definition.specs.Text.{text_of}
use Rattle.definition.specs.Samples.{s1, expected}
use Rattle.text.specs.Writing.{rows_in}
use Rattle.report.specs.Report.{reply}
use Rattle.resolve_text.specs.Report.{printed_with}

-- a refusal by question q of the whole input
abbrev no : ℕ → List ℕ
no q = text_of ((q ∷ 0 ∷ 0 ∷ 0 ∷ 0 ∷ 0 ∷ 0 ∷ 0 ∷ []) ∷ [])

-- the reply to a sheet's text and its names into `room` bytes, with n rows lent
abbrev to : List ℕ → List ℕ → ℕ → ℕ → List ℕ
to sheet names n room = reply n room (printed_with n sheet names)

-- the whole case of document 01 has four answer rows: as many lent, one too few, none
whole : map (λ n. to (text_of (rows_in s1.sheet)) (bytes "f\np\n") n 165969) (4 ∷ 3 ∷ 0 ∷ []) ≡ text_of (expected s1) ∷ no 22 ∷ no 22 ∷ []
unfolding reply
whole = refl

-- question 1 comes before 22; over 2,048 rows or too few bytes lent: no reply
others : to [] [] 0 165969 ∷ to [] [] 2048 165969 ∷ to [] [] 2049 165969 ∷ to [] [] 2048 165968 ∷ [] ≡ no 1 ∷ no 1 ∷ [] ∷ [] ∷ []
unfolding reply
others = refl
