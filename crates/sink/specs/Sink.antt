-- The lent answer words as they are filled, row by row.
use Rattle.std.specs.Prelude.{List, [], ◌∷◌, ℕ, suc, ◌*◌, ◌/◌, length, ltb}
use Rattle.std.proofs.lemmas.List.Edits.{sets}
use Rattle.definition.specs.Basics.{when◌then◌else◌}

-- Rows written so far, or one more than fit; and the words.
pub record Sink : Type 0 where
  pub count : ℕ
  pub words : List ℕ

abbrev pub sink : ℕ → List ℕ → Sink
sink n w = record { count = n; words = w }

-- one row more, if it fits
unfoldable pub emit : List ℕ → Sink → Sink
emit row k =
    when ltb k.count (length k.words / 8) then sink (suc k.count) (sets k.words (8 * k.count) row)
    else sink (suc (length k.words / 8)) k.words

-- the rows of a list, one after another
unfoldable pub emit_all : List (List ℕ) → Sink → Sink
emit_all [] k = k
emit_all (r ∷ rs) k = emit_all rs (emit r k)
