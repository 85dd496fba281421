-- Answer rows in words, and their numbers raised in place.
use Rattle.std.specs.Prelude.{Bool, ◌||◌, List, ◌++◌, ℕ, ◌*◌, eqb, ltb, get_or, drop}
use Rattle.definition.specs.Basics.{◌⇒◌, concat_map}
use Rattle.definition.specs.Answer.{raised}
use Rattle.definition.specs.Outcome.{rows_of_words}

-- if an answer row tells a local or an argument, is its function a row of a sheet?
unfoldable pub owner_fits : List ℕ → Bool
owner_fits x = (eqb (get_or x 1 0) 4 || eqb (get_or x 1 0) 5) ⇒ ltb (get_or x 3 0) 2048

-- words with the first k rows over base n
unfoldable pub raised_words : ℕ → ℕ → List ℕ → List ℕ
raised_words n k w = concat_map (λ r. r) (raised n (rows_of_words k w)) ++ drop (8 * k) w
