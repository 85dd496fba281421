-- What finding a name promises, for every list of names, bytes looked for and lent words.
use Rattle.std.specs.Prelude.{◌≡◌, List, [], ◌∷◌, ℕ}
use Rattle.report.specs.Report.{fitted}
use Rattle.name_index.specs.Index.{find}

-- Of the bytes ns of the names, bytes b that are looked for, and `room` lent words, which then are w:
pub record NameFound (ns b : List ℕ) (room n : ℕ) (w : List ℕ) : Type 0 where
  -- the number returned is the one found, or 0,
  pub number : n ≡ (find ns b).0
  -- and the words hold it and how many places were read, as far as they go, and zeros to their end.
  pub words : w ≡ fitted room ((find ns b).0 ∷ (find ns b).1 ∷ [])
