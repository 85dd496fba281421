-- What the iterator over the names of a record has left to give.
use Rattle.std.specs.Prelude.{List, ℕ}
use Rattle.outside.specs.Words.{spaced_at}
use Rattle.outside.specs.declared.recorded_names.RecordedNames.{RecordedNames}

-- the names that are left
abbrev pub names_left : RecordedNames → List ℕ
names_left x = spaced_at x.outside.now x.step x.at x.left
