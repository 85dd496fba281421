use Rattle.sheet.specs.Rest.{kind_left}
use Rattle.import_circle.proofs.RankLaws.{Ranked}
use Rattle.import_circle.proofs.highest_import.Given as goal

abbrev pub invariant-loop-k : goal.invariant-loop-k
invariant-loop-k l = Ranked l.sheet l.u l.ranks (kind_left l.k-iterator) l.rank
