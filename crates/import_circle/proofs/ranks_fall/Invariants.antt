use Prim.Native.Nat.{◌≤◌}
use Rattle.definition.specs.Sheet.{rows as rows_of}
use Rattle.import_circle.proofs.RankLaws.{Fallen}
use Rattle.import_circle.proofs.ranks_fall.Given as goal

abbrev pub invariant-loop-u : goal.invariant-loop-u
invariant-loop-u l = (l.u ≤ rows_of l.sheet) × Fallen l.sheet l.ranks l.u
