use mathlib.Core.Path.{◌≡◌}
use Prim.Native.Nat.{◌≤◌}
use Rattle.unit_order.specs.Order.{units, circles}
use Rattle.definition.specs.Sheet.{rows as rows_of}
use Rattle.std.specs.List.{find}
use Rattle.import_circle.proofs.RankLaws.{lowest_from}
use Rattle.import_circle.proofs.lowest_by.Given as goal

abbrev pub invariant-loop-u : goal.invariant-loop-u
invariant-loop-u l = (l.u ≤ rows_of l.sheet) × (lowest_from l.sheet l.u ≡ find (circles l.sheet) (units l.sheet))
