use mathlib.Core.Path.{◌≡◌}
use Prim.Native.Nat.{◌≤◌}
use lib.ListN.{length}
use Rattle.definition.specs.Sheet.{rows}
use Rattle.links.proofs.LinkLaws.{Counted}
use Rattle.links.proofs.count_links.Given as goal

abbrev pub invariant-loop-row : goal.invariant-loop-row
invariant-loop-row l = (l.row ≤ rows l.sheet) × Counted l.sheet (rows l.sheet) l.row l.seen × (length l.seen ≡ length l.initial.seen)
