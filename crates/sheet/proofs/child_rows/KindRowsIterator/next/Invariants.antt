use Rattle.std.proofs.Common.{◌≡◌, length}
use Rattle.sheet.specs.Rest.{rows_left, kind_left}
use Rattle.sheet.proofs.child_rows.KindRowsIterator.next.Given as goal

abbrev pub invariant-loop-row : goal.invariant-loop-row
invariant-loop-row l = (kind_left l.self ≡ kind_left l.initial.self) × (l.self.sheet ≡ l.initial.self.sheet) × (l.self.kind ≡ l.initial.self.kind)

abbrev pub decreases-loop-row : goal.decreases-loop-row
decreases-loop-row l = length (rows_left l.self.rows)
