use Rattle.row_fits.specs.Pass.{rows_ok, rows_noted}
use lib.ListN.{length}
use Prim.Native.Nat.{◌≤◌, ◌-◌}
use mathlib.Core.Path.{◌≡◌}
use Rattle.passes.proofs.fill.Given as goal

abbrev pub invariant-loop-r : goal.invariant-loop-r
invariant-loop-r l =
    (l.r ≤ l.n) × (length l.table ≡ length l.initial.table) × (rows_ok l.sheet l.last (l.n - l.r) l.r l.table ≡ rows_ok l.sheet l.last l.n 0 l.initial.table)
    × (rows_noted l.sheet (l.n - l.r) l.r l.table ≡ rows_noted l.sheet l.n 0 l.initial.table)
