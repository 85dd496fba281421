use native.Mathlib.Omega.{arith}
use lib.ListN.{length-set}
use Rattle.store.proofs.TableLaws.{row_past, row_written_lem}
use Rattle.store.specs.Stored.{store_of}
use Rattle.store.proofs.table.write_row.Goals as goal

pub bounds-results-i-then-i-results : goal.bounds-results-i-then-i-results
bounds-results-i-then-i-results c = simp (length-set) (omega arith)

pub bounds-results-i-then-i-results-2 : goal.bounds-results-i-then-i-results-2
bounds-results-i-then-i-results-2 c = simp (length-set) (omega arith)

pub bounds-results-i-then-i-results-3 : goal.bounds-results-i-then-i-results-3
bounds-results-i-then-i-results-3 c = simp (length-set) (omega arith)

pub returns-then-i-results : goal.returns-then-i-results
returns-then-i-results c =
    λ o q. row_written_lem c.args.row c.args.x (store_of o c.args.results.now q)
    c.well_formed.1.1.0.1.0.1 c.if-row-gt0.true (omega (arith, c.if-i-results.true))

pub returns-else-i-results : goal.returns-else-i-results
returns-else-i-results c =
    λ o q. row_past c.args.row c.args.x (store_of o c.args.results.now q)
    c.if-row-gt0.true (omega (arith, c.if-i-results.false))
