use mathlib.Core.Path.{ap, ◌∙◌}
use mathlib.Core.List.{List}
use Prim.Native.Nat.{ℕ}
use Rattle.machine.specs.Machine.{with_distance, write_row_at}
use Rattle.store.specs.Stored.{store_of}
use Rattle.store.proofs.TableLaws.{distance_captured, distance_other}
use Rattle.store.proofs.table.write_use.Goals as goal

pub returns-then-x-eq-CAPTURED : goal.returns-then-x-eq-CAPTURED
returns-then-x-eq-CAPTURED c =
    λ o q. c.write_row.ensures o q
    ∙ ap (λ (ws : List ℕ). write_row_at c.args.row ws (store_of o c.args.results.now q))
    (distance_captured c.args.distance c.words-x.result c.if-x-eq-CAPTURED.true ∙ ap (with_distance c.args.distance) c.words-x.ensures)

pub returns-else-x-eq-CAPTURED : goal.returns-else-x-eq-CAPTURED
returns-else-x-eq-CAPTURED c =
    λ o q. c.write_row-else-x-eq-CAPTURED.ensures o q
    ∙ ap (λ (ws : List ℕ). write_row_at c.args.row ws (store_of o c.args.results.now q))
    (distance_other c.args.distance c.words-x.result c.if-x-eq-CAPTURED.false ∙ ap (with_distance c.args.distance) c.words-x.ensures)
