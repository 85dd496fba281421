use Rattle.class_rows.specs.Places.{Placed}
use Rattle.after.specs.Rows.{rows_in}
use Rattle.class_names.specs.Read.{outside_in, store_in}
use Rattle.store.specs.declared.nodes.Store.{Store}
use Rattle.sink.specs.Sink.{emit_all}
use Rattle.sink.specs.Written.{written}
use Rattle.definition.specs.Basics.{concat_map, from}
use lib.ListN.{length}
use mathlib.Core.Path.{◌≡◌}
use Prim.Native.Nat.{◌-◌, ◌/◌, ◌≤◌}
use Rattle.answer_rows.proofs.emit_each.Given as goal

abbrev pub invariant-loop-row : goal.invariant-loop-row
invariant-loop-row l =
    ((o : Store)
    → emit_all (concat_map (rows_in (outside_in l.tables) l.tables.sheet.now (store_in l.tables o)) (from l.row
    (length l.tables.sheet.now / 8 - l.row))) (written l.out)
    ≡ emit_all (concat_map (rows_in (outside_in l.tables) l.tables.sheet.now (store_in l.tables o)) (from 0 (length l.tables.sheet.now / 8)))
    (written l.initial.out))
    × (l.row ≤ length l.tables.sheet.now / 8) × (length l.starts ≡ length l.initial.starts)
    × (Placed l.tables l.starts l.out.words.now l.row l.out.count)
    × (l.out.words.ghost_name ≡ l.initial.out.words.ghost_name)
