use Rattle.std.proofs.Common.{◌≡◌, map}
use Rattle.definition.specs.Sheet.{a}
use Rattle.outside.specs.Words.{over}
use Rattle.sheet.specs.Rest.{kind_left}
use Rattle.store.specs.declared.nodes.Store.{Store}
use Rattle.store.specs.Stored.{store_of}
use Rattle.name_rows.specs.Put.{filled, put_new}
use Rattle.name_rows.proofs.put.put_listed.Given as goal

abbrev pub invariant-loop-row : goal.invariant-loop-row
invariant-loop-row l =
    ((o : Store)
    → put_new (over l.tables.outside.now) l.tables.sheet.now (store_of o l.tables.results.now l.tables.nodes.now) l.wanted l.p (map (a l.tables.sheet.now) (kind_left l.row-iterator))
    (filled l.next l.out)
    ≡ put_new (over l.tables.outside.now) l.tables.sheet.now (store_of o l.tables.results.now l.tables.nodes.now) l.wanted l.p (map (a l.tables.sheet.now)
    (kind_left l.initial.row-iterator)) (filled l.initial.next l.initial.out))
    × (l.out.words.ghost_name ≡ l.initial.out.words.ghost_name)
