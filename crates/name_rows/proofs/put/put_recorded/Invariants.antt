use Rattle.std.proofs.Common.{◌≡◌}
use Rattle.outside.specs.Words.{over}
use Rattle.outside.specs.Left.{names_left}
use Rattle.store.specs.declared.nodes.Store.{Store}
use Rattle.store.specs.Stored.{store_of}
use Rattle.name_rows.specs.Put.{filled, put_new}
use Rattle.name_rows.proofs.put.put_recorded.Given as goal

abbrev pub invariant-loop-name : goal.invariant-loop-name
invariant-loop-name l =
    ((o : Store)
    → put_new (over l.tables.outside.now) l.tables.sheet.now (store_of o l.tables.results.now l.tables.nodes.now) l.wanted l.p (names_left l.name-iterator) (filled l.next l.out)
    ≡ put_new (over l.tables.outside.now) l.tables.sheet.now (store_of o l.tables.results.now l.tables.nodes.now) l.wanted l.p (names_left l.initial.name-iterator)
    (filled l.initial.next l.initial.out))
    × (l.out.words.ghost_name ≡ l.initial.out.words.ghost_name)
