-- What the tables tell that the answer rows are read from.
use Rattle.definition.specs.Outside.{Outside}
use Rattle.machine.specs.Machine.{Store as Stored}
use Rattle.outside.specs.Words.{over}
use Rattle.store.specs.Stored.{store_of}
use Rattle.store.specs.declared.nodes.Store.{Store}
use Rattle.class_names.specs.declared.tables.Tables.{Tables}

-- the classes from outside
abbrev pub outside_in : Tables → Outside
outside_in t = over t.outside.now

-- what the walk stored, with counters o
abbrev pub store_in : Tables → Store → Stored
store_in t o = store_of o t.results.now t.nodes.now
