use Rattle.std.proofs.Common.{◌≡◌, ◌-◌}
use Rattle.ast.specs.Kind.{kind_number}
use Rattle.definition.specs.Basics.{◌∈?◌}
use Rattle.outside.specs.Words.{over}
use Rattle.store.specs.Stored.{store_of}
use Rattle.store.specs.declared.nodes.Store.{Store}
use Rattle.class_names.specs.Names.{names_in}
use Rattle.class_names.proofs.held.has_name.Given as goal

abbrev pub invariant-loop : goal.invariant-loop
invariant-loop l =
    (o : Store)
    → (l.m ∈? names_in (over l.tables.outside.now) l.tables.sheet.now (store_of o l.tables.results.now l.tables.nodes.now) (kind_number l.kind) (l.n - l.counter) l.class.0)
    ≡ (l.m ∈? names_in (over l.tables.outside.now) l.tables.sheet.now (store_of o l.tables.results.now l.tables.nodes.now) (kind_number l.kind) l.n l.initial.class.0)
