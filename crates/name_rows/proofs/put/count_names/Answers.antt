use Rattle.ast.specs.Kind.{kind_number}
use Rattle.name_rows.proofs.PutLaws.{names_counted}
use Rattle.name_rows.specs.Put.{name_row}
use Rattle.class_names.specs.Names.{names_in}
use Rattle.store.specs.Stored.{store_of}
use mathlib.Core.Path.{refl}
use Rattle.outside.specs.Words.{over}
use Rattle.name_rows.proofs.put.count_names.Goals as goal

pub returns : goal.returns
returns c =
    λ o. names_counted (name_row (over c.args.tables.outside.now) c.args.tables.sheet.now
    (store_of o c.args.tables.results.now c.args.tables.nodes.now) c.args.wanted)
    (names_in (over c.args.tables.outside.now) c.args.tables.sheet.now
    (store_of o c.args.tables.results.now c.args.tables.nodes.now) (kind_number c.args.wanted.kind) c.args.n
    c.args.c.0)
    _ refl (c.put_names.ensures.step o)
