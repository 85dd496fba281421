use Rattle.ast.specs.Kind.{kind_number}
use native.Mathlib.Omega.{arith}
use Rattle.store.specs.Stored.{store_of}
use Rattle.name_rows.specs.Put.{name_row}
use Rattle.class_rows.proofs.LineLaws.{line_counted}
use Rattle.outside.specs.Words.{over}
use Rattle.class_rows.proofs.line.count_line.Goals as goal

pub returns : goal.returns
returns c =
    λ o. line_counted _ (name_row (over c.args.tables.outside.now) c.args.tables.sheet.now
    (store_of o c.args.tables.results.now c.args.tables.nodes.now) c.args.wanted)
    c.args.tables.sheet.now (store_of o c.args.tables.results.now c.args.tables.nodes.now)
    (kind_number c.args.wanted.kind) c.args.wanted.class.0 _ c.requires.0
    (c.parent_of.ensures o c.args.tables.nodes.now) (c.requires.1 c.if-a-eq0.false o).0
    (omega arith) (c.requires.1 c.if-a-eq0.false o).1 (c.put_own.ensures.step o)
