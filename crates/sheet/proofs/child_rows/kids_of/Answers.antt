use Rattle.std.proofs.Common.{ap}
use Rattle.ast.specs.Kind.{kind_number}
use Rattle.definition.specs.Basics.{filter}
use Rattle.definition.specs.Sheet.{is}
use Rattle.sheet.proofs.child_rows.kids_of.Goals as goal

pub returns : goal.returns
returns c = ap (filter (is c.args.sheet.now (kind_number c.args.kind))) c.kids.ensures
