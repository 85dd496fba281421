use mathlib.Core.Path.{sym}
use native.Mathlib.Omega.{arith}
use Rattle.definition.specs.Sheet.{rows}
use Rattle.inherit.proofs.ParentLaws.{lent_prefix}
use Rattle.inherit.proofs.check_classes.Goals as goal

pub slice_bounds-check_parents-end : goal.slice_bounds-check_parents-end
slice_bounds-check_parents-end c = lent_prefix 2048 (rows c.args.sheet.now) (omega (arith, c.requires.0))

pub check_parents-requires : goal.check_parents-requires
check_parents-requires c = (
  c.requires.0,
  c.requires.1,
  c.requires.2,
  c.requires.3,
  sym (lent_prefix 2048 (rows c.args.sheet.now) (omega (arith, c.requires.0))),
)
