-- `classes::class_table` meets its contract. Invariant: the entries that rows below `r` determine are final. Assumes nothing.
use Rattle.classes.proofs.Filling.{filled_none, next_turn, filled_all}
use native.Mathlib.Omega.{arith}
use mathlib.Core.Path.{refl}
use Rattle.classes.proofs.class_table.Goals as goal

pub loop-row-init : goal.loop-row-init
loop-row-init c = (
  omega arith,
  (
    refl,
    filled_none c.requires.0.0 c.args.sheet.now c.requires.0.1 c.args.classes.now
        c.requires.2,
  ),
)

pub loop-row-preserved : goal.loop-row-preserved
loop-row-preserved c = (
  omega arith,
  next_turn c.requires.0.0 c.args.sheet.now c.requires.0.1 c.args.classes.now
      c.loop-row.classes _ c.loop-row.row c.loop-row-test.true c.requires.1 c.loop-row.invariant.1
      c.fill_row.ensures,
)

pub shape_of-classes : goal.shape_of-classes
shape_of-classes c = c.loop-row.invariant.1.0

pub returns : goal.returns
returns c =
    filled_all c.requires.0.0 c.args.sheet.now c.requires.0.1 c.loop-row.classes c.loop-row.row
    c.loop-row-test.false c.loop-row.invariant.1.1
