use native.Mathlib.Omega.{arith}
use Rattle.raise.proofs.RowLaws.{row_no_code, owner_below}
use Rattle.raise.proofs.raise_row.Goals as goal

pub returns-in_default : goal.returns-in_default
returns-in_default c =
    row_no_code c.args.base c.args.row.now c.in_default.ensures.1

pub overflow_add-row : goal.overflow_add-row
overflow_add-row c =
    omega (arith, owner_below c.args.base c.args.row.now c.requires.2 c.in-Ok.ensures c.in-Arg.is)
