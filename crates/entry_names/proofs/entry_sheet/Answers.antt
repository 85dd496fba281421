-- `entry_sheet` meets its contract. Invariant: the words before place i are written. Assumes nothing.
use Rattle.std.proofs.Common.{arith}
use Rattle.entry_names.proofs.SheetLaws.{sheet_told}
use Rattle.entry_names.proofs.entry_sheet.Goals as goal

pub returns : goal.returns
returns c =
    λ S ns told. sheet_told S ns c.args.numbers.now told c.args.sheet.now c.loop-i.copy c.requires.0 (omega (arith, c.loop-i.invariant.0, c.requires.1))
    (λ i h. c.loop-i.invariant.1 i (omega (arith, h, c.loop-i-test.false)))
