use native.Mathlib.Omega.{arith}
use Rattle.machine.specs.Machine.{searched}
use Rattle.symbols.proofs.decl.entries_searched.Goals as goal

pub returns-then-count-whole : goal.returns-then-count-whole
unfolding searched
returns-then-count-whole c = omega (arith, c.if-count-whole.true)

pub returns : goal.returns
unfolding searched
returns c = omega (arith, c.if-count-whole.false)
