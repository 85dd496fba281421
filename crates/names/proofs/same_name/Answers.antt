-- `names::same_name` meets its contract. Invariant: the names are the same if their bytes before `i` are. Assumes nothing.
use mathlib.Core.Path.{sym, ◌∙◌}
use native.Mathlib.Omega.{arith}
use Rattle.names.proofs.Compare.{same_not, same_so_far, same_whole, same_end, same_sized}
use Rattle.names.proofs.same_name.Goals as goal

pub returns-then-a-b : goal.returns-then-a-b
returns-then-a-b c = sym (same_sized c.args.a.now c.args.b.now (λ e. omega arith))

pub loop-i-init : goal.loop-i-init
loop-i-init c = (omega arith, omega arith, same_whole c.args.a.now c.args.b.now (omega arith))

pub returns-then-a-i : goal.returns-then-a-i
returns-then-a-i c =
    sym (same_not c.args.a.now c.args.b.now c.loop-i.i (omega arith) (omega arith) (omega arith)
    (λ e. omega arith))
    ∙ c.loop-i.invariant.2

pub loop-i-preserved : goal.loop-i-preserved
loop-i-preserved c = (
  omega arith,
  omega arith,
  sym (same_so_far c.args.a.now c.args.b.now c.loop-i.i (omega arith) (omega arith) (omega arith)
      (omega arith))
      ∙ c.loop-i.invariant.2,
)

pub returns : goal.returns
returns c =
    sym (same_end c.args.a.now c.args.b.now c.loop-i.i (omega arith))
    ∙ c.loop-i.invariant.2
