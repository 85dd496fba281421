use Rattle.store.specs.Stored.{store_of}
use Rattle.machine.specs.Machine.{raise_locals}
use Prim.Native.Nat.{ℕ}
use mathlib.Core.Path.{ap, ◌∙◌}
use Rattle.walk.proofs.declare.count_local.Goals as goal

pub returns-then-is_local : goal.returns-then-is_local
returns-then-is_local c =
    λ o q. rw (← c.is_local.ensures, c.if-is_local.true) (c.raise_locals.ensures o q
    ∙ ap (λ (k : ℕ). raise_locals c.args.env.fun.0 k (store_of o c.args.results.now q))
    c.one_more.ensures)

pub returns-else-is_local : goal.returns-else-is_local
returns-else-is_local c = λ o q. rw (← c.is_local.ensures, c.if-is_local.false)
