use mathlib.Core.Path.{refl}
use native.Mathlib.Omega.{arith}
use Rattle.order_units.proofs.accept_list.Goals as goal

pub returns-then-list-n : goal.returns-then-list-n
returns-then-list-n c =
    record { full = λ l. c.refuse.ensures; told = λ l. absurd (omega (arith, c.if-list-n.true, l)); words = λ l. absurd (omega (arith, c.if-list-n.true, l)) }

pub returns : goal.returns
returns c = record { full = λ l. absurd (omega (arith, c.if-list-n.false, l)); told = λ l. refl; words = λ l. refl }
