use Rattle.answer.proofs.ClearLaws.{cleared_after}
use native.Mathlib.Omega.{arith}
use mathlib.Core.Path.{refl}
use Prim.Native.Nat.{◌*◌}
use Rattle.answer.proofs.accept.Goals as goal

pub returns-then-out-n : goal.returns-then-out-n
returns-then-out-n c =
    let over = c.if-out-n.true in
    record {
      full = λ l. c.refuse.ensures;
      told = λ l. absurd (omega (arith, over, l));
      words = λ l. absurd (omega (arith, over, l));
    }

pub returns : goal.returns
returns c =
    let room = c.if-out-n.false in
    record {
      full = λ l. absurd (omega (arith, room, l));
      told = λ l. refl;
      words =
          λ l. cleared_after (8 * c.args.n) c.args.out.now _ (omega (arith, l))
          c.clear.ensures;
    }
