use mathlib.Core.Path.{refl, ap, ◌∙◌}
use Prim.Native.Nat.{◌+◌, ◌*◌}
use native.Mathlib.Omega.{arith}
use lib.ListN.{get_or}
use lib.Dec.{eqb}
use Rattle.definition.specs.Basics.{count, bit}
use Rattle.definition.proofs.Lists.Tests.{bit_le}
use Rattle.entry_classes.specs.Told.{tells_class, tells_member}
use Rattle.entry_classes.proofs.ToldLaws.{classes_counted, members_counted}
use Rattle.entry_classes.proofs.RunLaws.{counting_start, counting_more, counting_end}
use Rattle.entry_classes.proofs.count_classes.Goals as goal

pub loop-i-init : goal.loop-i-init
loop-i-init c = counting_start

pub overflow_mul-c : goal.overflow_mul-c
overflow_mul-c c = omega arith

pub overflow_add-c : goal.overflow_add-c
overflow_add-c c = omega arith

pub offset_bounds-out-i : goal.offset_bounds-out-i
offset_bounds-out-i c = omega arith

pub bounds-out-i : goal.bounds-out-i
bounds-out-i c = omega arith

pub overflow_add-classes : goal.overflow_add-classes
overflow_add-classes c =
    omega (arith, c.loop-i.invariant.near.0, bit_le (eqb (get_or c.args.out.now (8 * c.loop-i.i + 1) 0) 22), c.loop-i-test.true, c.requires)

pub overflow_add-members : goal.overflow_add-members
overflow_add-members c =
    omega (arith, c.loop-i.invariant.near.1, bit_le c.is_member.result, c.loop-i-test.true, c.requires)

pub loop-i-preserved : goal.loop-i-preserved
loop-i-preserved c =
    counting_more c.loop-i.invariant {c = get_or c.args.out.now (8 * c.loop-i.i + 1) 0} c.loop-i-test.true refl refl (ap bit c.is_member.ensures)

pub returns : goal.returns
returns c =
    λ O s n e.
    let done = counting_end c.loop-i.invariant c.loop-i-test.false in
    (done.0 ∙ ap (count tells_class) e ∙ classes_counted O s n, done.1 ∙ ap (count tells_member) e ∙ members_counted O s n)
