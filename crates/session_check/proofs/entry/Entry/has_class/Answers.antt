use mathlib.Core.Path.{refl, sym, ◌∙◌}
use Prim.Native.Nat.{◌+◌, ◌/◌, ◌-◌}
use native.Mathlib.Omega.{arith}
use lib.Dec.{eqb}
use borrow.Author.Tests.{eq-eqb}
use Rattle.session_rows.proofs.OrderLaws.{lower, upper}
use Rattle.session_rows.proofs.RunLaws.{any_above, any_below, any_here, any_end}
use Rattle.session_rows.specs.Rows.{number_of}
use Rattle.session_check.proofs.entry.Entry.has_class.Goals as goal

pub loop-low-init : goal.loop-low-init
loop-low-init c = (c.requires, refl)

pub overflow_sub-middle : goal.overflow_sub-middle
overflow_sub-middle c = omega arith

pub overflow_add-middle : goal.overflow_add-middle
overflow_add-middle c = omega (arith, c.args.self.ordered.limited.classes)

pub class_number-here-requires : goal.class_number-here-requires
class_number-here-requires c = omega (arith, c.args.self.ordered.limited.classes)

pub returns-then-here-number : goal.returns-then-here-number
returns-then-here-number c =
    any_here (λ i. eqb (number_of c.args.self.words.now i) c.args.number) c.loop-low.low (c.loop-low.low + (c.loop-low.high - c.loop-low.low) / 2) c.loop-low.high (omega arith) (omega arith)
    (eq-eqb _ _ (sym c.class_number-here.ensures.0 ∙ c.if-here-number.true)) c.loop-low.invariant.1

pub overflow_add-low : goal.overflow_add-low
overflow_add-low c = omega (arith, c.args.self.ordered.limited.classes)

pub loop-low-smaller-then-here-number-2 : goal.loop-low-smaller-then-here-number-2
loop-low-smaller-then-here-number-2 c = omega arith

pub loop-low-preserved-then-here-number-2 : goal.loop-low-preserved-then-here-number-2
loop-low-preserved-then-here-number-2 c = (
  c.loop-low.invariant.0,
  any_above (λ i. eqb (number_of c.args.self.words.now i) c.args.number) c.loop-low.low _ c.loop-low.high (omega arith) (omega arith)
      (λ i l h. lower c.args.self.words.now c.args.self.ordered _ c.args.number (omega arith) c.class_number-here.ensures.0 c.if-here-number-2.true i h) c.loop-low.invariant.1,
)

pub loop-low-smaller : goal.loop-low-smaller
loop-low-smaller c = omega arith

pub loop-low-preserved : goal.loop-low-preserved
loop-low-preserved c = (
  omega arith,
  any_below (λ i. eqb (number_of c.args.self.words.now i) c.args.number) c.loop-low.low _ c.loop-low.high (omega arith) (omega arith)
      (λ i l h. upper c.args.self.words.now c.args.self.ordered _ c.args.number (omega arith) c.class_number-here.ensures.0 c.if-here-number.false c.if-here-number-2.false i l
      (omega (arith, c.loop-low.invariant.0))) c.loop-low.invariant.1,
)

pub returns : goal.returns
returns c =
    any_end (λ i. eqb (number_of c.args.self.words.now i) c.args.number) _ _ c.loop-low-test.false c.loop-low.invariant.1
