use Rattle.std.proofs.Common.{refl, sym, ap, ◌∙◌, length, arith}
use Rattle.std.proofs.lemmas.Grind.{common_steps}
use Rattle.fun_rows.specs.Literals.{escapes}
use Rattle.fun_rows.proofs.ChainLaws.{filter_in, filter_out}
use Rattle.fun_rows.proofs.escaping.EscapingSlotsIterator.next.Goals as goal

pub returns-then-hands_on-clause-steps : goal.returns-then-hands_on-clause-steps
returns-then-hands_on-clause-steps c =
    let self = c.loop-slot.self in
    sym c.loop-slot.invariant.0
    ∙ filter_in (escapes self.tables.sheet.now self.tables.results.now self.tables.nodes.now self.function.0) c.loop-slot.slot self.end
    (omega (arith, c.loop-slot-test.true, c.loop-slot.invariant.5)) (sym (sym c.if-hands_on.true ∙ c.hands_on.ensures))

pub returns-then-hands_on-clause-goes : goal.returns-then-hands_on-clause-goes
returns-then-hands_on-clause-goes c =
    let self = c.loop-slot.self in
    let e = ap length (sym c.loop-slot.invariant.0
    ∙ filter_in (escapes self.tables.sheet.now self.tables.results.now self.tables.nodes.now self.function.0) c.loop-slot.slot self.end
    (omega (arith, c.loop-slot-test.true, c.loop-slot.invariant.5)) (sym (sym c.if-hands_on.true ∙ c.hands_on.ensures))) in
    grind (arith, common_steps, e)

pub loop-slot-preserved : goal.loop-slot-preserved
loop-slot-preserved c =
    let self = c.loop-slot.self in (
      sym (filter_out (escapes self.tables.sheet.now self.tables.results.now self.tables.nodes.now self.function.0) c.loop-slot.slot self.end
          (omega (arith, c.loop-slot-test.true, c.loop-slot.invariant.5)) (sym (sym c.if-hands_on.false ∙ c.hands_on.ensures)))
          ∙ c.loop-slot.invariant.0,
      c.loop-slot.invariant.1,
      c.loop-slot.invariant.2,
      c.loop-slot.invariant.3,
      refl,
      c.loop-slot.invariant.5,
    )
