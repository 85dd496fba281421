use Rattle.symbols.proofs.EnvLaws.{loop_here, loop_function, loop_scope, loop_name, loop_none}
use native.Mathlib.Omega.{arith}
use Prim.Native.Nat.{◌-◌}
use mathlib.Core.Path.{◌≡◌, sym, ◌∙◌}
use borrow.Author.Tests.{eqb-true, eqb-false}
use Rattle.machine.specs.Machine.{loop_in}
use Rattle.symbols.proofs.env.in_loop.Goals.{else-tag-eq-SCOPE-via-then-tag-eq-SCOPE+else-is_kind, else-tag-eq-SCOPE-via-else-tag-eq-SCOPE}
use Rattle.symbols.proofs.env.in_loop.Goals as goal

pub returns-then-tag-eq-LOOP : goal.returns-then-tag-eq-LOOP
returns-then-tag-eq-LOOP c =
    loop_here c.args.sheet.now c.args.entries.now c.loop-i.i c.loop-i-test.true
    (sym c.entry_word-tag.ensures ∙ c.if-tag-eq-LOOP.true)
    ∙ c.loop-i.invariant.1

pub returns-then-is_kind : goal.returns-then-is_kind
returns-then-is_kind c =
    loop_function c.args.sheet.now c.args.entries.now c.loop-i.i c.loop-i-test.true
    (sym c.entry_word-tag.ensures ∙ c.if-tag-eq-SCOPE.true)
    (rw (← c.entry_word.ensures) (eqb-true _ 6 (sym c.is_kind.ensures ∙ c.if-is_kind.true)))
    ∙ c.loop-i.invariant.1

pub loop-i-preserved : goal.loop-i-preserved
loop-i-preserved c =
    let s = c.args.sheet.now in
    let v = c.args.entries.now in
    let passed : loop_in s v (c.loop-i.i - 1) ≡ loop_in s v c.loop-i.i = elim c.else-tag-eq-SCOPE.branch [
      | else-tag-eq-SCOPE-via-then-tag-eq-SCOPE+else-is_kind w ↦
          loop_scope s v c.loop-i.i c.loop-i-test.true (sym c.entry_word-tag.ensures ∙ w.if-tag-eq-SCOPE.true)
          (rw (← w.entry_word.ensures) (eqb-false _ 6 (sym w.is_kind.ensures ∙ w.if-is_kind.false)))
      | else-tag-eq-SCOPE-via-else-tag-eq-SCOPE w ↦
          loop_name s v c.loop-i.i c.loop-i-test.true (λ e. c.if-tag-eq-LOOP.false (c.entry_word-tag.ensures ∙ e)) (λ e. w.if-tag-eq-SCOPE.false (c.entry_word-tag.ensures ∙ e))
    ] in
    (omega (arith, c.loop-i.invariant.0), passed ∙ c.loop-i.invariant.1)

pub returns : goal.returns
returns c =
    loop_none c.args.sheet.now c.args.entries.now c.loop-i.i c.loop-i-test.false
    ∙ c.loop-i.invariant.1
