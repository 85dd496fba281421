use Rattle.symbols.proofs.EnvLaws.{taken_mark, taken_here, taken_other, taken_loop, taken_none}
use native.Mathlib.Omega.{arith}
use mathlib.Core.Path.{◌≡◌, sym, ◌∙◌}
use Prim.Native.Nat.{◌-◌}
use Rattle.machine.specs.Machine.{entry_word, taken_in}
use Rattle.symbols.proofs.env.has_local.Goals.{else-name-m-via-then-name-m+else-tag-gt-SCOPE, else-name-m-via-else-name-m}
use Rattle.symbols.proofs.env.has_local.Goals as goal

pub returns-then-tag-eq-SCOPE : goal.returns-then-tag-eq-SCOPE
returns-then-tag-eq-SCOPE c =
    taken_mark c.args.entries.now c.args.m c.loop-i.i c.loop-i-test.true
    (sym c.tag_and_name-tag.ensures.0 ∙ c.if-tag-eq-SCOPE.true)
    ∙ c.loop-i.invariant.1

pub returns-then-tag-gt-SCOPE : goal.returns-then-tag-gt-SCOPE
returns-then-tag-gt-SCOPE c =
    taken_here c.args.entries.now c.args.m c.loop-i.i c.loop-i-test.true
    (omega (arith, c.tag_and_name-tag.ensures.0, c.if-tag-gt-SCOPE.true))
    (sym c.tag_and_name-tag.ensures.1 ∙ c.if-name-m.true)
    ∙ c.loop-i.invariant.1

pub loop-i-preserved : goal.loop-i-preserved
loop-i-preserved c =
    let v = c.args.entries.now in
    let tag : entry_word v (c.loop-i.i - 1) 0 ≡ 1 → ⊥ = λ e. c.if-tag-eq-SCOPE.false (c.tag_and_name-tag.ensures.0 ∙ e) in
    let passed : taken_in v c.args.m (c.loop-i.i - 1) ≡ taken_in v c.args.m c.loop-i.i = elim c.else-name-m.branch [
      | else-name-m-via-then-name-m+else-tag-gt-SCOPE w ↦
          taken_loop v c.args.m c.loop-i.i c.loop-i-test.true tag (omega (arith, c.tag_and_name-tag.ensures.0, w.if-tag-gt-SCOPE.false))
      | else-name-m-via-else-name-m w ↦ taken_other v c.args.m c.loop-i.i c.loop-i-test.true tag (λ e. w.if-name-m.false (c.tag_and_name-tag.ensures.1 ∙ e))
    ] in
    (omega (arith, c.loop-i.invariant.0), passed ∙ c.loop-i.invariant.1)

pub returns : goal.returns
returns c =
    taken_none c.args.entries.now c.args.m c.loop-i.i c.loop-i-test.false
    ∙ c.loop-i.invariant.1
