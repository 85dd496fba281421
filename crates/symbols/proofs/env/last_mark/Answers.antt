use Rattle.symbols.proofs.EnvLaws.{last_here, last_other, last_none}
use native.Mathlib.Omega.{arith}
use mathlib.Core.Path.{sym, ◌∙◌}
use Rattle.symbols.proofs.env.last_mark.Goals as goal

pub returns-then-entry_word-eq-SCOPE : goal.returns-then-entry_word-eq-SCOPE
returns-then-entry_word-eq-SCOPE c =
    last_here c.args.entries.now c.loop-i.i c.loop-i-test.true
    (sym c.entry_word.ensures ∙ c.if-entry_word-eq-SCOPE.true)
    ∙ c.loop-i.invariant.1

pub loop-i-preserved : goal.loop-i-preserved
loop-i-preserved c = (
  omega (arith, c.loop-i.invariant.0),
  last_other c.args.entries.now c.loop-i.i c.loop-i-test.true
      (λ e. c.if-entry_word-eq-SCOPE.false (c.entry_word.ensures ∙ e))
      ∙ c.loop-i.invariant.1,
)

pub returns : goal.returns
returns c =
    last_none c.args.entries.now c.loop-i.i c.loop-i-test.false
    ∙ c.loop-i.invariant.1
