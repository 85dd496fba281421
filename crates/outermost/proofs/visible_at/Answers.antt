use mathlib.Core.Path.{refl, sym, ◌∙◌}
use borrow.Author.Tests.{ne_eqb}
use Rattle.outside.specs.Words.{name_at}
use Rattle.outermost.proofs.visible_at.Goals as goal

pub returns-then-code : goal.returns-then-code
unfolding name_at
returns-then-code c = λ p. record { meaning = rw (← c.word-number.ensures, sym c.word-code.ensures ∙ c.if-code.true) refl; next_slot = refl; next_number = refl }

pub returns-then-code-2 : goal.returns-then-code-2
unfolding name_at
returns-then-code-2 c = λ p. record { meaning = rw (← c.word-number.ensures, sym c.word-code.ensures ∙ c.if-code-2.true) refl; next_slot = refl; next_number = refl }

pub returns : goal.returns
unfolding name_at
returns c =
    λ p. record {
      meaning =
          rw (← c.word-number.ensures, ← c.word.ensures, ne_eqb _ 1 (λ z. c.if-code.false (c.word-code.ensures ∙ z)), ne_eqb _ 2 (λ z. c.if-code-2.false (c.word-code.ensures ∙ z))) refl;
      next_slot = refl;
      next_number = refl;
    }
