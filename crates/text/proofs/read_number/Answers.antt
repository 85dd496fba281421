-- `read_number` meets its contract. By cases on what follows the spaces, and how large the number is. Assumes nothing.
use mathlib.Core.Path.{sym, ◌∙◌}
use Rattle.text.proofs.Reading.{number_missing, number_padded, number_none, number_is, number_zero, word_fits}
use Rattle.text.proofs.read_number.Goals as goal
use Rattle.text.proofs.read_number.Goals.{then-is_empty-via-then-is_empty, then-is_empty-via-else-is_empty+then-digits-gt1}

pub returns-then-is_empty : goal.returns-then-is_empty
returns-then-is_empty c =
    let e = c.trimmed-digits.ensures.0 in
    elim c.then-is_empty.branch [
      | then-is_empty-via-then-is_empty w ↦ sym (number_missing c.args.column.now _ e w.if-is_empty.ensures)
      | then-is_empty-via-else-is_empty+then-digits-gt1 w ↦ sym (number_padded c.args.column.now _ e w.if-digits-gt1.true.1 w.if-digits-gt1.true.0)
    ]

pub returns-then-digits-eq48-2 : goal.returns-then-digits-eq48-2
returns-then-digits-eq48-2 c = sym (number_zero c.args.column.now _ c.trimmed-digits.ensures.0 c.if-is_empty.ensures c.if-digits-gt1.either c.if-digits-eq48-2.true)

pub returns-in_err-read_digits : goal.returns-in_err-read_digits
returns-in_err-read_digits c =
    c.from_residual.ensures ∙ sym (number_none c.args.column.now _ c.trimmed-digits.ensures.0 c.if-is_empty.ensures c.if-digits-gt1.either (sym c.in_err-read_digits.ensures))

pub returns : goal.returns
returns c =
    c.ok.ensures.value ∙ word_fits _ _ c.try_from.ensures
    ∙ sym (number_is c.args.column.now _ c.trimmed-digits.ensures.0 c.if-is_empty.ensures c.if-digits-gt1.either _ (sym c.in_ok-read_digits.ensures))
