-- `read_digits` meets its contract. The loop's invariant: what the digits write is the same from each digit on, with
-- the number so far. Assumes nothing.
use mathlib.Core.Path.{sym, ◌∙◌, ap}
use Prim.Native.Nat.{◌+◌, ◌*◌, ℕ}
use native.Mathlib.Omega.{arith}
use Rattle.text.specs.Lines.{digits_from}
use lib.ListN.{drop}
use Rattle.text.proofs.Reading.{digit_other, digit_passed, digits_end, ten_power}
use Rattle.text.proofs.read_digits.Goals as goal

pub returns-then-not-is_ascii_digit : goal.returns-then-not-is_ascii_digit
returns-then-not-is_ascii_digit c =
    sym (digit_other _ _ c.loop-byte.v c.loop-byte-test.true c.if-not-is_ascii_digit.ensures.cases) ∙ c.loop-byte.invariant.1

pub loop-byte-preserved : goal.loop-byte-preserved
loop-byte-preserved c =
    let i = c.loop-byte.byte-index in
    let l = c.args.digits.now in
    let v = c.loop-byte.invariant in
    let digit = c.if-not-is_ascii_digit.ensures.cases in (
      omega (arith, (ten_power i (omega arith)).1, digit),
      ap (λ (x : ℕ). digits_from (10 * c.loop-byte.v + x) (drop (i + 1) l)) c.from.ensures ∙ digit_passed l i c.loop-byte.v c.loop-byte-test.true digit.0 digit.1 ∙ v.1,
    )

pub returns : goal.returns
returns c = sym (digits_end _ _ _ c.loop-byte-test.false) ∙ c.loop-byte.invariant.1
