-- `read_lines` meets its contract. The loop's invariant: the lines passed are lines, and the words have their numbers.
-- Assumes nothing.
use mathlib.Core.Path.{◌∙◌, refl, sym, subst, ap, ◌≡◌}
use mathlib.Core.Bool.{Bool, true}
use Prim.Native.Nat.{◌+◌, ℕ, ◌≤◌, ◌*◌}
use native.Mathlib.Omega.{arith}
use lib.ListN.{length, take}
use Rattle.definition.specs.Basics.{when◌then◌else◌}
use Rattle.text.proofs.Reading.{line_number, line_bad, line_good, line_read, none_read}
use Rattle.text.specs.Lines.{numbers_of, is_line, numbers_in, good_lines}
use Rattle.text.proofs.read_lines.Goals as goal

pub loop-r-init : goal.loop-r-init
loop-r-init c = (refl, none_read _)

pub returns-then-not-read_line : goal.returns-then-not-read_line
returns-then-not-read_line c =
    let r = c.loop-r.r in
    let e = c.read_line.ensures.0 ∙ ap is_line (line_number c.args.text.now r) in
    (ap (λ (b : Bool). when b then c.args.n else 0) (line_bad c.args.text.now _ r c.loop-r-test.true (sym e ∙ c.if-not-read_line.true)), none_read _)

pub loop-r-preserved : goal.loop-r-preserved
loop-r-preserved c =
    let r = c.loop-r.r in
    let v = c.loop-r.invariant in
    let h : 8 * r + 8 ≤ length c.loop-r.words = omega (arith, c.loop-r.auto.words) in
    let b : c.read_line.result ≡ true = c.if-not-read_line.false in
    let e = c.read_line.ensures.0 ∙ ap is_line (line_number c.args.text.now r) in (
      line_good c.args.text.now r (sym e ∙ b) v.0,
      line_read c.args.text.now r _ _ h v.1 (c.read_line.ensures.1 b ∙ ap numbers_of (line_number c.args.text.now r)),
    )

pub returns : goal.returns
unfolding good_lines
returns c =
    let v = c.loop-r.invariant in
    let e : c.loop-r.r ≡ c.args.n = omega arith in (
      ap (λ (b : Bool). when b then c.args.n else 0) (sym (subst (λ (k : ℕ). good_lines c.args.text.now k ≡ true) e v.0)),
      subst (λ (k : ℕ). take (8 * k) c.loop-r.words ≡ numbers_in c.args.text.now k) e v.1,
    )
