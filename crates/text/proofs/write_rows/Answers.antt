-- `write_rows` meets its contract. The loop's invariant: the lines passed are those of the rows, and the rest is as
-- before. Assumes nothing.
use mathlib.Core.Path.{refl, ap, ◌∙◌, ◌≡◌}
use Prim.Native.Nat.{◌+◌, ◌/◌, ◌≤◌, ◌*◌}
use native.Mathlib.Omega.{arith}
use lib.ListN.{length}
use Rattle.text.proofs.Writing.{row_number, row_written_lem, rest_kept, no_line, none_fit, text_left}
use Rattle.text.proofs.RoundTrip.{rows_written}
use Rattle.text.specs.Lines.{line_of}
use Rattle.text.proofs.write_rows.Goals as goal

pub returns-then-n-text : goal.returns-then-n-text
returns-then-n-text c =
    rows_written c.args.words.now c.args.text.now _ _
    (λ i l. omega (arith, c.type_inv.words i))
    (none_fit c.args.words.now c.args.text.now (omega arith))

pub loop-r-init : goal.loop-r-init
loop-r-init c = (no_line _, refl)

pub loop-r-preserved : goal.loop-r-preserved
loop-r-preserved c =
    let r = c.loop-r.r in
    let t = c.loop-r.text in
    let v = c.loop-r.invariant in
    let g = c.write_line.auto.line in
    let h : 81 * r + 81 ≤ length t = omega (arith, c.loop-r.auto.text) in (
      row_written_lem r t _ h g c.args.words.now v.0 (c.write_line.ensures ∙ ap line_of (row_number c.args.words.now r)),
      rest_kept r t c.write_line.new.line h g _ v.1,
    )

pub returns : goal.returns
returns c =
    let e : c.loop-r.r ≡ length c.args.words.now / 8 = omega arith in
    rows_written c.args.words.now c.args.text.now _ _
    (λ i l. omega (arith, c.type_inv.words i))
    (text_left _ _ c.loop-r.r _ c.if-n-text.false e c.loop-r.invariant.0 c.loop-r.invariant.1)
