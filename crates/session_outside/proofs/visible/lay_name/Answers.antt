use mathlib.Core.Path.{refl, sym, ◌∙◌}
use native.Mathlib.Omega.{arith}
use Rattle.session_outside.proofs.NameLaws.{told_known, told_new}
use Rattle.session_outside.proofs.visible.lay_name.Goals as goal

pub returns-then-entry_at-ne0 : goal.returns-then-entry_at-ne0
returns-then-entry_at-ne0 c =
    (omega arith, λ y ys e. told_known c.args.row c.args.marks.now c.args.out.now y ys e refl (λ k. c.if-entry_at-ne0.true (c.entry_at.ensures ∙ k)))

pub returns : goal.returns
returns c = (
  omega arith,
  λ y ys e.
      told_new c.args.row c.args.marks.now c.args.out.now y ys e refl (sym c.entry_at.ensures ∙ c.if-entry_at-ne0.false)
      c.put_entry.ensures (rw (← c.number.ensures) c.put_row.ensures),
)
