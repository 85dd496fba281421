use Rattle.std.proofs.Common.{◌≡◌, ◌∙◌}
use borrow.Author.Tests.{ne_eqb}
use Rattle.class_names.specs.Read.{store_in}
use Rattle.fun_rows.specs.Literals.{slots_asked}
use Rattle.fun_rows.proofs.EscapeLaws.{slots_found}
use Rattle.fun_rows.proofs.escaping.EscapingSlots.of.Goals.{then-entry_at-eq0, else-entry_at-eq0}
use Rattle.fun_rows.proofs.escaping.EscapingSlots.of.Goals as goal

pub returns : goal.returns
returns c =
    let asked : c.if-entry_at-eq0.end ≡ slots_asked c.args.tables.results.now c.args.literals.first.now c.args.f.0 =
    elim c.if-entry_at-eq0.branch [
      | then-entry_at-eq0 w ↦ rw (← c.entry_at.ensures, w.if-entry_at-eq0.true) w.end-is
      | else-entry_at-eq0 w ↦ rw (← c.entry_at.ensures, ne_eqb _ 0 w.if-entry_at-eq0.false) (w.end-is ∙ w.word-end.ensures)
    ] in
    λ o. slots_found c.args.tables.sheet.now (store_in c.args.tables o) c.args.literals.first.now c.args.literals.after.now c.args.f.0 c.if-entry_at-eq0.end c.requires.0 c.requires.1 asked
