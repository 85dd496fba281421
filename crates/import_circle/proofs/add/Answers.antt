use mathlib.Core.Path.{sym, ◌∙◌}
use Rattle.import_circle.proofs.FoundLaws.{add_old, add_new_lem}
use Rattle.import_circle.proofs.add.Goals as goal

pub returns-then-entry_at-ne0 : goal.returns-then-entry_at-ne0
returns-then-entry_at-ne0 c =
    λ found h. add_old c.args.v c.args.marks.now c.args.queue.now c.args.count found h (λ e. c.if-entry_at-ne0.true (c.entry_at.ensures ∙ e))

pub returns : goal.returns
returns c =
    λ found h. add_new_lem c.args.v c.args.marks.now c.args.queue.now c.args.count found h (sym c.entry_at.ensures ∙ c.if-entry_at-ne0.false)
    c.requires.0 c.requires.1 c.put_entry.ensures c.put_entry-2.ensures c.saturating_add.ensures
