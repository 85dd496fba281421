use lib.ListN.{get_or}
use mathlib.Core.Path.{refl, ◌∙◌}
use Rattle.ast.proofs.QuestionLaws.{question_none, no_handed}
use Rattle.entry_ready.proofs.AskedLaws.{no_four, no_session, no_none}
use Rattle.entry_ready.proofs.ask_entry.Goals as goal

pub returns-in_err-first_four : goal.returns-in_err-first_four
returns-in_err-first_four c =
    no_handed _ _ c.from_residual.ensures.1
    ∙ no_four (get_or c.args.words.now 0 0) c.args.sheet.now c.args.names.now c.in_err-first_four.ensures (question_none _)

pub returns-then-not-entry_fits : goal.returns-then-not-entry_fits
returns-then-not-entry_fits c =
    no_session (get_or c.args.words.now 0 0) c.args.sheet.now c.args.names.now c.in_ok-first_four.ensures refl c.entry_fits.ensures
    c.if-not-entry_fits.true

pub returns : goal.returns
returns c =
    no_none (get_or c.args.words.now 0 0) c.args.sheet.now c.args.names.now c.in_ok-first_four.ensures refl c.entry_fits.ensures
    c.if-not-entry_fits.false
