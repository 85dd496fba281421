use Rattle.first_four.proofs.Asking.{links_no, rows_no, depths_are}
use mathlib.Core.Bool.{true, false}
use mathlib.Core.Path.{sym, ◌∙◌}
use Rattle.first_four.proofs.format.ask.Goals as goal

pub returns-then-not-links_fit : goal.returns-then-not-links_fit
returns-then-not-links_fit c =
    links_no _ _ _ _ c.requires.sheet_len.1 c.requires.sheet_len.2 c.requires.sheet_len.3 c.requires.seen_value.1 c.requires.seen_value.2
    (sym c.links_fit.ensures ∙ c.if-not-links_fit.true)

pub returns-then-not-rows_fit : goal.returns-then-not-rows_fit
returns-then-not-rows_fit c =
    rows_no _ _ _ _ c.requires.sheet_len.1 c.requires.sheet_len.2 c.requires.sheet_len.3 c.requires.seen_value.1 c.requires.seen_value.2
    (sym c.links_fit.ensures ∙ c.if-not-links_fit.false)
    (sym c.rows_fit.ensures.value ∙ c.if-not-rows_fit.true)

pub returns-then-not-all_depths : goal.returns-then-not-all_depths
returns-then-not-all_depths c =
    depths_are _ _ _ _ c.requires.sheet_len.1 c.requires.sheet_len.2 c.requires.sheet_len.3 c.requires.seen_value.1 c.requires.seen_value.2
    false _ (sym c.links_fit.ensures ∙ c.if-not-links_fit.false)
    (sym c.rows_fit.ensures.value ∙ c.if-not-rows_fit.false)
    (c.rows_fit.ensures.table_after c.if-not-rows_fit.false)
    (sym c.if-not-all_depths.true ∙ c.all_depths.ensures)

pub returns : goal.returns
returns c =
    depths_are _ _ _ _ c.requires.sheet_len.1 c.requires.sheet_len.2 c.requires.sheet_len.3 c.requires.seen_value.1 c.requires.seen_value.2
    true _ (sym c.links_fit.ensures ∙ c.if-not-links_fit.false)
    (sym c.rows_fit.ensures.value ∙ c.if-not-rows_fit.false)
    (c.rows_fit.ensures.table_after c.if-not-rows_fit.false)
    (sym c.if-not-all_depths.false ∙ c.all_depths.ensures)
