use Rattle.std.proofs.Common.{sym, ap, ◌∙◌}
use borrow.Author.Tests.{eqb-true, eqb-false}
use Rattle.definition.specs.Sheet.{is}
use Rattle.definition.specs.Walk.{after, declare}
use Rattle.walk.specs.WalkState.{state_of}
use Rattle.row_events.proofs.RowLaws.{runs_none, runs_one, after_literal, after_let}
use Rattle.row_events.proofs.after_let.Goals as goal

pub returns-then-is_kind-clause-step : goal.returns-then-is_kind-clause-step
returns-then-is_kind-clause-step c =
    let s = c.args.walk.now.sheet.now in
    λ O. runs_none O s (after s c.args.row) (state_of c.args.walk.now) (after_literal s c.args.row c.requires.1
    (eqb-true _ _ (ap (is s 52) (sym c.word.ensures) ∙ sym c.is_kind.ensures ∙ c.if-is_kind.true)))

pub returns-clause-step : goal.returns-clause-step
returns-clause-step c =
    let s = c.args.walk.now.sheet.now in
    λ O. runs_one O s (after s c.args.row) (declare c.args.row) (state_of c.args.walk.now) (after_let s c.args.row c.requires.1
    (eqb-false _ _ (ap (is s 52) (sym c.word.ensures) ∙ sym c.is_kind.ensures ∙ c.if-is_kind.false))) (c.declare.ensures.step O)
