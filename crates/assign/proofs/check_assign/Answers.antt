use Rattle.std.proofs.Common.{sym, ◌∙◌}
use borrow.Author.Tests.{eqb-false}
use Rattle.walk.specs.WalkState.{state_of}
use Rattle.walk.proofs.VisitLaws.{assign_other}
use Rattle.assign.proofs.check_assign.Goals as goal

pub returns-else-is_kind-2-clause-step : goal.returns-else-is_kind-2-clause-step
returns-else-is_kind-2-clause-step c =
    λ O. assign_other O c.args.walk.now.sheet.now c.args.row (state_of c.args.walk.now) c.requires.1
    (eqb-false _ 50 (rw (← c.word-assigned.ensures) (sym c.is_kind.ensures ∙ c.if-is_kind.false)))
    (eqb-false _ 54 (rw (← c.word-assigned.ensures) (sym c.is_kind-2.ensures ∙ c.if-is_kind-2.false)))
