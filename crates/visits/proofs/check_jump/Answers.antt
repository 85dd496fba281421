use Rattle.std.proofs.Common.{refl, sym, ◌∙◌}
use Rattle.walk.specs.WalkState.{state_of}
use Rattle.walk.proofs.VisitLaws.{jump_yes, jump_no}
use Rattle.visits.proofs.check_jump.Goals as goal

pub returns-then-in_loop : goal.returns-then-in_loop
returns-then-in_loop c = λ O. jump_yes O c.args.walk.now.sheet.now c.args.row (state_of c.args.walk.now) refl c.requires (sym c.in_loop.ensures ∙ c.if-in_loop.true)

pub returns : goal.returns
returns c = λ O. jump_no O c.args.walk.now.sheet.now c.args.row (state_of c.args.walk.now) refl c.requires (sym c.in_loop.ensures ∙ c.if-in_loop.false) refl
