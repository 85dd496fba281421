use Rattle.std.proofs.Common.{refl, sym, ◌∙◌}
use Rattle.walk.specs.WalkState.{state_of}
use Rattle.walk.proofs.VisitLaws.{assign_yes, assign_no}
use Rattle.assign.proofs.assign_name.Goals as goal

pub returns-then-is_assignable : goal.returns-then-is_assignable
returns-then-is_assignable c =
    λ O. assign_yes O c.args.walk.now.sheet.now c.args.row (state_of c.args.walk.now) c.requires.0 refl c.requires.1 _ _ (rw (← c.word-target.ensures) c.word-name.ensures) c.lookup-found.ensures.0
    (sym c.is_assignable.ensures ∙ c.if-is_assignable.true)

pub returns : goal.returns
returns c =
    λ O. assign_no O c.args.walk.now.sheet.now c.args.row (state_of c.args.walk.now) c.requires.0 refl c.requires.1 _ _ (rw (← c.word-target.ensures) c.word-name.ensures) c.lookup-found.ensures.0
    (sym c.is_assignable.ensures ∙ c.if-is_assignable.false) refl
