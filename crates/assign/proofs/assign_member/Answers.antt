use Rattle.std.proofs.Common.{refl, sym, ◌∙◌}
use Rattle.walk.specs.WalkState.{state_of}
use Rattle.walk.proofs.VisitLaws.{member_free, member_listed, member_new}
use Rattle.assign.proofs.assign_member.Goals as goal

pub returns-then-class-eq0-clause-step : goal.returns-then-class-eq0-clause-step
returns-then-class-eq0-clause-step c =
    λ O. member_free O c.args.walk.now.sheet.now c.args.row (state_of c.args.walk.now) c.requires.1 refl c.requires.2 _ (c.entry_at-class.ensures ∙ c.requires.0.entry _) c.if-class-eq0.true

pub returns-then-has_named-clause-step : goal.returns-then-has_named-clause-step
returns-then-has_named-clause-step c =
    λ O. member_listed O c.args.walk.now.sheet.now c.args.row (state_of c.args.walk.now) c.requires.1 refl c.requires.2 _ (c.entry_at-class.ensures ∙ c.requires.0.entry _) _
    (rw (← c.word-target.ensures) c.word-name.ensures) (sym c.has_named.ensures ∙ c.if-has_named.true)

pub returns-clause-step : goal.returns-clause-step
returns-clause-step c =
    rw c.reg_field.ensures.scopes λ O. member_new O c.args.walk.now.sheet.now c.args.row (state_of c.args.walk.now) c.requires.1 refl c.requires.2 _
    (c.entry_at-class.ensures ∙ c.requires.0.entry _) _ _ (rw (← c.word-target.ensures) c.word-name.ensures)
    c.if-class-eq0.false (sym c.has_named.ensures ∙ c.if-has_named.false) c.reg_field.ensures.step
