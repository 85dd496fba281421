use Rattle.std.proofs.Common.{refl, ap, ◌∙◌}
use Rattle.walk.specs.WalkState.{state_of}
use Rattle.definition.specs.Meaning.{class_number}
use Rattle.walk.proofs.VisitLaws.{instance_no, instance_yes}
use Rattle.visits.proofs.check_instanceof.Goals as goal

pub returns-then-class-eq0-clause-step : goal.returns-then-class-eq0-clause-step
returns-then-class-eq0-clause-step c =
    λ O. instance_no O c.args.walk.now.sheet.now c.args.row (state_of c.args.walk.now) refl c.requires _ _ c.word-name.ensures
    (c.class_number-class.ensures ∙ ap class_number c.lookup.ensures.0) c.if-class-eq0.true refl

pub returns-clause-step : goal.returns-clause-step
returns-clause-step c =
    λ O. instance_yes O c.args.walk.now.sheet.now c.args.row (state_of c.args.walk.now) refl c.requires _ _ c.word-name.ensures
    (c.class_number-class.ensures ∙ ap class_number c.lookup.ensures.0) _ c.if-class-eq0.false (c.write_decl.ensures _ _)
