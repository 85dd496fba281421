use Rattle.std.proofs.Common.{refl, sym, ap, ◌∙◌}
use Rattle.walk.specs.WalkState.{state_of}
use Rattle.definition.specs.Meaning.{class_number}
use Rattle.walk.proofs.VisitLaws.{parent_no, parent_yes}
use Rattle.visits.proofs.resolve_parent.Goals as goal

pub returns-then-not-names_class-clause-step : goal.returns-then-not-names_class-clause-step
returns-then-not-names_class-clause-step c =
    λ O. parent_no O c.args.walk.now.sheet.now c.args.row (state_of c.args.walk.now) refl c.requires _ _ _ c.word-c.ensures c.word-name.ensures
    (c.class_number-class.ensures ∙ ap class_number c.lookup.ensures.0)
    (sym c.names_class.ensures ∙ c.if-not-names_class.true) refl

pub returns-clause-step : goal.returns-clause-step
returns-clause-step c =
    λ O. parent_yes O c.args.walk.now.sheet.now c.args.row (state_of c.args.walk.now) refl c.requires _ _ _ c.word-c.ensures c.word-name.ensures
    (c.class_number-class.ensures ∙ ap class_number c.lookup.ensures.0) _
    (sym c.names_class.ensures ∙ c.if-not-names_class.false) (c.write_parent.ensures _ _)
