use Rattle.std.proofs.Common.{ap, map, ◌∙◌}
use Rattle.definition.specs.Basics.{concat_map}
use Rattle.definition.specs.Sheet.{Sheet, kids_of}
use Rattle.definition.specs.Walk.{enter, declare, imports}
use Rattle.walk.specs.WalkState.{state_of}
use Rattle.walk.proofs.StepLaws.{after_err, is_refused}
use Rattle.walk.proofs.RunLaws.{run_first, run_both, run_idle}
use Rattle.row_events.proofs.RowLaws.{before_unit, runs_on}
use Rattle.row_events.proofs.before_unit.Goals as goal

pub returns-in_err-define_imports-clause-step : goal.returns-in_err-define_imports-clause-step
returns-in_err-define_imports-clause-step c =
    let s = c.args.walk.now.sheet.now in
    let opened = c.open_scope.new.walk in
    λ O. after_err c.define_imports.new.walk _ c.in_err-define_imports.field-0.0 c.from_residual.ensures.1
    ∙ rw (before_unit s c.args.row c.requires.1)
    (run_first O s (enter c.args.row) _ (state_of c.args.walk.now) (c.open_scope.ensures.step O)
    (run_both O s _ _ (state_of opened)
    (runs_on O (λ (v : Sheet). concat_map (imports v c.args.row) (kids_of v 3 c.args.row)) (state_of opened) (ap (λ b. b.now) c.open_scope.ensures.same.sheet) (c.in_err-define_imports.ensures.step O))
    (run_idle O s _ _ (is_refused c.in_err-define_imports.field-0.0))))

pub returns-clause-step : goal.returns-clause-step
returns-clause-step c =
    let s = c.args.walk.now.sheet.now in
    let opened = c.open_scope.new.walk in
    λ O. rw (before_unit s c.args.row c.requires.1)
    (run_first O s (enter c.args.row) _ (state_of c.args.walk.now) (c.open_scope.ensures.step O)
    (run_both O s _ _ (state_of opened)
    (runs_on O (λ (v : Sheet). concat_map (imports v c.args.row) (kids_of v 3 c.args.row)) (state_of opened) (ap (λ b. b.now) c.open_scope.ensures.same.sheet) (c.in_ok-define_imports.ensures.step O))
    (runs_on O (λ (v : Sheet). map declare (kids_of v 4 c.args.row)) (state_of c.define_imports.new.walk) (ap (λ b. b.now) (c.define_imports.ensures.same.sheet ∙ c.open_scope.ensures.same.sheet))
    (c.declare_kind.ensures.step O))))
