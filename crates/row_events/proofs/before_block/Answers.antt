use Rattle.std.proofs.Common.{ap, map}
use Rattle.definition.specs.Basics.{filter}
use Rattle.definition.specs.Sheet.{Sheet, kids}
use Rattle.definition.specs.Walk.{enter, declare, literal_let}
use Rattle.walk.specs.WalkState.{state_of}
use Rattle.walk.proofs.RunLaws.{run_first}
use Rattle.row_events.proofs.RowLaws.{before_block, runs_on}
use Rattle.row_events.proofs.before_block.Goals as goal

pub returns-clause-step : goal.returns-clause-step
returns-clause-step c =
    let s = c.args.walk.now.sheet.now in
    let opened = c.open_scope.new.walk in
    λ O. rw (before_block s c.args.row c.requires.1)
    (run_first O s (enter c.args.row) _ (state_of c.args.walk.now) (c.open_scope.ensures.step O)
    (runs_on O (λ (v : Sheet). map declare (filter (literal_let v) (kids v c.args.row))) (state_of opened) (ap (λ b. b.now) c.open_scope.ensures.same.sheet) (c.hoist_literals.ensures.step O)))
