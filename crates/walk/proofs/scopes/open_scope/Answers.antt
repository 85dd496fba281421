use Rattle.std.proofs.Common.{refl}
use Rattle.walk.specs.WalkState.{state_of}
use Rattle.walk.proofs.StepLaws.{entered}
use Rattle.walk.proofs.scopes.open_scope.Goals as goal

pub returns-clause-step : goal.returns-clause-step
returns-clause-step c = λ O. entered O c.args.walk.now.sheet.now (state_of c.args.walk.now) refl c.args.row c.push_scope-walk.ensures
