use Rattle.std.proofs.Common.{refl}
use Rattle.walk.specs.WalkState.{state_of}
use Rattle.walk.proofs.StepLaws.{left}
use Rattle.walk.proofs.scopes.close_scope.Goals as goal

pub returns-clause-step : goal.returns-clause-step
returns-clause-step c = λ O. left O c.args.walk.now.sheet.now (state_of c.args.walk.now) refl (c.around-walk.ensures c.args.walk.now.sheet.now)
