use Rattle.std.proofs.Common.{refl}
use Rattle.walk.specs.WalkState.{state_of}
use Rattle.walk.proofs.StepLaws.{looped}
use Rattle.walk.proofs.scopes.begin_loop.Goals as goal

pub returns-clause-step : goal.returns-clause-step
returns-clause-step c = λ O. looped O c.args.walk.now.sheet.now (state_of c.args.walk.now) refl (c.push_loop-walk.ensures c.args.walk.now.sheet.now)
