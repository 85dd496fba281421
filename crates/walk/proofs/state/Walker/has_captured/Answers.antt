use Rattle.machine.specs.Machine.{list_at}
use Rattle.walk.proofs.state.Walker.has_captured.Goals as goal

pub returns : goal.returns
unfolding list_at
returns c = rw (← c.word.ensures) c.has_key.ensures
