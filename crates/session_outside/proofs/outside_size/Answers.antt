use Rattle.std.proofs.Common.{arith}
use Rattle.session_outside.specs.Readable.{outside_size}
use Rattle.session_outside.proofs.outside_size.Goals as goal

pub returns : goal.returns
unfolding outside_size
returns c = rw (c.min-names.ensures, c.entry_at.ensures, c.entry_at-2.ensures, c.entry_at-3.ensures) (omega arith)
