-- `put_byte` meets its contract. Assumes nothing.
use Rattle.std.proofs.Common.{sym}
use Rattle.std.proofs.Math.Seq.{set_out}
use Rattle.entry_names.proofs.put_byte.Goals as goal

pub returns-else-place-bytes : goal.returns-else-place-bytes
returns-else-place-bytes c = sym (set_out _ _ _ c.if-place-bytes.false)
