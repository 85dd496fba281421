use mathlib.Core.Path.{sym}
use lib.Seq.{length-take-le}
use Rattle.session_names.proofs.is_fixed.Goals as goal

pub slice_bounds-same_name-end : goal.slice_bounds-same_name-end
slice_bounds-same_name-end c = sym (length-take-le 168 c.args.bytes.now c.requires)
