-- The part keeps its length.
use Rattle.std.proofs.Common.{length, ◌≡◌}
use Rattle.plush_serve.proofs.input.skip.Given as goal

abbrev pub invariant-loop-left : goal.invariant-loop-left
invariant-loop-left g l = 4096 ≡ length l.part

abbrev pub decreases-loop-left : goal.decreases-loop-left
decreases-loop-left g l = l.left
