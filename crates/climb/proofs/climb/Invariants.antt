use mathlib.Core.Path.{◌≡◌}
use Prim.Native.Nat.{suc}
use lib.ListN.{length}
use Rattle.climb.specs.Process.{process, climbed}
use Rattle.climb.proofs.CountLaws.{unmarked}
use Rattle.climb.proofs.climb.Given as goal

abbrev pub invariant-loop-parent : goal.invariant-loop-parent
invariant-loop-parent l =
    (process l.parents l.size l.mark (suc l.size) l.marks l.c ≡ climbed l.parents l.initial.marks l.start) × (length l.marks ≡ length l.initial.marks)

abbrev pub decreases-loop-parent : goal.decreases-loop-parent
decreases-loop-parent l = unmarked l.marks l.size
