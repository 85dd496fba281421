-- `trimmed` meets its contract. The loop's invariant: what is left after trimming is the same from each space on.
-- Assumes nothing.
use mathlib.Core.Path.{◌≡◌}
use Prim.Native.Nat.{◌≤◌}
use lib.ListN.{length}
use Rattle.definition.specs.Text.{trimmed}
use Rattle.text.proofs.trimmed.Given as goal

abbrev pub invariant-loop-rest : goal.invariant-loop-rest
invariant-loop-rest l = (trimmed l.rest ≡ trimmed l.fn.column) × (length l.rest ≤ length l.fn.column)

abbrev pub decreases-loop-rest : goal.decreases-loop-rest
decreases-loop-rest l = length l.rest
