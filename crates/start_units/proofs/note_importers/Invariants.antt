use mathlib.Core.Path.{◌≡◌}
use Prim.Native.Nat.{◌≤◌}
use lib.ListN.{length}
use Rattle.definition.specs.Sheet.{rows as rows_of}
use Rattle.start_units.proofs.NoteLaws.{Noting}
use Rattle.start_units.proofs.note_importers.Given as goal

abbrev pub invariant-loop-u : goal.invariant-loop-u
invariant-loop-u l = (l.u ≤ rows_of l.sheet) × (length l.low ≡ length l.initial.low) × Noting l.sheet l.u l.low
