-- `write` meets its contract. Invariant of both loops: the places passed are written. Assumes nothing.
use mathlib.Core.Path.{◌≡◌}
use Prim.Native.Nat.{◌+◌, ◌*◌}
use Rattle.columns.specs.Ways.{way_of}
use Rattle.columns.proofs.WriteLaws.{copied}
use Rattle.columns.proofs.write.Given as goal

abbrev pub invariant-loop-j : goal.invariant-loop-j
invariant-loop-j l = l.target ≡ copied (l.i * l.width + l.j) (way_of l.way l.source) l.initial.target

abbrev pub invariant-loop-i : goal.invariant-loop-i
invariant-loop-i l = l.target ≡ copied (l.i * l.width) (way_of l.way l.source) l.initial.target
