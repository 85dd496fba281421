-- `write_rows` meets its contract. The loop's invariant: the lines passed are those of the rows, and the rest is as
-- before. Assumes nothing.
use mathlib.Core.Path.{◌≡◌}
use Prim.Native.Nat.{◌*◌}
use lib.ListN.{take, drop}
use Rattle.text.specs.Lines.{lines_of}
use Rattle.text.proofs.write_rows.Given as goal

abbrev pub invariant-loop-r : goal.invariant-loop-r
invariant-loop-r l =
    (take (81 * l.r) l.text ≡ lines_of l.words l.r)
    × (drop (81 * l.r) l.text ≡ drop (81 * l.r) l.initial.text)
