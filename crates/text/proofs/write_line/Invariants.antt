-- `write_line` meets its contract. The loop's invariant: the columns passed are those of the row. Assumes nothing.
use mathlib.Core.Path.{◌≡◌}
use Prim.Native.Nat.{◌*◌}
use lib.ListN.{take}
use Rattle.definition.specs.Text.{in_ten}
use Rattle.definition.specs.Basics.{concat_map}
use Rattle.text.proofs.write_line.Given as goal

abbrev pub invariant-loop-c : goal.invariant-loop-c
invariant-loop-c l = (take (10 * l.c) l.line ≡ concat_map in_ten (take l.c l.row))
