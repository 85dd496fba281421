-- `read_lines` meets its contract. The loop's invariant: the lines passed are lines, and the words have their numbers.
-- Assumes nothing.
use mathlib.Core.Path.{◌≡◌}
use mathlib.Core.Bool.{true}
use Prim.Native.Nat.{◌*◌}
use lib.ListN.{take}
use Rattle.definition.specs.Basics.{all, from}
use Rattle.text.specs.Lines.{is_line, line_at, numbers_in}
use Rattle.text.proofs.read_lines.Given as goal

abbrev pub invariant-loop-r : goal.invariant-loop-r
invariant-loop-r l =
    (all (λ k. is_line (line_at l.text k)) (from 0 l.r) ≡ true)
    × (take (8 * l.r) l.words ≡ numbers_in l.text l.r)
