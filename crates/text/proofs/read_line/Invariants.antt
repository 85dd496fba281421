-- `read_line` meets its contract. The loop's invariant: the columns passed are numbers, and the row has them. Assumes nothing.
use mathlib.Core.Path.{◌≡◌}
use mathlib.Core.List.{map}
use mathlib.Core.Bool.{true}
use lib.ListN.{take}
use Rattle.definition.specs.Text.{is_number, value}
use Rattle.definition.specs.Basics.{all, from}
use Rattle.text.specs.Lines.{column_at}
use Rattle.text.proofs.read_line.Given as goal

abbrev pub invariant-loop-c : goal.invariant-loop-c
invariant-loop-c l =
    (all (λ k. is_number (column_at l.line k)) (from 0 l.c) ≡ true) × (take l.c l.row ≡ map (λ k. value (column_at l.line k)) (from 0 l.c))
