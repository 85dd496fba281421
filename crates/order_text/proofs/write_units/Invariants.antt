-- `write_units` meets its contract. The loop's invariant: the words passed are written as rows. Assumes nothing.
use mathlib.Core.Path.{◌≡◌}
use lib.ListN.{length}
use Rattle.order_text.proofs.ReplyLaws.{written}
use Rattle.order_text.proofs.write_units.Given as goal

abbrev pub invariant-loop-i : goal.invariant-loop-i
invariant-loop-i l = l.report ≡ written (length l.initial.report) l.list l.i
