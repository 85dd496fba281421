-- `entry_sheet` meets its contract. Invariant: the words before place i are written. Assumes nothing.
use Rattle.std.proofs.Common.{◌≡◌, ℕ, ◌<◌, length, get_or}
use Rattle.entry_names.specs.Told.{word_told}
use Rattle.entry_names.proofs.entry_sheet.Given as goal

abbrev pub invariant-loop-i : goal.invariant-loop-i
invariant-loop-i l = (length l.copy ≡ length l.initial.copy) × ((j : ℕ) → j < l.i → get_or l.copy j 0 ≡ word_told l.sheet l.numbers j)
