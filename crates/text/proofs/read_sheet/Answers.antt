-- `read_sheet` meets its contract. The lines that are whole and good, then zeros. Assumes nothing.
use native.Mathlib.Omega.{arith}
use Rattle.text.proofs.Longer.{read_few}
use Rattle.text.proofs.Reading.{words_left}
use Rattle.text.proofs.RoundTrip.{sheet_read}
use Rattle.text.proofs.read_sheet.Goals as goal

pub overflow_mul-count : goal.overflow_mul-count
overflow_mul-count c = omega (arith, read_few _ _ _ c.read_all-count.ensures.0)

pub offset_bounds-words-count : goal.offset_bounds-words-count
offset_bounds-words-count c = omega (arith, read_few _ _ _ c.read_all-count.ensures.0)

pub slice_bounds-clear-count : goal.slice_bounds-clear-count
slice_bounds-clear-count c = omega (arith, c.read_all-count.auto.words, read_few _ _ _ c.read_all-count.ensures.0)

pub slice_bounds-clear-start : goal.slice_bounds-clear-start
slice_bounds-clear-start c = omega (arith, c.read_all-count.auto.words, read_few _ _ _ c.read_all-count.ensures.0)

pub returns : goal.returns
returns c =
    sheet_read _ _ _ _
    (words_left _ _ _ _ _ c.read_all-count.ensures.0 c.read_all-count.auto.words c.read_all-count.ensures.1 c.clear.ensures)
