-- What `print_answer` writes.
use mathlib.Core.Path.{◌≡◌, refl, sym, ap, subst, ◌∙◌}
use mathlib.Core.List.{List, ◌++◌}
use Prim.Native.Nat.{ℕ, ◌+◌, ◌*◌, ◌≤◌}
use native.Mathlib.Omega.{arith}
use lib.ListN.{length, take, drop, length-append, length-drop}
use lib.Seq.{length-take-le}
use Rattle.definition.specs.Sheet.{rows}
use Rattle.definition.specs.Text.{text_of}
use Rattle.text.specs.Writing.{RowsWritten, rows_in, bytes_written, text_written}
use Rattle.text.proofs.Laws.{rows_fit_lem}
use Rattle.answer.specs.declared.Answer.{Answer}
use Rattle.report.specs.Report.{told_by, fitted, Printed}
use Rattle.report.proofs.Laws.{fitted_whole}

told_length : (x : Answer) → length (told_by x) ≡ 8
unfolding told_by
told_length x = refl

-- the first line in its room, before the rows
module _ (x : Answer) (w line row : List ℕ) (room : 8 * (x.rows + 1) ≤ length w) (told : line ≡ told_by x)
    (written : row ≡ fitted (length (take 8 w)) line) where
  line_stored : row ++ drop 8 w ≡ told_by x ++ drop 8 w
  line_stored =
      ap (λ (xs : List ℕ). xs ++ drop 8 w)
      (written
      ∙ ap (λ (k : ℕ). fitted k line) (length-take-le 8 w (omega arith))
      ∙ ap (fitted 8) told
      ∙ fitted_whole 8 (told_by x) (told_length x))

  pub stored_length : length (row ++ drop 8 w) ≡ length w
  stored_length = ap length line_stored ∙ omega (arith, length-append (told_by x) (drop 8 w), told_length x, length-drop 8 w)

  -- and the text of both
  pub answer_printed : (before : List ℕ) (n : ℕ) (after : List ℕ) → 81 * (x.rows + 1) ≤ length before
      → RowsWritten (take (8 * (x.rows + 1)) (row ++ drop 8 w)) before n after → Printed x w before n (row ++ drop 8 w) after
  answer_printed before n after fits h = record {
    words = line_stored;
    count = count ∙ ap (λ (k : ℕ). 81 * k) number;
    text = there.text ∙ fit.1 ∙ ap (λ (k : ℕ). text_of (rows_in ws) ++ drop k before) (sym count);
  }
    where
      ws : List ℕ
      ws = take (8 * (x.rows + 1)) (told_by x ++ drop 8 w)

      there : RowsWritten ws before n after
      there = subst (λ (v : List ℕ). RowsWritten (take (8 * (x.rows + 1)) v) before n after) line_stored h

      number : rows ws ≡ x.rows + 1
      number =
          let size : length (told_by x ++ drop 8 w) ≡ length w = ap length (sym line_stored) ∙ stored_length in
          omega (arith, length-take-le (8 * (x.rows + 1)) (told_by x ++ drop 8 w) (omega (arith, size)))

      fit : (bytes_written ws (length before) ≡ 81 * rows ws) × (text_written ws before ≡ text_of (rows_in ws) ++ drop (81 * rows ws) before)
      fit = rows_fit_lem ws before (omega (arith, number))

      count : n ≡ 81 * rows ws
      count = there.count ∙ fit.0
