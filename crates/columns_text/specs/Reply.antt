-- The reply to a sheet's text that is stored by column, or taken back (document 02, F-12).
use Rattle.std.specs.Prelude.{◌≡◌, List, ℕ, ◌*◌, length, take, eqb}
use Rattle.definition.specs.Basics.{when◌then◌else◌}
use Rattle.definition.specs.Text.{sheet_of, text_of}
use Rattle.definition.specs.Outcome.{Outcome, refused, report}
use Rattle.text.specs.Writing.{rows_in}
use Rattle.answer.specs.declared.Answer.{Answer}
use Rattle.report.specs.Report.{Begins, reply}
use Rattle.columns.specs.Columns.{first_no, target_after}
use Rattle.columns.specs.Ways.{way_of}
use Rattle.columns.specs.declared.Way.{Way}

-- all n lent rows of the target, zeros past the source's length; or refused by question 1 or 22
unfoldable pub rearranged : Way → ℕ → List ℕ → Outcome
rearranged way n s =
    when eqb (first_no s (8 * n)) 0
    then record {
      number = 0;
      file = 0;
      line = 0;
      column = 0;
      name = 0;
      rows = rows_in (target_after (way_of way) s (8 * n));
      globals = 0;
    }
    else refused (first_no s (8 * n))

-- the program's answer of it
unfoldable pub told_by : ℕ → ℕ → Answer
told_by q lent =
    record { number = q; pos = record { 0 = 0 }; name = 0; rows = when eqb q 0 then lent else 0; globals = 0 }

-- the report of a sheet's text, as text
abbrev pub printed_columns : Way → ℕ → List ℕ → List ℕ
printed_columns way lent sheet = text_of (report (rearranged way lent (sheet_of sheet)))

-- A lent text, which then is `after`, begins with the reply to a text of which `sheet` was read: all of it, or one byte more than the longest
-- that is accepted.
pub record RepliedOfText (way : Way) (lent : ℕ) (sheet before : List ℕ) (n : ℕ) (after : List ℕ) : Type 0 where
  pub of_read : Begins (reply lent (length before) (printed_columns way lent sheet)) before n after
  pub of_text : (t : List ℕ) → sheet ≡ take 165889 t → Begins (reply lent (length before) (printed_columns way lent t)) before n after
