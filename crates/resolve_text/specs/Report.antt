-- What the routines from text to text promise, and their parts.
use Rattle.std.specs.Prelude.{◌≡◌, List, ◌++◌, ℕ, ◌*◌, ◌<◌, ◌≤◌, length, take, drop}
use Rattle.definition.specs.Text.{sheet_of, text_of}
use Rattle.definition.specs.Outcome.{outcome, report, printed}
use Rattle.report.specs.Report.{Begins, reply}

-- the report of a sheet's text and its names as text, with `lent` answer rows lent; with 2,048 it is what the program prints
abbrev pub printed_with : ℕ → List ℕ → List ℕ → List ℕ
printed_with lent sheet names = text_of (report (outcome (sheet_of sheet) names (8 * lent)))

-- A lent text, which then is `after`, begins with the reply to two texts of which `sheet` and `names` were read: all of them, or one byte more
-- than the longest that is accepted.
pub record RepliedOfTexts (lent : ℕ) (sheet names before : List ℕ) (n : ℕ) (after : List ℕ) : Type 0 where
  pub of_read : Begins (reply lent (length before) (printed_with lent sheet names)) before n after
  pub of_texts : (s ns : List ℕ) → sheet ≡ take 165889 s → names ≡ take 32769 ns
      → Begins (reply lent (length before) (printed_with lent s ns)) before n after

-- Of the texts of sheet.txt and names.txt and a lent text, which then is `after`:
pub record Printed (sheet names before : List ℕ) (n : ℕ) (after : List ℕ) : Type 0 where
  -- where 2,049 lines are lent, it begins with what the program prints, n bytes, and the rest is unchanged;
  pub count : 165969 ≤ length before → n ≡ length (printed sheet names)
  pub text : 165969 ≤ length before → after ≡ printed sheet names ++ drop n before
  -- where fewer are lent, n is 0 and nothing is written.
  pub no_count : length before < 165969 → n ≡ 0
  pub no_text : length before < 165969 → after ≡ before

-- The same of two files of which `sheet` and `names` were read: all of them, or one byte more than the longest that is accepted.
pub record PrintedOfFiles (sheet names before : List ℕ) (n : ℕ) (after : List ℕ) : Type 0 where
  pub of_read : Printed sheet names before n after
  pub of_files : (s ns : List ℕ) → sheet ≡ take 165889 s → names ≡ take 32769 ns → Printed s ns before n after
