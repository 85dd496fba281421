-- What is found and printed. Assumes nothing.
use mathlib.Core.Path.{◌≡◌, refl, ap, subst, ◌∙◌}
use mathlib.Core.Bool.{Bool, false}
use mathlib.Core.List.{List, [], ◌∷◌}
use Prim.Native.Nat.{ℕ}
use native.Mathlib.Omega.{arith}
use lib.ListN.{length, take, drop}
use Rattle.std.specs.Option.{unwrap_or}
use Rattle.definition.specs.Basics.{when◌then◌else◌, concat_map}
use Rattle.definition.specs.Names.{names_fit}
use Rattle.definition.specs.Text.{text_of}
use Rattle.definition.specs.Outcome.{report}
use Rattle.definition.proofs.Format.Accepted.{Eights}
use Rattle.lexer.proofs.Laws.{file_none, line_none, column_none}
use Rattle.names.proofs.Longer.{same_cut}
use Rattle.answer.specs.declared.Answer.{Answer}
use Rattle.answer.specs.Tells.{Tells}
use Rattle.report.specs.Report.{Begins, reply, Printed}
use Rattle.report.proofs.Laws.{report_printed}
use Rattle.name_index.specs.declared.Found.{Found}
use Rattle.name_index.specs.Index.{searched, index_of, find, found_number}
use Rattle.name_index.proofs.QuestionLaws.{found_word}
use Rattle.names.specs.Listed.{numbered}
use Rattle.find_text.specs.Reply.{answered, row_of, printed_find, RepliedOfNames}

-- the answer of one row
abbrev one_row : Answer
one_row = record { number = 0; pos = record { 0 = 0 }; name = 0; rows = 1; globals = 0 }

-- What is found of bytes in a list, in words, and printed.
module _ (names name : List ℕ) (x : Found) (w : List ℕ) (found : (x.number ≡ found_number (find names name).0) × (x.places ≡ (find names name).1))
    (words : w ≡ row_of x) where
  tells : Tells (answered (find names name)) one_row
  tells = record { number = refl; file = file_none; line = line_none; column = column_none; name = refl; rows = refl; globals = refl }

  row_there : take 8 (drop 8 w) ≡ concat_map (λ r. r) (answered (find names name)).rows
  row_there = ap (λ (v : List ℕ). take 8 (drop 8 v)) words ∙ rw (found_word (find names name).0 found.0, found.1)

  pub printed_find_lem : (before : List ℕ) (n : ℕ) (filled after : List ℕ) → Printed one_row w before n filled after
      → Begins (printed_find names name) before n after
  printed_find_lem before n filled after h =
      report_printed (answered (find names name)) one_row w tells (Eights.more refl Eights.none) (omega arith) row_there before n filled after h

-- in a list that question 2 refuses nothing is found
refused_none : (name ns : List ℕ) → names_fit ns ≡ false → find ns name ≡ (0, 0)
refused_none name ns e = ap (λ (t : Bool). when t then searched (numbered ns) (index_of (numbered ns)) name else (0, 0)) e

-- The reply to the bytes read of a list is the reply to the list.
pub replied_names : {names name before : List ℕ} {n : ℕ} {after : List ℕ} → Begins (reply 0 (length before) (printed_find names name)) before n after
    → RepliedOfNames names name before n after
replied_names {names} {name} {before} {n} {after} h = record {
  of_read = h;
  of_names = λ ns e.
      subst (λ (a : ℕ × ℕ). Begins (reply 0 (length before) (text_of (report (answered a)))) before n after)
      (ap (λ (t : List ℕ). find t name) e ∙ same_cut (λ t. find t name) (0, 0) (λ t f. refused_none name t f) ns) h;
}
