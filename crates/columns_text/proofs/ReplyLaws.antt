-- What is read, rearranged and printed. Assumes nothing.
use mathlib.Core.Path.{◌≡◌, refl, sym, ap, subst, ◌∙◌}
use mathlib.Core.Bool.{Bool, true, false, not}
use mathlib.Core.List.{List}
use Prim.Native.Nat.{ℕ, ◌*◌, ◌≤◌}
use native.Mathlib.Omega.{arith}
use lib.ListN.{length, take}
use lib.Dec.{T, eqb, ltb, eqb→eq}
use lib.Seq.{take_all}
use Rattle.definition.specs.Basics.{when◌then◌else◌, concat_map}
use Rattle.definition.specs.Text.{sheet_of, text_of}
use Rattle.definition.specs.Outcome.{Outcome, rows_fit, refused, report}
use Rattle.definition.proofs.Format.Accepted.{Eights}
use Rattle.lexer.proofs.Laws.{file_none, line_none, column_none}
use Rattle.text.specs.Reading.{SheetRead}
use Rattle.text.specs.Writing.{rows_in}
use Rattle.text.proofs.Longer.{same_read, same_cut}
use Rattle.answer.specs.declared.Answer.{Answer}
use Rattle.answer.specs.Tells.{Tells}
use Rattle.report.specs.Report.{Begins, reply}
use Rattle.report.specs.Asked.{report_text}
use Rattle.report.proofs.Laws.{rows_eights, rows_number, rows_joined, report_is}
use Rattle.columns.specs.Columns.{first_no, target_after, Rearranged}
use Rattle.columns.specs.Ways.{way_of, opposite}
use Rattle.columns.specs.declared.Way.{Way}
use Rattle.columns_text.specs.Reply.{rearranged, told_by, printed_columns, RepliedOfText}

-- the outcome of a target w and the first question q that got a no, or 0
abbrev outcome_of : ℕ → List ℕ → Bool → Outcome
outcome_of q w t = when t then record { number = 0; file = 0; line = 0; column = 0; name = 0; rows = rows_in w; globals = 0 } else refused q

rearranged_is : (way : Way) (lent : ℕ) (s w : List ℕ) (q : ℕ) → q ≡ first_no s (8 * lent) → w ≡ target_after (way_of way) s (8 * lent)
    → rearranged way lent s ≡ outcome_of q w (eqb q 0)
unfolding rearranged
rearranged_is way lent s w q e f = rw (e, f)

-- rows that question 1 refuses
first_is : (s : List ℕ) (lent : ℕ) → rows_fit s ≡ false → first_no s lent ≡ 1
unfolding first_no
first_is s lent e = ap (λ (t : Bool). when not t then 1 else when ltb lent (length s) then 22 else 0) e

pub refused_first : (way : Way) (lent : ℕ) (s : List ℕ) → rows_fit s ≡ false → rearranged way lent s ≡ refused 1
refused_first way lent s e = rearranged_is way lent s (target_after (way_of way) s (8 * lent)) 1 (sym (first_is s (8 * lent) e)) refl

-- the answer of an outcome with a target of 8 × lent words
module _ (q lent : ℕ) (w : List ℕ) (size : length w ≡ 8 * lent) where
  row_count : lent ≡ length (rows_in w)
  row_count = omega (arith, rows_number w)

  tells_of : (t : Bool) → eqb q 0 ≡ t → Tells (outcome_of q w t) (told_by q lent)
  unfolding told_by
  tells_of true e = record {
    number = eqb→eq q 0 (subst T (sym e) tt);
    file = file_none;
    line = line_none;
    column = column_none;
    name = refl;
    rows = ap (λ (t : Bool). when t then lent else 0) e ∙ row_count;
    globals = refl;
  }
  tells_of false e = record {
    number = refl;
    file = file_none;
    line = line_none;
    column = column_none;
    name = refl;
    rows = ap (λ (t : Bool). when t then lent else 0) e;
    globals = refl;
  }

  good_of : (t : Bool) → Eights (outcome_of q w t).rows
  good_of true = rows_eights w
  good_of false = Eights.none

  few_of : (t : Bool) → length (outcome_of q w t).rows ≤ lent
  few_of true = omega (arith, row_count)
  few_of false = omega arith

  -- its rows stand at the start of the target
  rows_of : (n : ℕ) (t : Bool) → n ≡ length (outcome_of q w t).rows → take (8 * n) w ≡ concat_map (λ r. r) (outcome_of q w t).rows
  rows_of n true e = take_all (8 * n) w (omega (arith, size, row_count, e)) ∙ sym (rows_joined w (omega (arith, size)))
  rows_of n false e = ap (λ (k : ℕ). take (8 * k) w) e

pub few_rows : (q : ℕ) {lent : ℕ} {x : Answer} → x ≡ told_by q lent → x.rows ≤ lent
unfolding told_by
few_rows q {lent} e = omega (arith, ap (λ (y : Answer). y.rows) e, few_if (eqb q 0))
  where
    few_if : (t : Bool) → (when t then lent else 0) ≤ lent
    few_if true = omega arith
    few_if false = omega arith

-- A text of which k lines were read into `words` and rearranged into m words: its report is that of the outcome.
module _ (way : Way) (lent : ℕ) (sheet : List ℕ) (k : ℕ) (words : List ℕ) {rows out : List ℕ} {m q : ℕ} {x : Answer} (low : lent ≤ 2048)
    (read : SheetRead sheet 16384 k words) (are : rows ≡ take (8 * k) words) (room : m ≡ 8 * lent) (kept : length out ≡ 8 * lent)
    (done : Rearranged (way_of way) (way_of (opposite way)) rows m q out) (told : x ≡ told_by q lent) where
  abbrev found : Outcome
  found = outcome_of q out (eqb q 0)

  found_is : rearranged way lent (sheet_of sheet) ≡ found
  found_is =
      sym (same_read (rearranged way lent) (refused 1) (refused_first way lent) sheet k words read)
      ∙ ap (rearranged way lent) (sym are)
      ∙ rearranged_is way lent rows out q (done.answer ∙ ap (first_no rows) room) (done.target ∙ ap (target_after (way_of way) rows) room)

  tells : Tells found x
  tells = subst (Tells found) (sym told) (tells_of q lent out kept (eqb q 0) refl)

  pub printed_columns_lem : report_text x out ≡ printed_columns way lent sheet
  printed_columns_lem =
      report_is found x out tells (good_of q lent out kept (eqb q 0)) (omega (arith, few_of q lent out kept (eqb q 0), low)) (rows_of q lent out kept x.rows (eqb q 0) tells.rows)
      ∙ ap (λ (o : Outcome). text_of (report o)) (sym found_is)

-- The reply to the bytes read of a text is the reply to the text.
pub replied_text : {way : Way} {lent : ℕ} {sheet before : List ℕ} {n : ℕ} {after : List ℕ}
    → Begins (reply lent (length before) (printed_columns way lent sheet)) before n after → RepliedOfText way lent sheet before n after
replied_text {way} {lent} {sheet} {before} {n} {after} h = record {
  of_read = h;
  of_text = λ t e.
      subst (λ (o : Outcome). Begins (reply lent (length before) (text_of (report o))) before n after)
      (ap (λ (u : List ℕ). rearranged way lent (sheet_of u)) e ∙ same_cut (rearranged way lent) (refused 1) (refused_first way lent) t) h;
}
