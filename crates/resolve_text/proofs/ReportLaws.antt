-- What is read, resolved and printed.
use mathlib.Core.Path.{◌≡◌, ap, subst, ◌∙◌}
use mathlib.Core.Bool.{Bool, false, not}
use mathlib.Core.List.{List, [], ◌++◌}
use Prim.Native.Nat.{ℕ, ◌*◌, ◌<◌, ◌≤◌}
use native.Mathlib.Omega.{arith}
use lib.ListN.{length, take, drop}
use Rattle.definition.specs.Basics.{when◌then◌else◌}
use Rattle.definition.specs.Sheet.{Sheet}
use Rattle.definition.specs.Text.{sheet_of}
use Rattle.definition.specs.Outcome.{Outcome, rows_fit, refused, outcome, buffer, printed}
use Rattle.definition.proofs.Format.Accepted.{good_outcome}
use Rattle.text.specs.Reading.{SheetRead}
use Rattle.text.proofs.Longer.{same_read}
use Rattle.answer.specs.declared.Answer.{Answer}
use Rattle.answer.specs.Tells.{Tells}
use Rattle.report.specs.Report.{Begins, reply}
use Rattle.report.specs.Asked.{report_text}
use Rattle.report.proofs.Laws.{rows_begin, report_is, reply_there, reply_short}
use Rattle.resolver.specs.Answered.{Answered}
use Rattle.resolve_text.specs.Report.{printed_with, Printed}

-- a sheet that question 1 refuses
unless : (x y : Outcome) (t : Bool) → t ≡ false → (when not t then x else y) ≡ x
unless x y t e = ap (λ (b : Bool). when not b then x else y) e

pub outcome_none : (lent : ℕ) (s : Sheet) (ns : List ℕ) → rows_fit s ≡ false → outcome s ns lent ≡ refused 1
outcome_none lent s ns e = unless (refused 1) _ (rows_fit s) e

-- the answer has no more rows than are lent
pub few_rows : {s : Sheet} {ns : List ℕ} {lent : ℕ} {x : Answer} {out : List ℕ} → Answered s ns lent x out → 8 * x.rows ≤ lent
few_rows {s} {ns} {lent} h = omega (arith, h.tells.rows, (good_outcome lent s ns).1)

-- A text of which k lines were read into `words`, and what `resolve` answers of them: its report is that of the outcome.
pub printed_report : (lent : ℕ) (sheet names : List ℕ) (k : ℕ) (words : List ℕ) {rows : Sheet} {m : ℕ} {x : Answer} {out : List ℕ} → lent ≤ 2048 → SheetRead sheet 16384 k words
    → rows ≡ take (8 * k) words → m ≡ 8 * lent → Answered rows names m x out → report_text x out ≡ printed_with lent sheet names
printed_report lent sheet names k words {rows} {m} {x} {out} low read are room a =
    let o : Outcome = outcome (sheet_of sheet) names (8 * lent) in
    let good = good_outcome (8 * lent) (sheet_of sheet) names in
    let same : outcome rows names m ≡ o =
    ap (λ (s : Sheet). outcome s names m) are ∙ ap (outcome (take (8 * k) words) names) room
    ∙ same_read (λ s. outcome s names (8 * lent)) (refused 1) (λ s e. outcome_none (8 * lent) s names e) sheet k words read in
    let tells = subst (λ (p : Outcome). Tells p x) same a.tells in
    report_is o x out tells good.0 (omega (arith, good.1)) (rows_begin o x out tells good.0 m (a.words ∙ ap (buffer m) same))

-- with 2,048 rows lent it is what the program prints
pub printed_of_lem : {sheet names before : List ℕ} {n : ℕ} {after : List ℕ} → Begins (reply 2048 (length before) (printed_with 2048 sheet names)) before n after
    → Printed sheet names before n after
printed_of_lem {sheet} {names} {before} {n} {after} h =
    let told : List ℕ = reply 2048 (length before) (printed sheet names) in
    let there : 165969 ≤ length before → told ≡ printed sheet names = λ l. reply_there 2048 (printed sheet names) before (omega arith) l in
    let none : length before < 165969 → told ≡ [] = λ l. reply_short 2048 (printed sheet names) before l in
    let zero_count : length before < 165969 → n ≡ 0 = λ l. h.count ∙ ap length (none l) in
    record {
      count = λ l. h.count ∙ ap length (there l);
      text = λ l. h.text ∙ ap (λ (t : List ℕ). t ++ drop n before) (there l);
      no_count = zero_count;
      no_text = λ l. h.text ∙ ap (λ (t : List ℕ). t ++ drop n before) (none l) ∙ ap (λ (k : ℕ). drop k before) (zero_count l);
    }
