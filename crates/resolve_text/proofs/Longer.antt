-- Texts longer than any accepted one: what the program prints of them is fixed by one byte more than the longest has.
use mathlib.Core.Path.{◌≡◌, ap, subst, ◌∙◌}
use mathlib.Core.Bool.{Bool, false, not}
use mathlib.Core.List.{List}
use Prim.Native.Nat.{ℕ, ◌*◌}
use lib.ListN.{length, take}
use Rattle.definition.specs.Basics.{when◌then◌else◌}
use Rattle.definition.specs.Sheet.{Sheet}
use Rattle.definition.specs.Names.{names_fit}
use Rattle.definition.specs.Text.{sheet_of, text_of}
use Rattle.definition.specs.Outcome.{Outcome, rows_fit, refused, outcome, report}
use Rattle.names.proofs.Longer.{same_cut as same_names_cut}
use Rattle.text.proofs.Longer.{same_cut}
use Rattle.report.specs.Report.{Begins, reply}
use Rattle.resolve_text.specs.Report.{printed_with, RepliedOfTexts, PrintedOfFiles}
use Rattle.resolve_text.proofs.ReportLaws.{outcome_none, printed_of_lem}

-- names that question 2 refuses
second : (t : Bool) (x y z : Outcome) (b : Bool) → b ≡ false → (when not t then x else when not b then y else z) ≡ (when not t then x else y)
second t x y z b e = ap (λ (c : Bool). when not t then x else when not c then y else z) e

names_none : (lent : ℕ) (s : Sheet) (ns : List ℕ) → names_fit ns ≡ false → outcome s ns lent ≡ (when not (rows_fit s) then refused 1 else refused 2)
names_none lent s ns e = second (rows_fit s) (refused 1) (refused 2) _ (names_fit ns) e

-- one sheet and different names
names_cut : (lent : ℕ) (s ns : List ℕ) → outcome s (take 32769 ns) lent ≡ outcome s ns lent
names_cut lent s ns =
    same_names_cut (λ t. outcome s t lent) (when not (rows_fit s) then refused 1 else refused 2) (λ t e. names_none lent s t e) ns

-- A program that reads 165,889 bytes of a sheet's text and 32,769 of its names prints what belongs to the whole texts.
pub printed_cut : (lent : ℕ) (s ns : List ℕ) → printed_with lent (take 165889 s) (take 32769 ns) ≡ printed_with lent s ns
printed_cut lent s ns =
    let few : List ℕ = take 32769 ns in
    ap (λ (o : Outcome). text_of (report o))
    (same_cut (λ t. outcome t few (8 * lent)) (refused 1) (λ t e. outcome_none (8 * lent) t few e) s ∙ names_cut (8 * lent) (sheet_of s) ns)

-- and so the reply to the bytes read is the reply to the texts
pub replied_texts : {lent : ℕ} {sheet names before : List ℕ} {n : ℕ} {after : List ℕ}
    → Begins (reply lent (length before) (printed_with lent sheet names)) before n after
    → RepliedOfTexts lent sheet names before n after
replied_texts {lent} {sheet} {names} {before} {n} {after} x = record {
  of_read = x;
  of_texts = λ s ns e f.
      let same : printed_with lent sheet names ≡ printed_with lent s ns =
      ap (λ (t : List ℕ). printed_with lent t names) e ∙ ap (λ (t : List ℕ). printed_with lent (take 165889 s) t) f ∙ printed_cut lent s ns in
      subst (λ (t : List ℕ). Begins (reply lent (length before) t) before n after) same x;
}

-- with 2,048 rows lent: of the files
pub printed_files : {sheet names before : List ℕ} {n : ℕ} {after : List ℕ} → RepliedOfTexts 2048 sheet names before n after → PrintedOfFiles sheet names before n after
printed_files x = record { of_read = printed_of_lem x.of_read; of_files = λ s ns e f. printed_of_lem (x.of_texts s ns e f) }
