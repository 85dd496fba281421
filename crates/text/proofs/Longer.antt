-- What is said of the rows that were read is said of the text's sheet, also of a text that is longer than any accepted one. Assumes nothing.
use mathlib.Core.Path.{◌≡◌, refl, sym, ap, subst, ◌∙◌}
use mathlib.Core.Bool.{Bool, true, false, ◌&&◌}
use mathlib.Core.List.{List}
use Prim.Native.Nat.{ℕ, ◌*◌, ◌<◌, ◌≤◌}
use native.Mathlib.Decide.{dec_le}
use native.Mathlib.Omega.{arith}
use lib.ListN.{length, take}
use lib.Dec.{T, eqb, leb, eqb→eq, leb→le}
use lib.Seq.{take_all, length-take-le}
use Rattle.definition.specs.Basics.{when◌then◌else◌, all, from}
use Rattle.definition.specs.Text.{lines, is_sheet_text, sheet_of}
use Rattle.definition.specs.Outcome.{rows_fit}
use Rattle.definition.proofs.Lists.Tests.{and_left, and_right}
use Rattle.text.specs.Lines.{line_at, is_line}
use Rattle.text.specs.Reading.{is_readable, lines_read, words_read, SheetRead}
use Rattle.text.proofs.Reading.{readable, text_lines}
use Rattle.text.proofs.Laws.{sheet_words, rows_read}

no_t : (b : Bool) → (T b → ⊥) → b ≡ false
no_t true f = absurd (f tt)
no_t false f = refl

-- a sheet's text is at most 165,888 bytes
sheet_small : (t : List ℕ) → T (is_readable t 16384) → length t ≤ 165888
unfolding is_readable
sheet_small t h =
    let whole : 81 * lines t ≡ length t =
    eqb→eq (81 * lines t) (length t)
    (and_left (eqb (81 * lines t) (length t)) (all (λ r. is_line (line_at t r)) (from 0 (lines t))) (subst T (text_lines t) (readable t 16384 h))) in
    let few : lines t ≤ 2048 =
    leb→le (lines t) 2048
    (and_right (is_sheet_text t) (leb (lines t) 2048) (and_left (is_sheet_text t && leb (lines t) 2048) (leb (8 * lines t) 16384) h)) in
    omega (arith, whole, few)

pub sheet_long : (t : List ℕ) → 165888 < length t → rows_fit (sheet_of t) ≡ false
unfolding lines_read
sheet_long t l =
    let none : is_readable t 16384 ≡ false = no_t (is_readable t 16384) (λ h. omega (arith, sheet_small t h)) in
    rows_read t 16384 (omega arith) ∙ ap (λ (b : Bool). leb 1 (when b then lines t else 0)) none

-- what is read fits its words
pub read_few : (t : List ℕ) (lent k : ℕ) → k ≡ lines_read t lent → 8 * k ≤ lent
unfolding lines_read is_readable
read_few t lent k e = subst (λ (n : ℕ). 8 * n ≤ lent) (sym e) (go (is_readable t lent) (λ h. h))
  where
    go : (b : Bool) → (T b → T (is_readable t lent)) → 8 * (when b then lines t else 0) ≤ lent
    go true f = leb→le (8 * lines t) lent (and_right (is_sheet_text t && leb (lines t) 2048) (leb (8 * lines t) lent) (f tt))
    go false f = omega arith

-- f says the same of all rows that question 1 refuses
module _ {A : Type 0} (f : List ℕ → A) (y : A) (refused : (s : List ℕ) → rows_fit s ≡ false → f s ≡ y) where
  -- of what was read it says what it says of the text's sheet
  pub same_read : (t : List ℕ) (k : ℕ) (words : List ℕ) → SheetRead t 16384 k words → f (take (8 * k) words) ≡ f (sheet_of t)
  same_read t k words h = ap (λ (n : ℕ). f (take (8 * n) words)) h.count ∙ ap (λ (w : List ℕ). f (take (8 * n) w)) h.words ∙ go (dec_le 1 n)
    where
      n : ℕ
      n = lines_read t 16384

      go : Dec (1 ≤ n) → f (take (8 * n) (words_read t 16384)) ≡ f (sheet_of t)
      go (yes l) = ap f (sheet_words t 16384 l)
      go (no l) =
          let z : n ≡ 0 = omega arith in
          refused (take (8 * n) (words_read t 16384)) (ap (λ (m : ℕ). rows_fit (take (8 * m) (words_read t 16384))) z)
          ∙ sym (refused (sheet_of t) (rows_read t 16384 (omega arith) ∙ ap (leb 1) z))

  -- and one byte more than the longest sheet's text fixes what it says of a text
  pub same_cut : (t : List ℕ) → f (sheet_of (take 165889 t)) ≡ f (sheet_of t)
  same_cut t = go (dec_le (length t) 165889)
    where
      go : Dec (length t ≤ 165889) → f (sheet_of (take 165889 t)) ≡ f (sheet_of t)
      go (yes l) = ap (λ (u : List ℕ). f (sheet_of u)) (take_all 165889 t l)
      go (no l) =
          refused (sheet_of (take 165889 t)) (sheet_long (take 165889 t) (omega (arith, length-take-le 165889 t (omega arith))))
          ∙ sym (refused (sheet_of t) (sheet_long t (omega arith)))
