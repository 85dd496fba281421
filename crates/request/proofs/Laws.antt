-- What is read of a header. Assumes nothing.
use mathlib.Core.Path.{◌≡◌, refl, sym, ap, ◌∙◌}
use mathlib.Core.Bool.{Bool, true, false, ◌&&◌}
use mathlib.Core.List.{List, [], ◌++◌, map}
use Prim.Native.Nat.{ℕ, zero, suc, ◌-◌, ◌*◌, ◌<◌, ◌≤◌}
use native.Mathlib.Omega.{arith}
use Rattle.std.specs.Prelude.{Result, Ok, Err}
use lib.ListN.{length, get_or, take, replicate}
use lib.Dec.{eqb, leb}
use lib.Seq.{take_all}
use borrow.Author.Tests.{ne_eqb, le-leb, lt-leb}
use Rattle.definition.specs.Basics.{when◌then◌else◌, from, concat_map}
use Rattle.definition.specs.Text.{is_sheet_text, lines, column_text, value, sheet_of}
use Rattle.text.specs.Reading.{SheetRead, is_readable, lines_read, words_read}
use Rattle.text.proofs.Laws.{sheet_words}
use Rattle.request.specs.declared.broken.Broken.{Broken}
use Rattle.request.specs.declared.broken.Broken.TheVariants.{NoRow}
use Rattle.request.specs.declared.verb.Verb.{Verb}
use Rattle.request.specs.declared.BrokenRequest.{BrokenRequest}
use Rattle.request.specs.declared.Request.{Request}
use Rattle.request.specs.Verbs.{verb_of}
use Rattle.request.specs.Header.{largest, checked, told, refused, is_row, told_unless, asked, request_of}

-- A header is read as one row exactly if it is one.
one_row_lem : (t : Bool) (k : ℕ) → leb 1 (when t && leb k 2048 && leb (8 * k) 8 then k else 0) ≡ (t && eqb k 1)
one_row_lem false k = refl
one_row_lem true zero = refl
one_row_lem true (suc zero) = refl
one_row_lem true (suc (suc k)) = more (suc (suc k)) (omega arith)
  where
    none : (a b : Bool) (m : ℕ) → b ≡ false → leb 1 (when true && a && b then m else 0) ≡ false
    none true b m e = rw (e)
    none false b m e = refl

    more : (m : ℕ) → 1 < m → leb 1 (when true && leb m 2048 && leb (8 * m) 8 then m else 0) ≡ (true && eqb m 1)
    more m l = none (leb m 2048) (leb (8 * m) 8) m (lt-leb (8 * m) 8 (omega arith)) ∙ sym (ne_eqb m 1 (λ e. omega arith))

module _ (h w : List ℕ) (n : ℕ) (read : SheetRead h 8 n w) where
  is_row_lem : is_row h ≡ leb 1 n
  unfolding lines_read is_readable
  is_row_lem = sym (one_row_lem (is_sheet_text h) (lines h)) ∙ ap (leb 1) (sym read.count)

  -- where nothing is read, the words are zeros
  no_words : n ≡ 0 → w ≡ replicate 8 0
  unfolding lines_read words_read
  no_words z = read.words ∙ go (is_readable h 8) (sym read.count ∙ z)
    where
      empty : (t : Bool) (k : ℕ) → k ≡ 0 → (when t then concat_map (λ r. map (λ c. value (column_text h r c)) (from 0 8)) (from 0 k) else []) ++ replicate (8 - 8 * k) 0 ≡ replicate 8 0
      empty true zero e = refl
      empty true (suc k) e = absurd (omega arith)
      empty false k e = rw (e)

      go : (b : Bool) → (when b then lines h else 0) ≡ 0 → (when b then sheet_of h ++ replicate (8 - 8 * lines h) 0 else replicate 8 0) ≡ replicate 8 0
      go true e = empty (is_sheet_text h) (lines h) e
      go false e = refl

  pub no_row : (x : BrokenRequest) → n ≡ 0 → x ≡ refused NoRow w → Err x ≡ request_of h
  unfolding request_of refused
  no_row x z e = ap Err (e ∙ ap (refused NoRow) (no_words z)) ∙ rw (is_row_lem, z)

  -- where a row is read, the words are its numbers
  numbers : length w ≡ 8 → (n ≡ 0 → ⊥) → w ≡ sheet_of h
  numbers l z =
      let some : 1 ≤ lines_read h 8 = omega (arith, read.count) in
      sym (take_all (8 * lines_read h 8) w (omega (arith, some))) ∙ ap (take (8 * lines_read h 8)) read.words ∙ sheet_words h 8 some

  module _ (long : length w ≡ 8) (some : n ≡ 0 → ⊥) where
    row_asked : asked (verb_of (get_or w 0 0)) w ≡ request_of h
    unfolding request_of
    row_asked =
        ap (λ (v : List ℕ). asked (verb_of (get_or v 0 0)) v) (numbers long some)
        ∙ sym (ap (λ (t : Bool). when t then asked (verb_of (get_or (sheet_of h) 0 0)) (sheet_of h) else Err (refused NoRow [])) (is_row_lem ∙ le-leb 1 n (omega arith)))

    -- by what its verb and its numbers tell
    pub verb_unknown : (b : Broken) (x : BrokenRequest) → Err b ≡ verb_of (get_or w 0 0) → x ≡ refused b w → Err x ≡ request_of h
    verb_unknown b x e k = ap Err k ∙ ap (λ (r : Result Verb Broken). asked r w) e ∙ row_asked

    module _ (v : Verb) (m : List ℕ) (e : Ok v ≡ verb_of (get_or w 0 0)) (f : m ≡ largest v) where
      row_checked : told_unless (checked m w) v w ≡ request_of h
      row_checked = ap (λ (k : List ℕ). told_unless (checked k w) v w) f ∙ ap (λ (r : Result Verb Broken). asked r w) e ∙ row_asked

      pub row_broken : (b : Broken) (x : BrokenRequest) → Err b ≡ checked m w → x ≡ refused b w → Err x ≡ request_of h
      row_broken b x g k = ap Err k ∙ ap (λ (r : Result (Unit {0}) Broken). told_unless r v w) g ∙ row_checked

      pub row_told : (u : Unit {0}) (x : Request) → Ok u ≡ checked m w → x ≡ told v w → Ok x ≡ request_of h
      row_told u x g k = ap Ok k ∙ ap (λ (r : Result (Unit {0}) Broken). told_unless r v w) g ∙ row_checked
