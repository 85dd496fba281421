-- Steps of writing: a digit, a number, a line. Assumes nothing.
use mathlib.Core.Path.{◌≡◌, refl, sym, ap, ◌∙◌, subst}
use mathlib.Core.Bool.{Bool, true, false, ◌&&◌}
use mathlib.Core.List.{List, [], ◌∷◌, ◌++◌, append-nil}
use Prim.Native.Nat.{ℕ, suc, ◌+◌, ◌*◌, ◌-◌, ◌/◌, ◌%◌, ◌^◌, ◌<◌, ◌≤◌}
use native.Mathlib.Numerals.{add-one}
use native.Mathlib.Decide.{dec_lt}
use native.Mathlib.Omega.{arith}
use native.Mathlib.Nat.{div-eq_of_lt, div-lt_iff_lt-mul, div-div-eq-div-mul, pow-suc, one-le-pow}
use borrow.Author.Tests.{le-leb, lt-leb, lt-ltb, le-ltb, eq-eqb, ne_eqb}
use borrow.Rule.Slice.PartMut.{put_mid, drop_put, mid_len}
use lib.Dec.{leb, ltb, eqb}
use lib.ListN.{length, get_or, take, drop, set, length-set, take-append-drop, drop_of_length-le}
use lib.Seq.{drop-drop, drop-set-lt, get_or-set_same, set_split, take-suc, take_all}
use Rattle.definition.specs.Basics.{when◌then◌else◌, from, concat_map}
use Rattle.definition.specs.Sheet.{rows}
use Rattle.definition.specs.Text.{digit_byte, in_ten, text_of}
use Rattle.text.specs.Lines.{place_byte, line_of, lines_of}
use Rattle.text.specs.Writing.{row_at, rows_in, bytes_written, text_written}
use Rattle.text.proofs.Lists.{drop_next, put_front, map_at, concat_append, concat_map_lem, concat_more}

-- a number, last digit first
pub quotient_zero : (n p : ℕ) → 0 < p → eqb (n / p) 0 ≡ ltb n p
quotient_zero n p h = go (dec_lt n p)
  where
    go : Dec (n < p) → eqb (n / p) 0 ≡ ltb n p
    go (yes l) = eq-eqb (n / p) 0 (div-eq_of_lt l) ∙ sym (lt-ltb n p l)
    go (no l) = ne_eqb (n / p) 0 (λ z. l (omega (arith, (div-lt_iff_lt-mul {k = p} {x = n} {y = 1} h).0 (omega arith)))) ∙ sym (le-ltb n p (omega arith))

pub quotient_more : (n k : ℕ) → n / 10 ^ k / 10 ≡ n / 10 ^ suc k
quotient_more n k = div-div-eq-div-mul n (10 ^ k) 10 ∙ ap (λ (p : ℕ). n / p) (sym (pow-suc 10 k))

module _ (n : ℕ) where
  place_is : (i : ℕ) → i < 10 → place_byte (n / 10 ^ (9 - i)) i ≡ get_or (in_ten n) i 0
  unfolding place_byte
  place_is i h =
      ap (λ (t : Bool). when leb 1 (9 - i) && t then 32 else 48 + n / 10 ^ (9 - i) % 10) (quotient_zero n (10 ^ (9 - i)) (one-le-pow (9 - i) 10 (omega arith)))
      ∙ sym (map_at (λ j. digit_byte n (9 - j)) 0 10 i h)

  pub digits_left : (i m : ℕ) → 0 < i → i ≤ 10 → m ≡ n / 10 ^ (10 - i) → m / 10 ≡ n / 10 ^ (10 - (i - 1))
  digits_left i m h g e =
      let q : 10 - (i - 1) ≡ suc (10 - i) = omega arith in
      rw (e, q) (quotient_more n (10 - i))

  pub digit_written : (i m b : ℕ) (column : List ℕ) → 0 < i → i ≤ 10 → length column ≡ 10 → m ≡ n / 10 ^ (10 - i) → drop i column ≡ drop i (in_ten n)
      → b ≡ place_byte m (i - 1) → drop (i - 1) (set column (i - 1) b) ≡ drop (i - 1) (in_ten n)
  digit_written i m b column h g l e q p =
      drop_next (set column j b) j 0 (omega (arith, length-set column j b))
      ∙ cc (get_or-set_same column j b 0 (omega arith), drop-set-lt (j + 1) column j b (omega arith), byte, rest)
      ∙ sym (drop_next (in_ten n) j 0 (omega arith))
    where
      j : ℕ
      j = i - 1

      byte : b ≡ get_or (in_ten n) j 0
      byte =
          let z : 10 - i ≡ 9 - j = omega arith in
          p ∙ ap (λ (x : ℕ). place_byte x j) (e ∙ ap (λ (k : ℕ). n / 10 ^ k) z) ∙ place_is j (omega arith)

      rest : drop (j + 1) column ≡ drop (j + 1) (in_ten n)
      rest =
          let z : i ≡ j + 1 = omega arith in
          subst (λ (k : ℕ). drop k column ≡ drop k (in_ten n)) z q

-- a line, column by column
module _ (row line : List ℕ) (c : ℕ) where
  -- over any bytes of a number, of which in_ten is too long to write out
  written : (f : ℕ → List ℕ) (column : List ℕ) → c < length row → 10 * c + 10 ≤ length line → take (10 * c) line ≡ concat_map f (take c row)
      → column ≡ f (get_or row c 0) → length column ≡ 10 → take (10 * (c + 1)) (put_mid (10 * c) (10 * c + 10 - 10 * c) line column) ≡ concat_map f (take (c + 1) row)
  written f column h g e q l =
      let s : 10 * (c + 1) ≡ 10 * c + 10 = omega arith in
      rw (s, add-one, take-suc row c 0 h)
      (put_front (10 * c) (10 * c + 10) line column (omega arith) g (omega arith)
      ∙ cc (e, q, append-nil (f (get_or row c 0)))
      ∙ sym (concat_append f (take c row) (get_or row c 0 ∷ [])))

  pub number_written : (column : List ℕ) → c < length row → 10 * c + 10 ≤ length line → take (10 * c) line ≡ concat_map in_ten (take c row)
      → column ≡ in_ten (get_or row c 0) → take (10 * (c + 1)) (put_mid (10 * c) (10 * c + 10 - 10 * c) line column) ≡ concat_map in_ten (take (c + 1) row)
  number_written column h g e q = written in_ten column h g e q (ap length q)

  pub line_written : c ≤ 8 → 8 ≤ c → length row ≡ 8 → length line ≡ 81 → take (10 * c) line ≡ concat_map in_ten (take c row) → set line 80 10 ≡ line_of row
  unfolding line_of
  line_written h g l m e =
      set_split line 80 10 (omega arith)
      ∙ cc (front, drop_of_length-le line {i = 81} (omega arith))
    where
      front : take 80 line ≡ concat_map in_ten row
      front =
          let q : c ≡ 8 = omega arith in
          subst (λ (k : ℕ). take (10 * k) line ≡ concat_map in_ten (take k row)) q e ∙ ap (concat_map in_ten) (take_all 8 row (omega arith))

-- rows, one by one
pub row_number : (ws : List ℕ) (r : ℕ) → take (8 * r + 8 - 8 * r) (drop (8 * r) ws) ≡ row_at ws r
row_number ws r =
    let q : 8 * r + 8 - 8 * r ≡ 8 = omega arith in
    ap (λ (k : ℕ). take k (drop (8 * r) ws)) q

pub no_line : (ws : List ℕ) → [] ≡ lines_of ws 0
unfolding lines_of
no_line ws = refl

module _ (r : ℕ) (text line : List ℕ) (h : 81 * r + 81 ≤ length text) (l : length line ≡ length (take (81 * r + 81 - 81 * r) (drop (81 * r) text))) where
  size : length line ≡ 81 * r + 81 - 81 * r
  size = l ∙ mid_len (81 * r) (81 * r + 81) text h

  next : 81 * (r + 1) ≡ 81 * r + 81
  next = omega arith

  pub row_written_lem : (ws : List ℕ) → take (81 * r) text ≡ lines_of ws r → line ≡ line_of (row_at ws r)
      → take (81 * (r + 1)) (put_mid (81 * r) (81 * r + 81 - 81 * r) text line) ≡ lines_of ws (r + 1)
  unfolding lines_of
  row_written_lem ws e q =
      rw next (put_front (81 * r) (81 * r + 81) text line (omega arith) h size ∙ cc (e, q) ∙ sym (concat_more (λ k. line_of (row_at ws k)) r))

  pub rest_kept : (before : List ℕ) → drop (81 * r) text ≡ drop (81 * r) before
      → drop (81 * (r + 1)) (put_mid (81 * r) (81 * r + 81 - 81 * r) text line) ≡ drop (81 * (r + 1)) before
  rest_kept before e =
      rw next (drop_put (81 * r) (81 * r + 81) text line (omega arith) h size ∙ sym (drop-drop 81 (81 * r) text) ∙ ap (drop 81) e ∙ drop-drop 81 (81 * r) before)

pub lines_text : (ws : List ℕ) → lines_of ws (rows ws) ≡ text_of (rows_in ws)
unfolding lines_of line_of
lines_text ws = sym (concat_map_lem (λ r. concat_map in_ten r ++ 10 ∷ []) (row_at ws) (from 0 (rows ws)))

module _ (ws text : List ℕ) where
  pub none_fit : length text / 81 < length ws / 8 → (0 ≡ bytes_written ws (length text)) × (text ≡ text_written ws text)
  unfolding bytes_written text_written
  none_fit h =
      let e : leb (81 * rows ws) (length text) ≡ false = lt-leb (81 * rows ws) (length text) (omega arith) in
      (rw e, rw e)

  pub text_left : (r : ℕ) (after : List ℕ) → length ws / 8 ≤ length text / 81 → r ≡ length ws / 8 → take (81 * r) after ≡ lines_of ws r → drop (81 * r) after ≡ drop (81 * r) text
      → (81 * (length ws / 8) ≡ bytes_written ws (length text)) × (after ≡ text_written ws text)
  unfolding bytes_written text_written
  text_left r after h q e g =
      let b : leb (81 * rows ws) (length text) ≡ true = le-leb (81 * rows ws) (length text) (omega arith) in
      (rw b, rw b (sym (take-append-drop (81 * r) after) ∙ cc (e, g, q, lines_text ws)))
