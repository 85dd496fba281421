-- Reading gives back what was written; and what callers cite of the contracts. Assumes nothing.
use mathlib.Core.Path.{◌≡◌, refl, sym, ap, ◌∙◌, subst}
use mathlib.Core.Logic.{◌⊎◌, inl, inr}
use mathlib.Core.Bool.{Bool, true, false, not, ◌&&◌, ◌||◌}
use mathlib.Core.List.{List, [], ◌∷◌, ◌++◌, map, append-nil}
use Prim.Native.Nat.{ℕ, zero, suc, ◌+◌, ◌*◌, ◌-◌, ◌/◌, ◌%◌, ◌^◌, ◌<◌, ◌≤◌}
use native.Mathlib.Omega.{arith}
use native.Mathlib.Nat.{div-eq_of_lt, one-le-pow, pow-le-pow_right}
use native.Mathlib.Decide.{dec_le}
use borrow.Author.Tests.{eq-eqb, le-leb, lt-leb}
use lib.Dec.{T, leb, ltb, eqb, leb→le, ltb→lt, eqb→eq, le→leb, lt→ltb, T_not, not_T}
use lib.ListN.{length, get_or, take, drop, replicate, length-append, length-map, length-take, length-drop}
use lib.Seq.{take_at, ext_get_or, get_or_at}
use Rattle.definition.specs.Basics.{when◌then◌else◌, all, from, concat_map}
use Rattle.definition.specs.Sheet.{rows}
use Rattle.definition.specs.Text.{is_digit, trimmed, digits, value, is_shortest, is_number, lines, is_sheet_text, sheet_of, digit_byte, in_ten, text_of}
use Rattle.definition.proofs.Lists.Tests.{and_both, and_left, and_right, or_left, or_right, decide, eqb_of, if_true, if_false}
use Rattle.definition.proofs.Format.Passes.{all_of}
use Rattle.definition.specs.Outcome.{rows_fit}
use Rattle.text.specs.Lines.{line_at, column_at, is_line, numbers_of, numbers_in, line_of}
use Rattle.text.specs.Reading.{is_readable, lines_read, words_read}
use Rattle.text.specs.Writing.{row_at, rows_in, bytes_written, text_written}
use Rattle.text.proofs.Lists.{element_of_part, map_alike, concat_alike, map_at, from_length, parts_joined, pieces_length, piece_at}
use Rattle.text.proofs.Reading.{readable, trimmed_space, trimmed_other, text_lines, sheet_is, text_numbers}
use Rattle.text.proofs.Writing.{quotient_zero, quotient_more}

-- the bytes of m at the weights below 10 ^ k
unfoldable pub bytes_from : ℕ → ℕ → List ℕ
bytes_from m zero = []
bytes_from m (suc k) = digit_byte m k ∷ bytes_from m k

bytes_length : (m k : ℕ) → length (bytes_from m k) ≡ k
unfolding bytes_from
bytes_length m zero = refl
bytes_length m (suc k) = ap suc (bytes_length m k)

-- digits that write m, without a leading zero
record Writes (m : ℕ) (xs : List ℕ) : Type 0 where
  number : digits 0 xs ≡ m
  some : T (leb 1 (length xs))
  alone : T (all is_digit xs)
  shortest : T (is_shortest xs)

module _ (m : ℕ) where
  abbrev pub space_at : ℕ → Bool
  space_at k = leb 1 k && ltb m (10 ^ k)

  pub digit_is : (k : ℕ) → T (not (space_at k)) → digit_byte m k ≡ 48 + m / 10 ^ k % 10
  digit_is k h = if_false (space_at k) 32 (48 + m / 10 ^ k % 10) h

  digits_of : (k : ℕ) → ((j : ℕ) → j < k → T (not (space_at j))) → (digits (m / 10 ^ k) (bytes_from m k) ≡ m) × T (all is_digit (bytes_from m k))
  unfolding bytes_from
  digits_of zero h = (omega arith, tt)
  digits_of (suc k) h =
      let d : digit_byte m k ≡ 48 + m / 10 ^ k % 10 = digit_is k (h k (omega arith)) in
      let up = digits_of k (λ j l. h j (omega arith)) in
      let q : 10 * (m / 10 ^ suc k) + (digit_byte m k - 48) ≡ m / 10 ^ k = omega (arith, quotient_more m k) in (
        ap (λ (v : ℕ). digits v (bytes_from m k)) q ∙ up.0,
        and_both (is_digit (digit_byte m k)) (all is_digit (bytes_from m k))
            (and_both (leb 48 (digit_byte m k)) (leb (digit_byte m k) 57) (le→leb 48 (digit_byte m k) (omega arith)) (le→leb (digit_byte m k) 57 (omega arith))) up.1,
      )

  -- no space after the first digit
  pub later : (k j : ℕ) → T (not (space_at k)) → j ≤ k → T (not (space_at j))
  later k j h l =
      not_T (space_at j)
      (λ s.
      let a : 1 ≤ j = leb→le 1 j (and_left (leb 1 j) (ltb m (10 ^ j)) s) in
      let b : m < 10 ^ j = ltb→lt m (10 ^ j) (and_right (leb 1 j) (ltb m (10 ^ j)) s) in
      let p : 10 ^ j ≤ 10 ^ k = pow-le-pow_right {n = 10} (omega arith) {i = j} {j = k} l in
      T_not (space_at k) h (and_both (leb 1 k) (ltb m (10 ^ k)) (le→leb 1 k (omega arith)) (lt→ltb m (10 ^ k) (omega arith))))

  -- the first digit is not 0, or it is the only one
  not_zero : (k : ℕ) → m < 10 ^ suc k → T (not (space_at k)) → T (is_shortest (bytes_from m (suc k)))
  unfolding bytes_from
  not_zero k h n = go (dec_le 1 k)
    where
      one : Bool
      one = eqb (suc (length (bytes_from m k))) 1

      space : 1 ≤ k → digit_byte m k ≡ 48 → T (space_at k)
      space l e =
          let q : m / 10 ^ k ≡ 0 = omega (arith, digit_is k n, quotient_more m k, div-eq_of_lt h) in
          and_both (leb 1 k) (ltb m (10 ^ k)) (le→leb 1 k l) (subst T (quotient_zero m (10 ^ k) (one-le-pow k 10 (omega arith))) (eqb_of (m / 10 ^ k) 0 q))

      go : Dec (1 ≤ k) → T (one || not (eqb (digit_byte m k) 48))
      go (yes l) = or_right one (not (eqb (digit_byte m k) 48)) (not_T (eqb (digit_byte m k) 48) (λ e. T_not (space_at k) n (space l (eqb→eq (digit_byte m k) 48 e))))
      go (no l) = or_left one (not (eqb (digit_byte m k) 48)) (eqb_of (suc (length (bytes_from m k))) 1 (omega (arith, bytes_length m k)))

  first_digit : (k : ℕ) → m < 10 ^ suc k → T (not (space_at k)) → Writes m (trimmed (bytes_from m (suc k)))
  unfolding bytes_from
  first_digit k h n =
      let d : digit_byte m k ≡ 48 + m / 10 ^ k % 10 = digit_is k n in
      let r = digits_of (suc k) (λ j l. later k j n (omega arith)) in
      let z : m / 10 ^ suc k ≡ 0 = div-eq_of_lt h in
      subst (Writes m) (sym (trimmed_other (digit_byte m k) (bytes_from m k) (λ e. omega arith)))
      (record {
        number = subst (λ (v : ℕ). digits v (bytes_from m (suc k)) ≡ m) z r.0;
        some = le→leb 1 (suc (length (bytes_from m k))) (omega arith);
        alone = r.1;
        shortest = not_zero k h n;
      })

  number_of_lem : (k : ℕ) → m < 10 ^ suc k → Writes m (trimmed (bytes_from m (suc k)))
  unfolding bytes_from
  number_of_lem zero h = first_digit zero h tt
  number_of_lem (suc k) h = go (decide (space_at (suc k))) (number_of_lem k)
    where
      go : T (space_at (suc k)) ⊎ T (not (space_at (suc k))) → (m < 10 ^ suc k → Writes m (trimmed (bytes_from m (suc k)))) → Writes m (trimmed (bytes_from m (suc (suc k))))
      go (inl s) up =
          subst (Writes m) (sym (trimmed_space (digit_byte m (suc k)) (bytes_from m (suc k)) (if_true (space_at (suc k)) 32 (48 + m / 10 ^ suc k % 10) s)))
          (up (ltb→lt m (10 ^ suc k) (and_right (leb 1 (suc k)) (ltb m (10 ^ suc k)) s)))
      go (inr n) up = first_digit (suc k) h n

-- a number in ten columns is the number
module _ (m : ℕ) (small : m < 2 ^ 32) where
  unpadded : Writes m (trimmed (in_ten m))
  unfolding bytes_from
  unpadded = number_of_lem m 9 (omega arith)

  value_written : value (in_ten m) ≡ m
  value_written = unpadded.number

  number_written : T (is_number (in_ten m))
  number_written =
      let e : value (in_ten m) ≡ m = value_written in
      let ds = trimmed (in_ten m) in
      and_both (leb 1 (length ds) && all is_digit ds && is_shortest ds) (leb (value (in_ten m)) 4294967295)
      (and_both (leb 1 (length ds) && all is_digit ds) (is_shortest ds) (and_both (leb 1 (length ds)) (all is_digit ds) unpadded.some unpadded.alone) unpadded.shortest)
      (le→leb (value (in_ten m)) 4294967295 (omega arith))

-- a row as a line is a line of its numbers
module _ (row : List ℕ) (eight : length row ≡ 8) where
  columns_length : length (concat_map in_ten row) ≡ 80
  columns_length = pieces_length 10 in_ten 0 row (λ i l. refl) ∙ omega arith

  pub line_length : length (line_of row) ≡ 81
  unfolding line_of
  line_length = length-append (concat_map in_ten row) (10 ∷ []) ∙ omega (arith, columns_length)

  column_at_lem : (c : ℕ) → c < 8 → column_at (line_of row) c ≡ in_ten (get_or row c 0)
  unfolding line_of
  column_at_lem c l = piece_at 10 in_ten 0 row (10 ∷ []) c (λ i l. refl) (omega arith)

  newline_at : get_or (line_of row) 80 0 ≡ 10
  unfolding line_of
  newline_at = get_or_at (concat_map in_ten row) 10 [] 0 80 columns_length

  module _ (small : (c : ℕ) → c < 8 → get_or row c 0 < 2 ^ 32) where
    is_line_lem : T (is_line (line_of row))
    unfolding is_line
    is_line_lem =
        and_both (all (λ c. is_number (column_at (line_of row) c)) (from 0 8)) (eqb (get_or (line_of row) 80 0) 10)
        (all_of (λ c. is_number (column_at (line_of row) c)) 0 8
        (λ c a b. subst (λ (xs : List ℕ). T (is_number xs)) (sym (column_at_lem c (omega arith))) (number_written (get_or row c 0) (small c (omega arith)))))
        (eqb_of (get_or (line_of row) 80 0) 10 newline_at)

    numbers_back : numbers_of (line_of row) ≡ row
    unfolding numbers_of
    numbers_back =
        map_alike (λ c. value (column_at (line_of row) c)) (λ c. get_or row c 0) 0 8 (λ c l. ap value (column_at_lem c (omega arith)) ∙ value_written (get_or row c 0) (small c (omega arith)))
        ∙ ext_get_or 0 (map (λ c. get_or row c 0) (from 0 8)) row (sym eight) (λ i l. map_at (λ c. get_or row c 0) 0 8 i l)

-- the whole rows of words
module _ (ws : List ℕ) (small : (i : ℕ) → i < length ws → get_or ws i 0 < 2 ^ 32) where
  abbrev text : List ℕ
  text = text_of (rows_in ws)

  row_length : (r : ℕ) → r < rows ws → length (row_at ws r) ≡ 8
  row_length r h = simp (length-take, length-drop) (omega arith)

  row_small : (r : ℕ) → r < rows ws → (c : ℕ) → c < 8 → get_or (row_at ws r) c 0 < 2 ^ 32
  row_small r h c l = rw (element_of_part c 8 (8 * r) ws 0 l) (small (8 * r + c) (omega arith))

  rows_length : length (rows_in ws) ≡ rows ws
  rows_length = length-map (from 0 (rows ws)) (row_at ws) ∙ from_length 0 (rows ws)

  row_at_lem : (r : ℕ) → r < rows ws → get_or (rows_in ws) r [] ≡ row_at ws r
  row_at_lem r h = map_at (row_at ws) [] (rows ws) r h

  line_size : (r : ℕ) → r < length (rows_in ws) → length (line_of (get_or (rows_in ws) r [])) ≡ 81
  line_size r h =
      let l : r < rows ws = omega (arith, rows_length) in
      rw (row_at_lem r l) (line_length (row_at ws r) (row_length r l))

  text_is : concat_map line_of (rows_in ws) ≡ text
  unfolding line_of
  text_is = refl

  pub text_length : length text ≡ 81 * rows ws
  text_length = ap length (sym text_is) ∙ pieces_length 81 line_of [] (rows_in ws) line_size ∙ ap (λ (k : ℕ). 81 * k) rows_length

  line_at_lem : (r : ℕ) → r < rows ws → line_at text r ≡ line_of (row_at ws r)
  line_at_lem r h =
      ap (λ (t : List ℕ). line_at t r) (sym text_is ∙ sym (append-nil (concat_map line_of (rows_in ws))))
      ∙ piece_at 81 line_of [] (rows_in ws) [] r line_size (omega (arith, rows_length))
      ∙ ap line_of (row_at_lem r h)

  lines_written : lines text ≡ rows ws
  lines_written = omega (arith, text_length)

  text_written_lem : T (is_sheet_text text)
  text_written_lem =
      subst T (sym (text_lines text))
      (and_both (eqb (81 * lines text) (length text)) (all (λ r. is_line (line_at text r)) (from 0 (lines text)))
      (eqb_of (81 * lines text) (length text) (omega (arith, text_length)))
      (all_of (λ r. is_line (line_at text r)) 0 (lines text)
      (λ r a b.
      let l : r < rows ws = omega (arith, lines_written) in
      subst (λ (xs : List ℕ). T (is_line xs)) (sym (line_at_lem r l)) (is_line_lem (row_at ws r) (row_length r l) (row_small r l)))))

  words_back : sheet_of text ≡ take (8 * rows ws) ws
  unfolding numbers_in
  words_back =
      text_numbers text text_written_lem
      ∙ ap (λ (k : ℕ). numbers_in text k) lines_written
      ∙ concat_alike (λ r. numbers_of (line_at text r)) (row_at ws) 0 (rows ws)
      (λ r h.
      let l : r < rows ws = omega arith in
      ap numbers_of (line_at_lem r l) ∙ numbers_back (row_at ws r) (row_length r l) (row_small r l))
      ∙ parts_joined 8 ws (rows ws)

  -- Reading what was written gives the rows back.
  pub read_back : T (is_sheet_text (text_of (rows_in ws))) × (lines (text_of (rows_in ws)) ≡ rows ws) × (sheet_of (text_of (rows_in ws)) ≡ take (8 * rows ws) ws)
  read_back = (text_written_lem, lines_written, words_back)

numbers_length : (t : List ℕ) (n : ℕ) → length (numbers_in t n) ≡ 8 * n
unfolding numbers_in numbers_of
numbers_length t n = pieces_length 8 (λ r. numbers_of (line_at t r)) 0 (from 0 n) (λ i l. refl) ∙ ap (λ (k : ℕ). 8 * k) (from_length 0 n)

and_true : (x : Bool) → (x && true) ≡ x
and_true true = refl
and_true false = refl

and_false : (x : Bool) → (x && false) ≡ false
and_false true = refl
and_false false = refl

-- What was read is the sheet, and question 1 asks whether a line was.
module _ (t : List ℕ) (lent : ℕ) where
  pub lines_good : 1 ≤ lines_read t lent → T (is_sheet_text t)
  unfolding lines_read
  lines_good = go (is_readable t lent) (readable t lent)
    where
      go : (b : Bool) → (T b → T (is_sheet_text t)) → 1 ≤ (when b then lines t else 0) → T (is_sheet_text t)
      go true f h = f tt
      go false f h = absurd (omega arith)

  pub sheet_words : 1 ≤ lines_read t lent → take (8 * lines_read t lent) (words_read t lent) ≡ sheet_of t
  unfolding lines_read words_read
  sheet_words = go (is_readable t lent) (readable t lent)
    where
      go : (b : Bool) → (T b → T (is_sheet_text t)) → 1 ≤ (when b then lines t else 0)
          → take (8 * (when b then lines t else 0)) (when b then sheet_of t ++ replicate (lent - 8 * lines t) 0 else replicate lent 0) ≡ sheet_of t
      go true f h = take_at (sheet_of t) (replicate (lent - 8 * lines t) 0) (8 * lines t) (ap length (text_numbers t (f tt)) ∙ numbers_length t (lines t))
      go false f h = absurd (omega arith)

  pub rows_read : 16384 ≤ lent → rows_fit (sheet_of t) ≡ leb 1 (lines_read t lent)
  unfolding lines_read is_readable
  rows_read h = ap rows_fit (sheet_is t) ∙ asked (is_sheet_text t) (numbers_in t (lines t)) (lines t) (numbers_length t (lines t))
    where
      asked : (b : Bool) (s : List ℕ) (n : ℕ) → length s ≡ 8 * n → rows_fit (when b then s else []) ≡ leb 1 (when b && leb n 2048 && leb (8 * n) lent then n else 0)
      asked true s n e =
          let q : length s / 8 ≡ n = omega arith in
          rw (eq-eqb (8 * (length s / 8)) (length s) (omega arith), q) (go (dec_le n 2048))
        where
          go : Dec (n ≤ 2048) → (leb 1 n && leb n 2048) ≡ leb 1 (when leb n 2048 && leb (8 * n) lent then n else 0)
          go (yes l) = rw (le-leb n 2048 l, le-leb (8 * n) lent (omega arith)) (and_true (leb 1 n))
          go (no l) = rw (lt-leb n 2048 (omega arith)) (and_false (leb 1 n))
      asked false s n e = refl

-- What was written, where it fits and where it does not.
module _ (ws t : List ℕ) where
  pub rows_fit_lem : 81 * rows ws ≤ length t → (bytes_written ws (length t) ≡ 81 * rows ws) × (text_written ws t ≡ text_of (rows_in ws) ++ drop (81 * rows ws) t)
  unfolding bytes_written text_written
  rows_fit_lem h = (rw (le-leb (81 * rows ws) (length t) h), rw (le-leb (81 * rows ws) (length t) h))

  pub rows_refused : length t < 81 * rows ws → (bytes_written ws (length t) ≡ 0) × (text_written ws t ≡ t)
  unfolding bytes_written text_written
  rows_refused h = (rw (lt-leb (81 * rows ws) (length t) h), rw (lt-leb (81 * rows ws) (length t) h))

-- The rows of joined rows of eight.
pub rows_of_joined : (rs : List (List ℕ)) → ((i : ℕ) → i < length rs → length (get_or rs i []) ≡ 8) → rows_in (concat_map (λ r. r) rs) ≡ rs
rows_of_joined rs h = ext_get_or [] (rows_in ws) rs same at_row
  where
    ws : List ℕ
    ws = concat_map (λ r. r) rs

    number : rows ws ≡ length rs
    number = omega (arith, pieces_length 8 (λ (r : List ℕ). r) [] rs h)

    same : length (rows_in ws) ≡ length rs
    same = length-map (from 0 (rows ws)) (row_at ws) ∙ from_length 0 (rows ws) ∙ number

    at_row : (i : ℕ) → i < length (rows_in ws) → get_or (rows_in ws) i [] ≡ get_or rs i []
    at_row i l =
        map_at (row_at ws) [] (rows ws) i (omega (arith, same, number))
        ∙ ap (λ (l : List ℕ). row_at l i) (sym (append-nil ws))
        ∙ piece_at 8 (λ (r : List ℕ). r) [] rs [] i h (omega (arith, same))
