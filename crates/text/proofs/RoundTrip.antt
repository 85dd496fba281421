-- Printing what was read gives the text, so each sheet has one text; and the promises of both routines. Assumes nothing.
use mathlib.Core.Path.{◌≡◌, refl, sym, ap, ◌∙◌, subst}
use mathlib.Core.Logic.{◌⊎◌, inl, inr}
use mathlib.Core.Bool.{Bool, not, ◌&&◌}
use mathlib.Core.List.{List, [], ◌∷◌, ◌++◌, map}
use Prim.Native.Nat.{ℕ, suc, ◌+◌, ◌*◌, ◌-◌, ◌/◌, ◌%◌, ◌^◌, ◌<◌, ◌≤◌}
use native.Mathlib.Omega.{arith}
use native.Mathlib.Decide.{dec_le}
use native.Mathlib.Nat.{div-eq_of_lt, one-le-pow, pow-le-pow_right}
use lib.Dec.{T, leb, ltb, eqb, leb→le, ltb→lt, eqb→eq, le→leb, lt→ltb, T_not, not_T}
use lib.ListN.{length, get_or, take, drop, length-map, length-take, length-drop}
use lib.Seq.{take-suc, take_at, take_all}
use Rattle.definition.specs.Basics.{all, from, concat_map}
use Rattle.definition.specs.Sheet.{rows}
use Rattle.definition.specs.Text.{is_digit, trimmed, digits, value, is_shortest, is_number, lines, is_sheet_text, sheet_of, digit_byte, in_ten, text_of}
use Rattle.definition.proofs.Lists.Tests.{T_and, and_both, and_left, and_right, or_cases, decide, eqb_of, if_true}
use Rattle.definition.proofs.Lists.Counts.{all_below}
use Rattle.text.specs.Lines.{line_at, column_at, is_line, numbers_of, numbers_in, line_of}
use Rattle.text.specs.Reading.{lines_read, words_read, SheetRead}
use Rattle.text.specs.Writing.{rows_in, bytes_written, text_written, RowsWritten}
use Rattle.text.proofs.Lists.{concat_alike, concat_map_lem, parts_joined, map_at, from_length}
use Rattle.text.proofs.Reading.{trimmed_space, trimmed_other, text_lines, text_numbers}
use Rattle.text.proofs.Writing.{quotient_zero, quotient_more}
use Rattle.text.proofs.Laws.{bytes_from, space_at, digit_is, later, text_length, read_back, lines_good, sheet_words, rows_fit_lem, rows_refused, rows_of_joined}

digit_range : (x : ℕ) → T (is_digit x) → (48 ≤ x) × (x ≤ 57)
digit_range x h = (leb→le 48 x (and_left (leb 48 x) (leb x 57) h), leb→le x 57 (and_right (leb 48 x) (leb x 57) h))

-- the number that digits write after v begins with v
digits_after : (v : ℕ) (ds : List ℕ) → T (all is_digit ds) → digits v ds / 10 ^ length ds ≡ v
digits_after v [] h = omega arith
digits_after v (x ∷ xs) h =
    let r = digit_range x (and_left (is_digit x) (all is_digit xs) h) in
    let up = digits_after (10 * v + (x - 48)) xs (and_right (is_digit x) (all is_digit xs) h) in
    omega (arith, r, up, quotient_more (digits (10 * v + (x - 48)) xs) (length xs))

-- its bytes are the digits, where none is a space
digit_bytes : (v : ℕ) (ds : List ℕ) → T (all is_digit ds) → ((j : ℕ) → j < length ds → T (not (space_at (digits v ds) j))) → bytes_from (digits v ds) (length ds) ≡ ds
unfolding bytes_from
digit_bytes v [] h n = refl
digit_bytes v (x ∷ xs) h n =
    let m : ℕ = digits v (x ∷ xs) in
    let r = digit_range x (and_left (is_digit x) (all is_digit xs) h) in
    let later_digits = and_right (is_digit x) (all is_digit xs) h in
    let up = digits_after (10 * v + (x - 48)) xs later_digits in
    let d : digit_byte m (length xs) ≡ x = omega (arith, r, up, digit_is m (length xs) (n (length xs) (omega arith))) in
    let rest : bytes_from m (length xs) ≡ xs = digit_bytes (10 * v + (x - 48)) xs later_digits (λ j l. n j (omega arith)) in
    cc (d, rest)

-- the first byte of a shortest form is no space
no_space : (x : ℕ) (xs : List ℕ) → T (all is_digit (x ∷ xs)) → T (is_shortest (x ∷ xs)) → T (not (space_at (digits 0 (x ∷ xs)) (length xs)))
no_space x xs h s = not_T (space_at m k) (λ t. go (or_cases (eqb (suc k) 1) (not (eqb x 48)) s) t)
  where
    m : ℕ
    m = digits 0 (x ∷ xs)

    k : ℕ
    k = length xs

    go : T (eqb (suc k) 1) ⊎ T (not (eqb x 48)) → T (space_at m k) → ⊥
    go (inl e) t = omega (arith, eqb→eq (suc k) 1 e, leb→le 1 k (and_left (leb 1 k) (ltb m (10 ^ k)) t))
    go (inr e) t =
        let r = digit_range x (and_left (is_digit x) (all is_digit xs) h) in
        let up : m / 10 ^ k ≡ 10 * 0 + (x - 48) = digits_after (10 * 0 + (x - 48)) xs (and_right (is_digit x) (all is_digit xs) h) in
        let z : m / 10 ^ k ≡ 0 = div-eq_of_lt (ltb→lt m (10 ^ k) (and_right (leb 1 k) (ltb m (10 ^ k)) t)) in
        T_not (eqb x 48) e (eqb_of x 48 (omega (arith, r, up, z)))

-- digits in shortest form are the bytes of the number that they write
shortest_bytes : (ds : List ℕ) → T (leb 1 (length ds)) → T (all is_digit ds) → T (is_shortest ds) → bytes_from (digits 0 ds) (length ds) ≡ ds
shortest_bytes [] n h s = absurd n
shortest_bytes (x ∷ xs) n h s =
    digit_bytes 0 (x ∷ xs) h (λ j l. later (digits 0 (x ∷ xs)) (length xs) j (no_space x xs h s) (omega arith))

-- without its leading spaces a column is no longer
trimmed_short : (xs : List ℕ) → length (trimmed xs) ≤ length xs
trimmed_short [] = omega arith
trimmed_short (x ∷ xs) = go (decide (eqb x 32)) (trimmed_short xs)
  where
    go : T (eqb x 32) ⊎ T (not (eqb x 32)) → length (trimmed xs) ≤ length xs → length (trimmed (x ∷ xs)) ≤ suc (length xs)
    go (inl s) up = rw (trimmed_space x xs (eqb→eq x 32 s)) (omega arith)
    go (inr s) up = rw (trimmed_other x xs (λ e. T_not (eqb x 32) s (eqb_of x 32 e))) (omega arith)

-- bytes after spaces are those of m, if they are without the spaces
module _ (m : ℕ) where
  space_is : (k : ℕ) → 1 ≤ k → m < 10 ^ k → digit_byte m k ≡ 32
  space_is k l h = if_true (space_at m k) 32 (48 + m / 10 ^ k % 10) (and_both (leb 1 k) (ltb m (10 ^ k)) (le→leb 1 k l) (lt→ltb m (10 ^ k) h))

  abbrev Shown : List ℕ → Type 0
  Shown ds = (1 ≤ length ds) × (m < 10 ^ length ds) × (bytes_from m (length ds) ≡ ds)

  padded_bytes : (xs : List ℕ) → Shown (trimmed xs) → bytes_from m (length xs) ≡ xs
  unfolding bytes_from
  padded_bytes [] w = refl
  padded_bytes (x ∷ xs) w = go (decide (eqb x 32)) (padded_bytes xs)
    where
      go : T (eqb x 32) ⊎ T (not (eqb x 32)) → (Shown (trimmed xs) → bytes_from m (length xs) ≡ xs) → bytes_from m (suc (length xs)) ≡ x ∷ xs
      go (inl s) up =
          let k : ℕ = length xs in
          let v : Shown (trimmed xs) = subst Shown (trimmed_space x xs (eqb→eq x 32 s)) w in
          let p : 10 ^ length (trimmed xs) ≤ 10 ^ k = pow-le-pow_right {n = 10} (omega arith) {i = length (trimmed xs)} {j = k} (trimmed_short xs) in
          cc (space_is k (omega (arith, v.0, trimmed_short xs)) (omega (arith, v.1, p)), eqb→eq x 32 s, up v)
      go (inr s) up = (subst Shown (trimmed_other x xs (λ e. T_not (eqb x 32) s (eqb_of x 32 e))) w).2

-- a column that is a number is that number in ten columns
number_again : (xs : List ℕ) → length xs ≡ 10 → T (is_number xs) → in_ten (value xs) ≡ xs
unfolding bytes_from
number_again xs l h = ap (bytes_from m) (sym l) ∙ padded_bytes m xs (leb→le 1 (length ds) some, below, shortest_bytes ds some alone shortest)
  where
    ds : List ℕ
    ds = trimmed xs

    m : ℕ
    m = digits 0 ds

    form : T (leb 1 (length ds) && all is_digit ds && is_shortest ds)
    form = and_left (leb 1 (length ds) && all is_digit ds && is_shortest ds) (leb m 4294967295) h

    shortest : T (is_shortest ds)
    shortest = and_right (leb 1 (length ds) && all is_digit ds) (is_shortest ds) form

    some : T (leb 1 (length ds))
    some = and_left (leb 1 (length ds)) (all is_digit ds) (and_left (leb 1 (length ds) && all is_digit ds) (is_shortest ds) form)

    alone : T (all is_digit ds)
    alone = and_right (leb 1 (length ds)) (all is_digit ds) (and_left (leb 1 (length ds) && all is_digit ds) (is_shortest ds) form)

    below : m < 10 ^ length ds
    below =
        ltb→lt m (10 ^ length ds)
        (subst T (quotient_zero m (10 ^ length ds) (one-le-pow (length ds) 10 (omega arith))) (eqb_of (m / 10 ^ length ds) 0 (digits_after 0 ds alone)))

-- over any bytes of a number, of which in_ten is too long to write out
line_joined : (f : ℕ → List ℕ) (l : List ℕ) → length l ≡ 81 → get_or l 80 0 ≡ 10 → ((c : ℕ) → c < 8 → f (value (column_at l c)) ≡ column_at l c)
    → concat_map f (map (λ c. value (column_at l c)) (from 0 8)) ++ 10 ∷ [] ≡ l
line_joined f l n e h =
    ap (λ (xs : List ℕ). xs ++ 10 ∷ [])
    (concat_map_lem f (λ c. value (column_at l c)) (from 0 8) ∙ concat_alike (λ c. f (value (column_at l c))) (column_at l) 0 8 (λ c k. h c (omega arith)) ∙ parts_joined 10 l 8)
    ∙ ap (λ (x : ℕ). take 80 l ++ x ∷ []) (sym e) ∙ sym (take-suc l 80 0 (omega arith)) ∙ take_all 81 l (omega arith)

line_again : (l : List ℕ) → length l ≡ 81 → T (is_line l) → line_of (numbers_of l) ≡ l
unfolding line_of numbers_of is_line
line_again l n h =
    line_joined in_ten l n (eqb→eq (get_or l 80 0) 10 (and_right columns (eqb (get_or l 80 0) 10) h))
    (λ c k.
    number_again (column_at l c) (simp (length-take, length-drop) (omega arith))
    (all_below (λ i. is_number (column_at l i)) 8 (and_left columns (eqb (get_or l 80 0) 10) h) c k))
  where
    columns : Bool
    columns = all (λ c. is_number (column_at l c)) (from 0 8)

-- Printing what was read gives the text back.
module _ (t : List ℕ) (h : T (is_sheet_text t)) where
  parts : T (eqb (81 * lines t) (length t)) × T (all (λ r. is_line (line_at t r)) (from 0 (lines t)))
  parts = T_and (eqb (81 * lines t) (length t)) (all (λ r. is_line (line_at t r)) (from 0 (lines t))) (subst T (text_lines t) h)

  whole : 81 * lines t ≡ length t
  whole = eqb→eq (81 * lines t) (length t) parts.0

  abbrev row : ℕ → List ℕ
  row r = numbers_of (line_at t r)

  abbrev sheet_rows : List (List ℕ)
  sheet_rows = map row (from 0 (lines t))

  sheet_joined : sheet_of t ≡ concat_map (λ r. r) sheet_rows
  unfolding numbers_in
  sheet_joined = text_numbers t h ∙ sym (concat_map_lem (λ r. r) row (from 0 (lines t)))

  row_size : (i : ℕ) → i < length sheet_rows → length (get_or sheet_rows i []) ≡ 8
  unfolding numbers_of
  row_size i l = ap length (map_at row [] (lines t) i (omega (arith, length-map (from 0 (lines t)) row, from_length 0 (lines t))))

  lines_again : text_of sheet_rows ≡ t
  unfolding line_of
  lines_again =
      concat_map_lem line_of row (from 0 (lines t))
      ∙ concat_alike (λ r. line_of (row r)) (line_at t) 0 (lines t)
      (λ r l. line_again (line_at t r) (simp (length-take, length-drop) (omega (arith, whole))) (all_below (λ i. is_line (line_at t i)) (lines t) parts.1 r (omega arith)))
      ∙ parts_joined 81 t (lines t) ∙ take_all (81 * lines t) t (omega (arith, whole))

  pub print_back : text_of (rows_in (sheet_of t)) ≡ t
  print_back = ap (λ (s : List ℕ). text_of (rows_in s)) sheet_joined ∙ ap text_of (rows_of_joined sheet_rows row_size) ∙ lines_again

-- Each sheet has one text.
pub one_text : (t u : List ℕ) → T (is_sheet_text t) → T (is_sheet_text u) → sheet_of t ≡ sheet_of u → t ≡ u
one_text t u g h e = sym (print_back t g) ∙ ap (λ (s : List ℕ). text_of (rows_in s)) e ∙ print_back u h

-- What the routines promise, from the result and the buffer that they leave.
pub sheet_read : (t : List ℕ) (lent n : ℕ) (after : List ℕ) → (n ≡ lines_read t lent) × (after ≡ words_read t lent) → SheetRead t lent n after
sheet_read t lent n after e = record { count = e.0; words = e.1; printed = again }
  where
    again : 1 ≤ n → text_of (rows_in (take (8 * n) after)) ≡ t
    again h =
        let some : 1 ≤ lines_read t lent = subst (λ (k : ℕ). 1 ≤ k) e.0 h in
        let q : take (8 * n) after ≡ sheet_of t = cc (e.0, e.1, sheet_words t lent some) in
        ap (λ (ws : List ℕ). text_of (rows_in ws)) q ∙ print_back t (lines_good t lent some)

pub rows_written : (ws before : List ℕ) (r : ℕ) (after : List ℕ) → ((i : ℕ) → i < length ws → get_or ws i 0 < 2 ^ 32)
    → (r ≡ bytes_written ws (length before)) × (after ≡ text_written ws before) → RowsWritten ws before r after
rows_written ws before r after small e = record { count = e.0; text = e.1; read = go (dec_le (81 * rows ws) (length before)) }
  where
    written : 81 * rows ws ≤ length before → take r after ≡ text_of (rows_in ws)
    written l =
        let f = rows_fit_lem ws before l in
        cc (e.0, e.1, f.0, f.1, take_at (text_of (rows_in ws)) (drop (81 * rows ws) before) (81 * rows ws) (text_length ws small))

    go : Dec (81 * rows ws ≤ length before) → 1 ≤ r → sheet_of (take r after) ≡ take (8 * rows ws) ws
    go (yes l) h = ap sheet_of (written l) ∙ (read_back ws small).2
    go (no l) h = absurd (omega (arith, e.0, (rows_refused ws before (omega arith)).0))
