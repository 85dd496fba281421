-- Steps of reading: spaces, digits, a number. Assumes nothing.
use mathlib.Core.Path.{◌≡◌, refl, sym, ap, ◌∙◌, subst}
use mathlib.Core.Logic.{◌⊎◌, inl, inr}
use mathlib.Core.Bool.{Bool, true, false, true≢false, ◌&&◌, ◌||◌}
use mathlib.Core.List.{List, [], ◌∷◌, ◌++◌, map, append-nil}
use Prim.Native.Nat.{ℕ, suc, ◌+◌, ◌*◌, ◌-◌, ◌/◌, ◌^◌, ◌<◌, ◌≤◌}
use native.Mathlib.Numerals.{add-one}
use native.Mathlib.Omega.{arith}
use Rattle.std.specs.Prelude.{Option, Some, None, Result, Ok, Err, OkIff}
use Rattle.std.specs.Result.{result_ok}
use native.Mathlib.Nat.{pow-suc, pow-le-pow_right, sub-zero}
use borrow.Author.Tests.{le-leb, lt-leb, eq-eqb, ne_eqb}
use borrow.Rule.Slice.PartMut.{put_mid}
use lib.Dec.{T, leb, eqb, leb→le, eqb→eq}
use lib.ListN.{length, get_or, take, drop, set, replicate, drop_of_length-le, length-drop}
use lib.Seq.{take_all}
use Rattle.definition.specs.Basics.{when◌then◌else◌, all, from}
use Rattle.definition.specs.Text.{is_digit, trimmed, digits, is_shortest, is_number, value, lines, column_text, is_sheet_text, sheet_of}
use Rattle.definition.proofs.Lists.Tests.{and_left, if_true}
use Rattle.definition.proofs.Format.Passes.{all_fails}
use Rattle.text.specs.Lines.{line_at, column_at, digits_from, number_in, is_line, numbers_of, good_lines, numbers_in, whole_lines}
use Rattle.text.specs.Reading.{is_readable, lines_read, words_read}
use Rattle.text.proofs.Lists.{drop_next, take_stored, put_front, part_of_part, element_of_part, all_alike, map_alike, concat_alike, all_more, map_more, concat_more}

-- spaces
pub trimmed_space : (x : ℕ) (xs : List ℕ) → x ≡ 32 → trimmed (x ∷ xs) ≡ trimmed xs
trimmed_space x xs e = rw (eq-eqb x 32 e)

pub trimmed_other : (x : ℕ) (xs : List ℕ) → (x ≡ 32 → ⊥) → trimmed (x ∷ xs) ≡ x ∷ xs
trimmed_other x xs n = rw (ne_eqb x 32 n)

or_true : (x : Bool) → (x || true) ≡ true
or_true true = refl
or_true false = refl

-- digits
module _ (l : List ℕ) (i : ℕ) where
  module _ (v : ℕ) where
    digit_cons : (x : ℕ) (xs : List ℕ) → 48 ≤ x → x ≤ 57 → digits_from v (x ∷ xs) ≡ digits_from (10 * v + (x - 48)) xs
    unfolding digits_from
    digit_cons x xs h k = rw (le-leb 48 x h, le-leb x 57 k)

    other_cons : (x : ℕ) (xs : List ℕ) → (x < 48) ⊎ (57 < x) → digits_from v (x ∷ xs) ≡ None
    unfolding digits_from
    other_cons x xs (inl l) = rw (lt-leb 48 x l)
    other_cons x xs (inr l) = rw (le-leb 48 x (omega arith), lt-leb x 57 l)

    pub digit_passed : i < length l → 48 ≤ get_or l i 0 → get_or l i 0 ≤ 57 → digits_from (10 * v + (get_or l i 0 - 48)) (drop (i + 1) l) ≡ digits_from v (drop i l)
    digit_passed h a b = sym (ap (digits_from v) (drop_next l i 0 h) ∙ digit_cons (get_or l i 0) (drop (i + 1) l) a b)

    pub digit_other : i < length l → (get_or l i 0 < 48) ⊎ (57 < get_or l i 0) → digits_from v (drop i l) ≡ None
    digit_other h a = ap (digits_from v) (drop_next l i 0 h) ∙ other_cons (get_or l i 0) (drop (i + 1) l) a

    pub digits_end : length l ≤ i → digits_from v (drop i l) ≡ Some v
    unfolding digits_from
    digits_end h = rw (drop_of_length-le l h)

-- ten digits are below 10 ^ 10
pub ten_power : (i : ℕ) → i < 10 → (10 ^ i ≤ 10 ^ 9) × (10 ^ (i + 1) ≡ 10 * 10 ^ i)
ten_power i h = (pow-le-pow_right {n = 10} (omega arith) {i = i} {j = 9} (omega arith), rw (add-one, pow-suc) (omega arith))

-- the number that the bytes after the spaces write
abbrev number_of : List ℕ → Option ℕ
number_of ds = when leb 1 (length ds) && all is_digit ds && is_shortest ds && leb (digits 0 ds) 4294967295 then Some (digits 0 ds) else None

-- it is none where a zero stands before another digit
zero_padded : (x : ℕ) (xs : List ℕ) → number_of (48 ∷ x ∷ xs) ≡ None
zero_padded x xs = rw (ne_eqb (suc (suc (length xs))) 1 (λ e. omega arith)) (go (leb 1 (suc (suc (length xs)))) (all is_digit (48 ∷ x ∷ xs)))
  where
    go : (n d : Bool) → (when n && d && false && leb (digits 0 (48 ∷ x ∷ xs)) 4294967295 then Some (digits 0 (48 ∷ x ∷ xs)) else None) ≡ None
    go true true = refl
    go true false = refl
    go false d = refl

-- it is what the digits write otherwise, if that is a word
not_padded : (ds : List ℕ) → false ≡ eqb (length ds) 0 → ((get_or ds 0 0 ≡ 48) × (length ds ≤ 1)) ⊎ (get_or ds 0 0 ≡ 48 → ⊥)
    → number_of ds ≡ (when all is_digit ds && leb (digits 0 ds) 4294967295 then Some (digits 0 ds) else None)
not_padded [] some n = absurd (true≢false (sym some))
not_padded (x ∷ xs) some n = rw (short n, le-leb 1 (suc (length xs)) (omega arith)) (go (all is_digit (x ∷ xs)) (leb (digits 0 (x ∷ xs)) 4294967295))
  where
    v : ℕ
    v = digits 0 (x ∷ xs)

    short : ((x ≡ 48) × (suc (length xs) ≤ 1)) ⊎ (x ≡ 48 → ⊥) → is_shortest (x ∷ xs) ≡ true
    short (inl l) = rw (eq-eqb (suc (length xs)) 1 (omega (arith, l.1)))
    short (inr n) = rw (ne_eqb x 48 n) (or_true (eqb (suc (length xs)) 1))

    go : (d b : Bool) → (when true && d && true && b then Some v else None) ≡ (when d && b then Some v else None)
    go true b = refl
    go false b = refl

-- a zero that no digit follows
zero_read : (ds : List ℕ) → false ≡ eqb (length ds) 0 → ((get_or ds 0 0 ≡ 48) × (length ds ≤ 1)) ⊎ (get_or ds 0 0 ≡ 48 → ⊥) → get_or ds 0 0 ≡ 48
    → digits_from 0 ds ≡ Some 0
unfolding digits_from
zero_read [] some n z = absurd (omega (arith, z))
zero_read (x ∷ []) some n z = rw z
zero_read (x ∷ y ∷ ys) some (inl h) z = absurd (omega (arith, h.1))
zero_read (x ∷ y ∷ ys) some (inr f) z = absurd (f z)

-- a column's number, by what follows its spaces
module _ (l : List ℕ) where
  pub number_missing : (ds : List ℕ) → ds ≡ trimmed l → true ≡ eqb (length ds) 0 → number_in l ≡ None
  unfolding number_in
  number_missing [] e n = ap number_of (sym e)
  number_missing (x ∷ xs) e n = absurd (omega (arith, eqb→eq (suc (length xs)) 0 (subst T n tt)))

  pub number_padded : (ds : List ℕ) → ds ≡ trimmed l → 1 < length ds → get_or ds 0 0 ≡ 48 → number_in l ≡ None
  unfolding number_in
  number_padded [] e n z = absurd (omega arith)
  number_padded (x ∷ []) e n z = absurd (omega arith)
  number_padded (x ∷ y ∷ ys) e n z = ap number_of (sym e ∙ ap (λ (v : ℕ). v ∷ y ∷ ys) z) ∙ zero_padded y ys

  module _ (ds : List ℕ) (e : ds ≡ trimmed l) (some : false ≡ eqb (length ds) 0) (n : ((get_or ds 0 0 ≡ 48) × (length ds ≤ 1)) ⊎ (get_or ds 0 0 ≡ 48 → ⊥)) where
    number_found : number_in l ≡ (when all is_digit ds && leb (digits 0 ds) 4294967295 then Some (digits 0 ds) else None)
    unfolding number_in
    number_found = ap number_of (sym e) ∙ not_padded ds some n

    pub number_none : digits_from 0 ds ≡ None → number_in l ≡ None
    unfolding digits_from
    number_none d = number_found ∙ go (all is_digit ds) (digits 0 ds) d
      where
        go : (t : Bool) (v : ℕ) → (when t then Some v else None) ≡ None → (when t && leb v 4294967295 then Some v else None) ≡ None
        go true v k = cc
        go false v k = refl

    pub number_is : (v : ℕ) → digits_from 0 ds ≡ Some v → number_in l ≡ (when leb v 4294967295 then Some v else None)
    unfolding digits_from
    number_is v d = number_found ∙ go (all is_digit ds) (digits 0 ds) d
      where
        go : (t : Bool) (w : ℕ) → (when t then Some w else None) ≡ Some v → (when t && leb w 4294967295 then Some w else None) ≡ (when leb v 4294967295 then Some v else None)
        go true w k =
            let q : w ≡ v = cc in
            rw q
        go false w k = cc

    pub number_zero : get_or ds 0 0 ≡ 48 → number_in l ≡ Some 0
    number_zero z = number_is 0 (zero_read ds some n z)

-- what fits a word
pub word_fits : {E : Type 0} (r : Result ℕ E) (v : ℕ) → OkIff r (v < 2 ^ 32) v → result_ok r ≡ (when leb v 4294967295 then Some v else None)
word_fits (Ok x) v h = rw (le-leb v 4294967295 (omega (arith, h.0))) (ap Some h.1)
word_fits (Err e) v h = rw (lt-leb v 4294967295 (omega (arith, h)))

-- a number that was read
number_good : (xs : List ℕ) (v : ℕ) → number_in xs ≡ Some v → (is_number xs ≡ true) × (v ≡ value xs)
unfolding number_in
number_good xs v h = go (is_number xs) h
  where
    go : (t : Bool) → (when t then Some (value xs) else None) ≡ Some v → (t ≡ true) × (v ≡ value xs)
    go true h = (refl, cc)
    go false h = cc

number_bad : (xs : List ℕ) → number_in xs ≡ None → is_number xs ≡ false
unfolding number_in
number_bad xs h = go (is_number xs) h
  where
    go : (t : Bool) → (when t then Some (value xs) else None) ≡ None → t ≡ false
    go true h = cc
    go false h = refl

-- a line, column by column
module _ (l : List ℕ) where
  pub column_number : (c : ℕ) (v : Option ℕ) → v ≡ number_in (take (10 * c + 10 - 10 * c) (drop (10 * c) l)) → number_in (column_at l c) ≡ v
  column_number c v e =
      let q : 10 * c + 10 - 10 * c ≡ 10 = omega arith in
      sym (e ∙ ap (λ (k : ℕ). number_in (take k (drop (10 * c) l))) q)

  pub column_bad : (c : ℕ) → number_in (column_at l c) ≡ None → c < 8 → is_line l ≡ false
  unfolding is_line
  column_bad c e h =
      ap (λ (t : Bool). t && eqb (get_or l 80 0) 10) (all_fails (λ k. is_number (column_at l k)) 8 c h (number_bad (column_at l c) e))

  module _ (c v : ℕ) (e : number_in (column_at l c) ≡ Some v) where
    good : (is_number (column_at l c) ≡ true) × (v ≡ value (column_at l c))
    good = number_good (column_at l c) v e

    pub column_good : all (λ k. is_number (column_at l k)) (from 0 c) ≡ true → all (λ k. is_number (column_at l k)) (from 0 (c + 1)) ≡ true
    column_good h = all_more (λ k. is_number (column_at l k)) c ∙ both (all (λ k. is_number (column_at l k)) (from 0 c)) (is_number (column_at l c)) h good.0
      where
        both : (x y : Bool) → x ≡ true → y ≡ true → (x && y) ≡ true
        both x y p q = rw (p, q)

    pub column_read : (row : List ℕ) → c < length row → take c row ≡ map (λ k. value (column_at l k)) (from 0 c)
        → take (c + 1) (set row c v) ≡ map (λ k. value (column_at l k)) (from 0 (c + 1))
    column_read row h q = take_stored row c v h ∙ cc (q, good.1) ∙ sym (map_more (λ k. value (column_at l k)) c)

  pub line_end : (c : ℕ) → c ≤ 8 → 8 ≤ c → all (λ k. is_number (column_at l k)) (from 0 c) ≡ true → eqb (get_or l 80 0) 10 ≡ is_line l
  unfolding is_line
  line_end c h g e =
      let q : c ≡ 8 = omega arith in
      sym (ap (λ (t : Bool). t && eqb (get_or l 80 0) 10) (subst (λ (k : ℕ). all (λ j. is_number (column_at l j)) (from 0 k) ≡ true) q e))

  pub row_end : (c : ℕ) (row : List ℕ) → c ≤ 8 → 8 ≤ c → length row ≡ 8 → take c row ≡ map (λ k. value (column_at l k)) (from 0 c) → row ≡ numbers_of l
  unfolding numbers_of
  row_end c row h g n e =
      let q : c ≡ 8 = omega arith in
      sym (take_all 8 row (omega arith)) ∙ subst (λ (k : ℕ). take k row ≡ map (λ j. value (column_at l j)) (from 0 k)) q e

-- a text, line by line
module _ (t : List ℕ) where
  pub line_number : (r : ℕ) → take (81 * r + 81 - 81 * r) (drop (81 * r) t) ≡ line_at t r
  line_number r =
      let q : 81 * r + 81 - 81 * r ≡ 81 = omega arith in
      ap (λ (k : ℕ). take k (drop (81 * r) t)) q

  pub line_bad : (n r : ℕ) → r < n → is_line (line_at t r) ≡ false → false ≡ good_lines t n
  unfolding good_lines
  line_bad n r h e = sym (all_fails (λ k. is_line (line_at t k)) n r h e)

  pub line_good : (r : ℕ) → is_line (line_at t r) ≡ true → all (λ k. is_line (line_at t k)) (from 0 r) ≡ true → all (λ k. is_line (line_at t k)) (from 0 (r + 1)) ≡ true
  line_good r e h = all_more (λ k. is_line (line_at t k)) r ∙ both (all (λ k. is_line (line_at t k)) (from 0 r)) (is_line (line_at t r)) h e
    where
      both : (x y : Bool) → x ≡ true → y ≡ true → (x && y) ≡ true
      both x y p q = rw (p, q)

  pub line_read : (r : ℕ) (words row : List ℕ) → 8 * r + 8 ≤ length words → take (8 * r) words ≡ numbers_in t r → row ≡ numbers_of (line_at t r)
      → take (8 * (r + 1)) (put_mid (8 * r) (8 * r + 8 - 8 * r) words row) ≡ numbers_in t (r + 1)
  unfolding numbers_in numbers_of
  line_read r words row h e q =
      let s : 8 * (r + 1) ≡ 8 * r + 8 = omega arith in
      rw s (put_front (8 * r) (8 * r + 8) words row (omega arith) h (omega (arith, ap length q)) ∙ cc (e, q) ∙ sym (concat_more (λ k. numbers_of (line_at t k)) r))

  pub none_read : [] ≡ numbers_in t 0
  unfolding numbers_in
  none_read = refl

-- the lines to read and the words for them fit
module _ (b lent n : ℕ) (e : whole_lines b lent ≡ Some n) where
  pub whole_fits : (81 * n ≤ b) × (8 * n ≤ lent)
  unfolding whole_lines
  whole_fits = go (eqb (81 * (b / 81)) b && leb (b / 81) 2048) (leb (8 * (b / 81)) lent) (leb→le (8 * (b / 81)) lent) e
    where
      go : (x y : Bool) → (T y → 8 * (b / 81) ≤ lent) → (when x && y then Some (b / 81) else None) ≡ Some n → (81 * n ≤ b) × (8 * n ≤ lent)
      go true true f k =
          let q : b / 81 ≡ n = cc in
          (omega arith, omega (arith, f tt))
      go true false f k = cc
      go false y f k = cc

-- the definition's lines are those of the parts
module _ (t : List ℕ) where
  column_same : (r c : ℕ) → c < 8 → column_text t r c ≡ column_at (line_at t r) c
  column_same r c h = sym (part_of_part 10 (10 * c) 81 (81 * r) t (omega arith))

  line_same : (r : ℕ) → (all (λ c. is_number (column_text t r c)) (from 0 8) && eqb (get_or t (81 * r + 80) 0) 10) ≡ is_line (line_at t r)
  unfolding is_line
  line_same r =
      cc (
        all_alike (λ c. is_number (column_text t r c)) (λ c. is_number (column_at (line_at t r) c)) 0 8 (λ c h. ap is_number (column_same r c (omega arith))),
        element_of_part 80 81 (81 * r) t 0 (omega arith),
      )

  numbers_same : (r : ℕ) → map (λ c. value (column_text t r c)) (from 0 8) ≡ numbers_of (line_at t r)
  unfolding numbers_of
  numbers_same r = map_alike (λ c. value (column_text t r c)) (λ c. value (column_at (line_at t r) c)) 0 8 (λ c h. ap value (column_same r c (omega arith)))

  pub text_lines : is_sheet_text t ≡ (eqb (81 * lines t) (length t) && all (λ r. is_line (line_at t r)) (from 0 (lines t)))
  text_lines =
      ap (λ (b : Bool). eqb (81 * lines t) (length t) && b)
      (all_alike (λ r. all (λ c. is_number (column_text t r c)) (from 0 8) && eqb (get_or t (81 * r + 80) 0) 10) (λ r. is_line (line_at t r)) 0 (lines t) (λ r h. line_same r))

  pub sheet_is : sheet_of t ≡ (when is_sheet_text t then numbers_in t (lines t) else [])
  unfolding numbers_in
  sheet_is =
      ap (λ (l : List ℕ). when is_sheet_text t then l else [])
      (concat_alike (λ r. map (λ c. value (column_text t r c)) (from 0 8)) (λ r. numbers_of (line_at t r)) 0 (lines t) (λ r h. numbers_same r))

  pub text_numbers : T (is_sheet_text t) → sheet_of t ≡ numbers_in t (lines t)
  text_numbers h = sheet_is ∙ if_true (is_sheet_text t) (numbers_in t (lines t)) [] h

-- the lines read, and the words
module _ (t : List ℕ) (lent : ℕ) where
  abbrev all_lines : ℕ → Bool
  all_lines n = all (λ r. is_line (line_at t r)) (from 0 n)

  -- all lines that there are to read, where each is one, or none
  pub lines_read_lem : (n : ℕ) → whole_lines (length t) lent ≡ Some n → (when good_lines t n then n else 0) ≡ lines_read t lent
  unfolding good_lines whole_lines lines_read is_readable
  lines_read_lem n e =
      sym (ap (λ (s : Bool). when s && leb (lines t) 2048 && leb (8 * lines t) lent then lines t else 0) (text_lines t)
      ∙ go (eqb (81 * lines t) (length t)) (leb (lines t) 2048) (leb (8 * lines t) lent) (lines t) e)
    where
      these : (a : Bool) → (when a && true && true then n else 0) ≡ (when a then n else 0)
      these true = refl
      these false = refl

      go : (w b c : Bool) (k : ℕ) → (when w && b && c then Some k else None) ≡ Some n → (when (w && all_lines k) && b && c then k else 0) ≡ (when all_lines n then n else 0)
      go true true true k h =
          let q : k ≡ n = cc in
          rw q (these (all_lines n))
      go true true false k h = cc
      go true false c k h = cc
      go false b c k h = cc

  module _ (n : ℕ) (b : Bool) (e : whole_lines (length t) lent ≡ Some n) (g : b ≡ good_lines t n) where
    pub lines_found : b ≡ true → n ≡ lines_read t lent
    lines_found h = ap (λ (x : Bool). when x then n else 0) (sym h ∙ g) ∙ lines_read_lem n e

    pub lines_bad : b ≡ false → 0 ≡ lines_read t lent
    lines_bad h = ap (λ (x : Bool). when x then n else 0) (sym h ∙ g) ∙ lines_read_lem n e

  pub lines_none : whole_lines (length t) lent ≡ None → 0 ≡ lines_read t lent
  unfolding whole_lines lines_read is_readable
  lines_none e =
      sym (ap (λ (s : Bool). when s && leb (lines t) 2048 && leb (8 * lines t) lent then lines t else 0) (text_lines t)
      ∙ go (eqb (81 * lines t) (length t)) (all_lines (lines t)) (leb (lines t) 2048) (leb (8 * lines t) lent) (lines t) e)
    where
      go : (w a b c : Bool) (k : ℕ) → (when w && b && c then Some k else None) ≡ None → (when (w && a) && b && c then k else 0) ≡ 0
      go true a true true k h = cc
      go true true true false k h = refl
      go true false true false k h = refl
      go true true false c k h = refl
      go true false false c k h = refl
      go false a b c k h = refl

  pub readable : T (is_readable t lent) → T (is_sheet_text t)
  unfolding is_readable
  readable h = and_left (is_sheet_text t) (leb (lines t) 2048) (and_left (is_sheet_text t && leb (lines t) 2048) (leb (8 * lines t) lent) h)

  words_read_lem : numbers_in t (lines_read t lent) ++ replicate (lent - 8 * lines_read t lent) 0 ≡ words_read t lent
  unfolding lines_read words_read
  words_read_lem = go (is_readable t lent) readable
    where
      go : (b : Bool) → (T b → T (is_sheet_text t))
          → numbers_in t (when b then lines t else 0) ++ replicate (lent - 8 * (when b then lines t else 0)) 0 ≡ (when b then sheet_of t ++ replicate (lent - 8 * lines t) 0 else replicate lent 0)
      go true f = ap (λ (l : List ℕ). l ++ replicate (lent - 8 * lines t) 0) (sym (text_numbers t (f tt)))
      go false f = cc (sym (none_read t), sub-zero lent)

  pub words_left : (n : ℕ) (before last : List ℕ) → n ≡ lines_read t lent → length before ≡ lent → take (8 * n) before ≡ numbers_in t n
      → last ≡ replicate (length (take (length before - 8 * n) (drop (8 * n) before))) 0
      → (n ≡ lines_read t lent) × (put_mid (8 * n) (length before - 8 * n) before last ≡ words_read t lent)
  words_left n before last e g q z = (e, all_words ∙ ap (λ (k : ℕ). numbers_in t k ++ replicate (lent - 8 * k) 0) e ∙ words_read_lem)
    where
      after : take (length before - 8 * n) (drop (8 * n) before) ≡ drop (8 * n) before
      after = take_all (length before - 8 * n) (drop (8 * n) before) (omega (arith, length-drop (8 * n) before))

      rest : drop (length before - 8 * n) (drop (8 * n) before) ≡ []
      rest = drop_of_length-le (drop (8 * n) before) {i = length before - 8 * n} (omega (arith, length-drop (8 * n) before))

      size : length (take (length before - 8 * n) (drop (8 * n) before)) ≡ lent - 8 * n
      size = rw after (omega (arith, length-drop (8 * n) before))

      all_words : put_mid (8 * n) (length before - 8 * n) before last ≡ numbers_in t n ++ replicate (lent - 8 * n) 0
      all_words = rw rest (ap (λ (l : List ℕ). take (8 * n) before ++ l) (append-nil last) ∙ cc (q, z, size))
