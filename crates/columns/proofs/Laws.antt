-- Each way undoes the other, and so what both routines promise. Assumes nothing.
use mathlib.Core.Bool.{Bool, true, false, not, ◌&&◌}
use mathlib.Core.Path.{◌≡◌, refl, sym, ap, subst, ◌∙◌}
use mathlib.Core.List.{List, ◌++◌, append-nil}
use Prim.Native.Nat.{ℕ, ◌+◌, ◌-◌, ◌*◌, ◌/◌, ◌%◌, ◌^◌, ◌<◌, ◌≤◌}
use native.Mathlib.Nat.{mul_comm}
use native.Mathlib.Omega.{arith}
use lib.ListN.{length, get_or, set, take, drop, replicate}
use lib.Seq.{take_at}
use lib.Dec.{eqb, leb, ltb, eqb→eq, leb→le}
use borrow.Author.Tests.{ltb-false, le-ltb, eq-eqb, ne_eqb}
use Rattle.definition.specs.Basics.{when◌then◌else◌}
use Rattle.definition.specs.Sheet.{word, rows}
use Rattle.definition.specs.Outcome.{rows_fit}
use Rattle.definition.proofs.Lists.Tests.{T_true, T_and}
use Rattle.columns.specs.Columns.{is_link, stored, restored, table, to_columns, from_columns, first_no, target_after, Rearranged}
use Rattle.columns.specs.declared.Way.{Way}
use Rattle.columns.specs.declared.Way.TheVariants.{ToColumns, ToRows}
use Rattle.columns.specs.Ways.{opposite, height, width, word_of, way_of}
use Rattle.columns.proofs.TableLaws.{table_length, table_read, table_of}
use Rattle.columns.proofs.WriteLaws.{copied, row_begun, place_written, row_written_lem, table_written}

-- a row's number taken off a link and added again modulo 2^32, and the other way round
less_more : (r w : ℕ) → r ≤ 2 ^ 32 → w < 2 ^ 32 → ((w + 2 ^ 32 - r) % 2 ^ 32 + r) % 2 ^ 32 ≡ w
less_more r w h l = omega arith

more_less : (r w : ℕ) → r ≤ 2 ^ 32 → w < 2 ^ 32 → ((w + r) % 2 ^ 32 + 2 ^ 32 - r) % 2 ^ 32 ≡ w
more_less r w h l = omega arith

-- a word stored and read back, and the other way round
restored_stored : (c r w : ℕ) → r ≤ 2 ^ 32 → w < 2 ^ 32 → restored c r (stored c r w) ≡ w
unfolding restored stored
restored_stored c r w h l = go (is_link c)
  where
    go : (t : Bool) → (let x : ℕ = when t then (w + 2 ^ 32 - r) % 2 ^ 32 else w in when t then (x + r) % 2 ^ 32 else x) ≡ w
    go true = less_more r w h l
    go false = refl

stored_restored : (c r w : ℕ) → r ≤ 2 ^ 32 → w < 2 ^ 32 → stored c r (restored c r w) ≡ w
unfolding restored stored
stored_restored c r w h l = go (is_link c)
  where
    go : (t : Bool) → (let x : ℕ = when t then (w + r) % 2 ^ 32 else w in when t then (x + 2 ^ 32 - r) % 2 ^ 32 else x) ≡ w
    go true = more_less r w h l
    go false = refl

pub to_length : (s : List ℕ) → 8 * rows s ≡ length s → length (to_columns s) ≡ length s
unfolding to_columns
to_length s e = table_length 8 (rows s) (λ c r. stored c r (word s r c)) ∙ e

pub from_length : (s : List ℕ) → 8 * rows s ≡ length s → length (from_columns s) ≡ length s
unfolding from_columns
from_length s e = table_length (rows s) 8 (λ r c. restored c r (get_or s (c * rows s + r) 0)) ∙ mul_comm (rows s) 8 ∙ e

-- Of whole rows of words below 2^32, at most 2^32 rows, each way undoes the other.
module _ (s : List ℕ) (whole : 8 * rows s ≡ length s) (few : rows s ≤ 2 ^ 32) (words : (i : ℕ) → get_or s i 0 < 2 ^ 32) where
  pub from_to : from_columns (to_columns s) ≡ s
  unfolding from_columns to_columns
  from_to = ap (λ (n : ℕ). table n 8 (λ r c. restored c r (get_or t (c * n + r) 0))) same ∙ table_of (rows s) 8 _ s long at
    where
      t : List ℕ
      t = table 8 (rows s) (λ c r. stored c r (word s r c))

      same : rows t ≡ rows s
      same = ap (λ (n : ℕ). n / 8) (table_length 8 (rows s) (λ c r. stored c r (word s r c)) ∙ whole)

      long : length s ≡ rows s * 8
      long = sym whole ∙ mul_comm 8 (rows s)

      at : (r c : ℕ) → r < rows s → c < 8 → restored c r (get_or t (c * rows s + r) 0) ≡ get_or s (r * 8 + c) 0
      at r c h l =
          let place : 8 * r + c ≡ r * 8 + c = omega arith in
          ap (restored c r) (table_read 8 (rows s) (λ c r. stored c r (word s r c)) c r l h)
          ∙ restored_stored c r (word s r c) (omega arith) (words (8 * r + c))
          ∙ ap (λ (p : ℕ). get_or s p 0) place

  pub to_from : to_columns (from_columns s) ≡ s
  unfolding from_columns to_columns
  to_from = ap (λ (n : ℕ). table 8 n (λ c r. stored c r (word t r c))) same ∙ table_of 8 (rows s) _ s (sym whole) at
    where
      t : List ℕ
      t = table (rows s) 8 (λ r c. restored c r (get_or s (c * rows s + r) 0))

      same : rows t ≡ rows s
      same = ap (λ (n : ℕ). n / 8) (table_length (rows s) 8 (λ r c. restored c r (get_or s (c * rows s + r) 0)) ∙ mul_comm (rows s) 8 ∙ whole)

      at : (c r : ℕ) → c < 8 → r < rows s → stored c r (word t r c) ≡ get_or s (c * rows s + r) 0
      at c r l h =
          let place : 8 * r + c ≡ r * 8 + c = omega arith in
          ap (λ (p : ℕ). stored c r (get_or t p 0)) place
          ∙ ap (stored c r) (table_read (rows s) 8 (λ r c. restored c r (get_or s (c * rows s + r) 0)) r c h l)
          ∙ stored_restored c r (get_or s (c * rows s + r) 0) (omega arith) (words (c * rows s + r))

-- Where no question gets a no, the source is rows of eight words, and the target has room for it.
passed : (s : List ℕ) (lent : ℕ) → first_no s lent ≡ 0 → (rows_fit s ≡ true) × (length s ≤ lent)
unfolding first_no
passed s lent = go (rows_fit s) (ltb lent (length s)) refl refl
  where
    go : (x y : Bool) → rows_fit s ≡ x → ltb lent (length s) ≡ y → ◌≡◌ {A = ℕ} (when not x then 1 else when y then 22 else 0) 0
        → (rows_fit s ≡ true) × (length s ≤ lent)
    go true true a b e = absurd (omega (arith, e))
    go true false a b e = (a, ltb-false lent (length s) b)
    go false y a b e = absurd (omega (arith, e))

sized : (s : List ℕ) → rows_fit s ≡ true → (8 * rows s ≡ length s) × (rows s ≤ 2048)
sized s e =
    let q = T_and (eqb (8 * rows s) (length s) && leb 1 (rows s)) (leb (rows s) 2048) (T_true (rows_fit s) e) in
    (eqb→eq (8 * rows s) (length s) (T_and (eqb (8 * rows s) (length s)) (leb 1 (rows s)) q.0).0, leb→le (rows s) 2048 q.1)

pub passed_sizes : (s : List ℕ) (lent : ℕ) → first_no s lent ≡ 0 → (8 * rows s ≡ length s) × (rows s ≤ 2048) × (length s ≤ lent)
passed_sizes s lent e =
    let q = passed s lent e in
    let r = sized s q.0 in
    (r.0, r.1, q.1)

-- So it is of a list of the same length and a target of that length.
passes_again : (s t : List ℕ) (lent : ℕ) → length t ≡ length s → first_no s lent ≡ 0 → first_no t (length s) ≡ 0
unfolding first_no
passes_again s t lent e h =
    let one : rows_fit t ≡ true = ap (λ (n : ℕ). eqb (8 * (n / 8)) n && leb 1 (n / 8) && leb (n / 8) 2048) e ∙ (passed s lent h).0 in
    rw (one, le-ltb (length s) (length t) (omega (arith, e)))

-- the target, where no question gets a no
after_passing : (f : List ℕ → List ℕ) (s : List ℕ) (lent : ℕ) → first_no s lent ≡ 0 → target_after f s lent ≡ f s ++ replicate (lent - length s) 0
unfolding target_after
after_passing f s lent e = rw (eq-eqb (first_no s lent) 0 e)

-- a target that is zero after a no
pub zeros_after_no : (f g : List ℕ → List ℕ) (s : List ℕ) (lent n : ℕ) (t : List ℕ)
    → n ≡ first_no s lent → (n ≡ 0 → ⊥) → t ≡ replicate lent 0 → Rearranged f g s lent n t
unfolding target_after
zeros_after_no f g s lent n t e h z = record {
  answer = e;
  target = rw (ne_eqb (first_no s lent) 0 (λ o. h (e ∙ o))) z;
  back = λ o. absurd (h o);
}

-- a target that holds the source rearranged, where g undoes f
pub rearranged : (f g : List ℕ → List ℕ) (s : List ℕ) (lent : ℕ) (t : List ℕ) → first_no s lent ≡ 0 → length (f s) ≡ length s → g (f s) ≡ s
    → t ≡ f s ++ replicate (lent - length s) 0 → Rearranged f g s lent 0 t
rearranged f g s lent t ok long undone e = record { answer = sym ok; target = e ∙ sym (after_passing f s lent ok); back = λ o. (again, given) }
  where
    u : List ℕ
    u = take (length s) t

    same : u ≡ f s
    same = ap (take (length s)) e ∙ take_at (f s) (replicate (lent - length s) 0) (length s) long

    again : first_no u (length s) ≡ 0
    again = passes_again s u lent (ap length same ∙ long) ok

    none : length s - length u ≡ 0
    none = omega (arith, ap length same, long)

    given : target_after g u (length s) ≡ s
    given =
        after_passing g u (length s) again
        ∙ ap (λ (k : ℕ). g u ++ replicate k 0) none ∙ append-nil (g u) ∙ ap g same ∙ undone

-- the two ways as one
pub way_table : (w : Way) (s : List ℕ) → way_of w s ≡ table (height w (rows s)) (width w (rows s)) (word_of w s)
unfolding to_columns from_columns
way_table ToColumns s = refl
way_table ToRows s = refl

size_table : (w : Way) (n : ℕ) → height w n * width w n ≡ 8 * n
size_table ToColumns n = refl
size_table ToRows n = mul_comm n 8

pub way_length : (w : Way) (s : List ℕ) → 8 * rows s ≡ length s → length (way_of w s) ≡ length s
way_length ToColumns s e = to_length s e
way_length ToRows s e = from_length s e

pub way_undone : (w : Way) (s : List ℕ) → 8 * rows s ≡ length s → rows s ≤ 2 ^ 32 → ((i : ℕ) → get_or s i 0 < 2 ^ 32) → way_of (opposite w) (way_of w s) ≡ s
way_undone ToColumns s whole few words = from_to s whole few words
way_undone ToRows s whole few words = to_from s whole few words

-- a table of m lines of n that is written over d, word by word
module _ (w : Way) (s : List ℕ) (m n : ℕ) (a : m ≡ height w (rows s)) (b : n ≡ width w (rows s)) (d : List ℕ) (fits : 8 * rows s ≤ length d) where
  size : m * n ≡ 8 * rows s
  size = ap (λ (k : ℕ). k * n) a ∙ ap (λ (k : ℕ). height w (rows s) * k) b ∙ size_table w (rows s)

  room : m * n ≤ length d
  room = omega (arith, size)

  table_is : table m n (word_of w s) ≡ way_of w s
  table_is =
      ap (λ (k : ℕ). table k n (word_of w s)) a ∙ ap (λ (k : ℕ). table (height w (rows s)) k (word_of w s)) b ∙ sym (way_table w s)

  pub line_begun : (i : ℕ) (u : List ℕ) → i < m → u ≡ copied (i * n) (way_of w s) d → u ≡ copied (i * n + 0) (way_of w s) u
  line_begun i u h =
      subst (λ (v : List ℕ). u ≡ copied (i * n) v d → u ≡ copied (i * n + 0) v u) table_is (row_begun m n (word_of w s) d room i u h)

  pub word_written : (i j x : ℕ) (t : List ℕ) → i < m → j < n → t ≡ copied (i * n + j) (way_of w s) d → x ≡ word_of w s i j
      → set t (i * n + j) x ≡ copied (i * n + (j + 1)) (way_of w s) d
  word_written i j x t h l e v =
      subst (λ (u : List ℕ). t ≡ copied (i * n + j) u d → set t (i * n + j) x ≡ copied (i * n + (j + 1)) u d) table_is
      (λ q. place_written m n (word_of w s) d room i j (i * n + j) x t h l refl q v) e

  pub line_written : (i j : ℕ) (t u : List ℕ) → i < m → n ≤ j → j ≤ n → u ≡ copied (i * n) (way_of w s) d → t ≡ copied (i * n + j) (way_of w s) u
      → t ≡ copied ((i + 1) * n) (way_of w s) d
  line_written i j t u h g l =
      subst (λ (v : List ℕ). u ≡ copied (i * n) v d → t ≡ copied (i * n + j) v u → t ≡ copied ((i + 1) * n) v d) table_is
      (row_written_lem m n (word_of w s) d room i j t u h g l)

  pub all_written : (i : ℕ) (t : List ℕ) → m ≤ i → i ≤ m → t ≡ copied (i * n) (way_of w s) d → t ≡ way_of w s ++ drop (8 * rows s) d
  all_written i t g l e =
      subst (λ (v : List ℕ). t ≡ copied (i * n) v d → t ≡ v ++ drop (m * n) d) table_is (table_written m n (word_of w s) d room i t g l) e
      ∙ ap (λ (k : ℕ). way_of w s ++ drop k d) size
