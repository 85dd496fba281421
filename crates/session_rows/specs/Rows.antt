-- The program's own order of question 23, first part: rows of entries and class numbers. Each function is a clause of `session_fits` (crate session), or one
-- of its tests for all entries.
use Rattle.std.specs.Prelude.{Bool, ◌&&◌, ◌||◌, List, [], ◌∷◌, ℕ, suc, ◌+◌, ◌-◌, ◌/◌, ◌<◌, ◌≤◌, get_or, eqb, leb, ltb}
use Rattle.definition.specs.Basics.{all, from}
use Rattle.session.specs.Words.{whole, class_place, count_after, part_of, is_function_up_to}

-- is none of the five counts over its limit?
unfoldable pub five_right : List ℕ → Bool
five_right w = all (λ c. leb (get_or w (3 + c) 0) (get_or (1024 ∷ 32768 ∷ 4096 ∷ 1024 ∷ 8192 ∷ []) c 0)) (from 0 5)

-- count c after the first e entries
abbrev pub after : List ℕ → ℕ → ℕ → ℕ
after w e c = count_after whole w [] e c

-- the number of class i
abbrev pub number_of : List ℕ → ℕ → ℕ
number_of w i = get_or w (class_place whole i) 0

-- does count c not fall in entry e, and is it not past the session's?
abbrev pub count_rises : List ℕ → ℕ → ℕ → Bool
count_rises w e c = leb (after w e c) (after w (suc e) c) && leb (after w (suc e) c) (get_or w (3 + c) 0)

-- the same of all five
unfoldable pub counts_rise : List ℕ → ℕ → Bool
counts_rise w e = all (count_rises w e) (from 0 5)

-- is the row of entry e as it should be? The table t has the starts of the listed names
unfoldable pub row_right : List ℕ → List ℕ → ℕ → Bool
row_right w t e = counts_rise w e && eqb (after w (suc e) 1) (get_or t (after w (suc e) 0) 0)

-- are all rows of entries?
unfoldable pub rows_right : List ℕ → List ℕ → Bool
rows_right w t = all (row_right w t) (from 0 (get_or w 1 0))

-- has the last one the session's counts?
unfoldable pub last_right : List ℕ → Bool
last_right w = all (λ c. eqb (after w (get_or w 1 0) c) (get_or w (3 + c) 0)) (from 0 5)

-- has class i of entry e, whose first class is k, a number of the entry, above that of the class before it?
unfoldable pub number_rises : List ℕ → ℕ → ℕ → ℕ → Bool
number_rises w e k i =
    (is_function_up_to whole w [] e (number_of w i - 256) && eqb ((number_of w i - 256) / 2048) e) && (eqb i k || ltb (number_of w (i - 1)) (number_of w i))

-- the same of all classes of entry e, and of all entries
unfoldable pub numbers_rise : List ℕ → ℕ → Bool
numbers_rise w e = all (number_rises w e (after w e 3)) (part_of whole w [] e 3)

unfoldable pub all_rise : List ℕ → Bool
all_rise w = all (numbers_rise w) (from 0 (get_or w 1 0))

-- are the rows of entries and the numbers of classes, and has the last row the session's counts?
unfoldable pub order_right : List ℕ → List ℕ → Bool
order_right w t = rows_right w t && (last_right w && all_rise w)

-- Counts within their limits.
pub record Limited (w : List ℕ) : Type 0 where
  pub entries : get_or w 1 0 ≤ 1000
  pub names : get_or w 3 0 ≤ 1024
  pub laid : get_or w 5 0 ≤ 4096
  pub classes : get_or w 6 0 ≤ 1024
  pub members : get_or w 7 0 ≤ 8192

-- What the passes over rows and class numbers give those after them: counts that no entry makes fall, and class numbers that rise.
pub record Ordered (w : List ℕ) : Type 0 where
  pub limited : Limited w
  pub risen : (e c : ℕ) → e < get_or w 1 0 → c < 5 → after w e c ≤ after w (suc e) c
  pub below : (e c : ℕ) → e < get_or w 1 0 → c < 5 → after w (suc e) c ≤ get_or w (3 + c) 0
  pub ascending : (i j : ℕ) → i < j → j < get_or w 6 0 → number_of w i < number_of w j
