-- Laws of name lists: a list is its first name and the rest, names by number, and a table of starts cuts a list into its names.
use mathlib.Core.Path.{◌≡◌, refl, sym, ap, ◌∙◌}
use mathlib.Core.Bool.{Bool, true, false, not, cond, ◌&&◌}
use mathlib.Core.Logic.{◌⊎◌, inl, inr, ⊎_elim}
use mathlib.Core.List.{List, [], ◌∷◌, ◌++◌}
use Prim.Native.Nat.{ℕ, zero, suc, ◌+◌, ◌-◌, ◌<◌, ◌≤◌}
use native.Mathlib.Omega.{arith}
use native.Mathlib.Numerals.{add-one}
use lib.Dec.{eqb, leb, ltb}
use lib.ListN.{length, get_or, take, drop, set, length-drop, drop_of_length-le}
use lib.Seq.{drop-cons, drop-drop, take_all, length-take-le, take-suc-set, append_snoc}
use borrow.Author.Tests.{ltb-true, ltb-false, lt-ltb, le-ltb, le-leb, lt-leb}
use Rattle.std.specs.List.{position_or_len, list_all, slice_get, enumerate_from}
use Rattle.std.specs.Option.{unwrap_or, option_map}
use Rattle.std.specs.Borrow.{Bor}
use Rattle.std.proofs.lemmas.Option.{unwrap_or-slice_get}
use Rattle.std.specs.Prelude.{min, Option, Some, None}
use Rattle.definition.specs.Basics.{when◌then◌else◌, all, place, total}
use Rattle.definition.specs.Names.{Name, listed, lead, names_few, names_sized}
use Rattle.names.specs.Listed.{name_of, first_size, Ends, starts_from, starts}

-- Lists and tests.

pub and_false : (t : Bool) {u : Bool} → u ≡ false → (t && u) ≡ false
and_false true e = e
and_false false e = refl

pub side : (m n : ℕ) → (m < n) ⊎ (n ≤ m)
side m n = go (ltb m n) refl
  where
    go : (t : Bool) → ltb m n ≡ t → (m < n) ⊎ (n ≤ m)
    go true e = inl (ltb-true m n e)
    go false e = inr (ltb-false m n e)

pub get_or_inside : {A : Type 0} (l : List A) (i : ℕ) (d d' : A) → i < length l → get_or l i d ≡ get_or l i d'
get_or_inside [] i d d' h = absurd (omega arith)
get_or_inside (x ∷ l) zero d d' h = refl
get_or_inside (x ∷ l) (suc i) d d' h = get_or_inside l i d d' (omega arith)

get_or_past : {A : Type 0} (d x : A) (l : List A) (k : ℕ) → (k ≡ 0 → ⊥) → get_or (x ∷ l) k d ≡ get_or l (k - 1) d
get_or_past d x l zero f = absurd (f refl)
get_or_past d x l (suc k) f = let e : suc k - 1 ≡ k = omega arith in rw e

pub drop_step : {A : Type 0} (l : List A) (i : ℕ) (d : A) → i < length l → drop i l ≡ get_or l i d ∷ drop (i + 1) l
drop_step l i d h = rw (add-one, drop-cons l i d)

pub store_last : {A : Type 0} (t : List A) (k : ℕ) (x : A) → k < length t → take (k + 1) (set t k x) ≡ take k t ++ x ∷ []
store_last t k x h = rw (add-one, take-suc-set)

pub store_next : {A : Type 0} (t : List A) (k : ℕ) (x : A) (l : List A) → k < length t → take (k + 1) (set t k x) ++ l ≡ take k t ++ x ∷ l
store_next t k x l h = rw (store_last t k x h) (append_snoc (take k t) x l)

-- `place` of the definition is the library's
pub place_same : {A : Type 0} (p : A → Bool) (xs : List A) → place p xs ≡ position_or_len p xs
place_same p [] = refl
place_same p (x ∷ xs) = go (p x) (place_same p xs)
  where
    go : (t : Bool) → place p xs ≡ position_or_len p xs → (when t then 0 else suc (place p xs)) ≡ cond (not t) (1 + position_or_len p xs) 0
    go true e = refl
    go false e = omega (arith, e)

pub place_le : {A : Type 0} (p : A → Bool) (xs : List A) → place p xs ≤ length xs
place_le p [] = omega arith
place_le p (x ∷ xs) = shorter (p x) (place_le p xs)
  where
    shorter : (t : Bool) {m n : ℕ} → m ≤ n → (when t then 0 else suc m) ≤ suc n
    shorter true l = omega arith
    shorter false l = omega arith

-- what `position` finds, or the length
pub place_found : {A : Type 0} (p : A → Bool) (xs : List A)
    → unwrap_or (cond (ltb (position_or_len p xs) (length xs)) (Some (position_or_len p xs)) None) (length xs) ≡ place p xs
place_found p xs = rw (sym (place_same p xs)) (go (ltb (place p xs) (length xs)) refl)
  where
    go : (t : Bool) → ltb (place p xs) (length xs) ≡ t → unwrap_or (cond t (Some (place p xs)) None) (length xs) ≡ place p xs
    go true e = refl
    go false e = omega (arith, ltb-false (place p xs) (length xs) e, place_le p xs)

-- The first name of a list.

by_end : (t : Bool) (x : ℕ) (xs : List ℕ) → lead x (listed xs) ≡ (x ∷ take (first_size xs) xs) ∷ listed (drop (suc (first_size xs)) xs)
    → (when t then [] ∷ listed xs else lead x (listed xs))
    ≡ take (when t then 0 else suc (first_size xs)) (x ∷ xs) ∷ listed (drop (suc (when t then 0 else suc (first_size xs))) (x ∷ xs))
by_end true x xs e = refl
by_end false x xs e = e

from_byte : (x : ℕ) (xs : List ℕ) → listed (x ∷ xs) ≡ take (first_size (x ∷ xs)) (x ∷ xs) ∷ listed (drop (suc (first_size (x ∷ xs))) (x ∷ xs))
from_byte x [] = by_end (eqb x 10) x [] refl
from_byte x (y ∷ ys) = by_end (eqb x 10) x (y ∷ ys) (ap (lead x) (from_byte y ys))

-- a list of names is its first name and the rest
pub first_name : (xs : List ℕ) → 0 < length xs → listed xs ≡ take (first_size xs) xs ∷ listed (drop (suc (first_size xs)) xs)
first_name [] h = absurd (omega arith)
first_name (x ∷ xs) h = from_byte x xs

pub first_size_lem : (xs : List ℕ) → first_size xs ≤ length xs
first_size_lem = place_le (λ x. eqb x 10)

-- the same, as the iterator steps
pub first_next : (xs : List ℕ) (e m : ℕ) → e ≡ first_size xs → m ≡ min (length xs) (e + 1) → 0 < length xs
    → listed xs ≡ take e xs ∷ listed (take (length xs - m) (drop m xs))
first_next xs e m p q h =
    let rest : take (length xs - m) (drop m xs) ≡ drop (suc (first_size xs)) xs =
    take_all (length xs - m) (drop m xs) (omega (arith, length-drop m xs)) ∙ drop_within (side (suc (first_size xs)) (length xs)) in
    first_name xs h
    ∙ ap (λ (n : ℕ). take n xs ∷ listed (drop (suc (first_size xs)) xs)) (sym p)
    ∙ ap (λ (l : List ℕ). take e xs ∷ listed l) (sym rest)
  where
    drop_within : (suc (first_size xs) < length xs) ⊎ (length xs ≤ suc (first_size xs)) → drop m xs ≡ drop (suc (first_size xs)) xs
    drop_within (inl l) = let z : m ≡ suc (first_size xs) = omega arith in ap (λ (k : ℕ). drop k xs) z
    drop_within (inr l) = drop_of_length-le xs (omega arith) ∙ sym (drop_of_length-le xs l)

lead_length : (x : ℕ) (l : List Name) → length (lead x l) ≤ suc (length l)
lead_length x [] = omega arith
lead_length x (n ∷ l) = omega arith

-- at most as many names as bytes
pub listed_few : (xs : List ℕ) → length (listed xs) ≤ length xs
listed_few [] = omega arith
listed_few (x ∷ xs) = go (eqb x 10) (listed_few xs)
  where
    go : (t : Bool) → length (listed xs) ≤ length xs → length (when t then [] ∷ listed xs else lead x (listed xs)) ≤ suc (length xs)
    go true h = omega arith
    go false h = omega (arith, lead_length x (listed xs))

-- with an end each they take at most one byte more than the list
pub listed_short : (xs : List ℕ) → total (λ n. length n + 1) (listed xs) ≤ length xs + 1
listed_short [] = omega arith
listed_short (x ∷ xs) = go (eqb x 10) (listed xs) (listed_short xs)
  where
    go : (t : Bool) (l : List Name) → total (λ n. length n + 1) l ≤ length xs + 1
        → total (λ n. length n + 1) (when t then [] ∷ l else lead x l) ≤ suc (length xs) + 1
    go true l h = omega arith
    go false [] h = omega arith
    go false (n ∷ l) h = omega arith

-- from place i on, byte by byte
module _ (w : List ℕ) (i : ℕ) where
  pub past_end : length w ≤ i → listed (drop i w) ≡ []
  past_end l = ap listed (drop_of_length-le w l)

-- question 2's test of one name
abbrev pub sized : Name → Bool
sized n = leb 1 (length n) && leb (length n) 255

-- the same test with its place, which tells how many names stand before it
abbrev pub placed_sized : ℕ × Name → Bool
placed_sized p = ltb p.0 1024 && sized p.1

-- every name before place 1,024 and of its size: at most 1,024 of them, each of its size
by_place : (i : ℕ) (s t : Bool) (m n : ℕ) → m ≡ n → ((i < 1024) → t ≡ (leb m 1024 && s)) → ((1024 ≤ i) → leb n 1024 ≡ false) → (u : Bool)
    → ((ltb i 1024 && u) && t) ≡ (leb n 1024 && (u && s))
by_place i s t m n e f g u = go (side i 1024) u
  where
    swap : (u v : Bool) → (u && (v && s)) ≡ (v && (u && s))
    swap true v = refl
    swap false true = refl
    swap false false = refl

    go : (i < 1024) ⊎ (1024 ≤ i) → (u : Bool) → ((ltb i 1024 && u) && t) ≡ (leb n 1024 && (u && s))
    go (inl h) u = rw (lt-ltb i 1024 h, f h, e) (swap u (leb n 1024))
    go (inr h) u = rw (le-ltb i 1024 h, g h) refl

sized_from : (i : ℕ) (l : List Name) → i ≤ 1024 → list_all placed_sized (enumerate_from i l) ≡ (leb (i + length l) 1024 && all sized l)
sized_from i [] h = sym (ap (λ (t : Bool). t && true) (le-leb (i + 0) 1024 (omega arith)))
sized_from i (n ∷ l) h =
    by_place i (all sized l) (list_all placed_sized (enumerate_from (i + 1) l)) (i + 1 + length l) (i + suc (length l)) (omega arith)
    (λ k. sized_from (i + 1) l (omega arith)) (λ k. lt-leb (i + suc (length l)) 1024 (omega arith)) (sized n)

-- question 2's test of all names: few, and each of its size
pub few_sized : (ns : List ℕ) → list_all placed_sized (enumerate_from 0 (listed ns)) ≡ (names_few ns && names_sized ns)
few_sized ns = let e : 0 + length (listed ns) ≡ length (listed ns) = omega arith in sized_from 0 (listed ns) (omega arith) ∙ ap (λ (k : ℕ). leb k 1024 && names_sized ns) e

-- The name that starts at place `at` of w, and ends at e.
module _ {w : List ℕ} {at e : ℕ} (n : Ends w at e) where
  pub next_size : length (take (e - at) (drop at w)) ≡ e - at
  next_size = length-take-le (e - at) (drop at w) (omega (arith, length-drop at w))

  pub next_name : listed (drop at w) ≡ take (e - at) (drop at w) ∷ listed (drop (e + 1) w)
  next_name =
      let s : first_size (drop at w) ≡ e - at = omega arith in
      let q : at + suc (first_size (drop at w)) ≡ e + 1 = omega arith in
      first_name (drop at w) (omega (arith, length-drop at w)) ∙ rw (drop-drop, q, s)

  pub next_count : length (listed (drop at w)) ≡ length (listed (drop (e + 1) w)) + 1
  next_count = omega (arith, ap length next_name)

  pub next_start : starts_from at (listed (drop at w)) ≡ at ∷ starts_from (e + 1) (listed (drop (e + 1) w))
  next_start =
      let q : at + length (take (e - at) (drop at w)) + 1 ≡ e + 1 = omega (arith, next_size) in
      ap (starts_from at) next_name ∙ ap (λ (p : ℕ). at ∷ starts_from p (listed (drop (e + 1) w))) q

pub name_of_lem : (w : List ℕ) (n : ℕ) → 25 ≤ n → get_or (listed w) (n - 25) [] ≡ name_of w n
name_of_lem w n h = rw (le-leb 25 n h)

-- the part that `nth` gives, or an empty one
pub nth_named : (r : Option (Bor Name)) (d : Bor Name) (l : List Name) (k : ℕ) → option_map (λ n. n.now) r ≡ slice_get l k → d.now ≡ [] → (unwrap_or r d).now ≡ get_or l k []
nth_named r d l k e z = cases r e ∙ unwrap_or-slice_get l k []
  where
    cases : (r : Option (Bor Name)) → option_map (λ n. n.now) r ≡ slice_get l k → (unwrap_or r d).now ≡ unwrap_or (slice_get l k) []
    cases None e = z ∙ ap (λ (o : Option Name). unwrap_or o []) e
    cases (Some x) e = ap (λ (o : Option Name). unwrap_or o []) e

-- Tables of starts.

-- name n of the list w starts at s, and the next one at t
pub record Cut (w : List ℕ) (s t : ℕ) (n : Name) : Type 0 where
  pub rises : s < t
  pub within : t ≤ length w + 1
  pub bytes : n ≡ take (t - 1 - s) (drop s w)

-- name k of the names l that stand from place `at` on is cut so
abbrev Cuts : List ℕ → ℕ → List Name → ℕ → Type 0
Cuts w at l k = k < length l → Cut w (get_or (starts_from at l) k 0) (get_or (starts_from at l) (suc k) 0) (get_or l k [])

starts_first : (at : ℕ) (l : List Name) → get_or (starts_from at l) 0 0 ≡ at
starts_first at [] = refl
starts_first at (n ∷ l) = refl

pub starts_length : (at : ℕ) (l : List Name) → length (starts_from at l) ≡ suc (length l)
starts_length at [] = refl
starts_length at (n ∷ l) = ap suc (starts_length (at + length n + 1) l)

module _ {w : List ℕ} {at e : ℕ} (n : Ends w at e) where
  first_cut : Cuts w at (listed (drop at w)) 0
  first_cut _ =
      let m : e + 1 - 1 - at ≡ e - at = omega arith in
      rw (next_start n, next_name n, starts_first (e + 1) (listed (drop (e + 1) w))) (record { rises = omega arith; within = omega arith; bytes = rw m })

  later_cut : (k : ℕ) → Cuts w (e + 1) (listed (drop (e + 1) w)) k → Cuts w at (listed (drop at w)) (suc k)
  later_cut k c h = rw (next_start n, next_name n) (c (omega (arith, next_count n)))

found : (w : List ℕ) (at : ℕ) → at < length w → Ends w at (at + first_size (drop at w))
found w at h = record { inside = h; size = refl; within = omega (arith, first_size_lem (drop at w), length-drop at w) }

no_cut : (w : List ℕ) (at k : ℕ) → length w ≤ at → Cuts w at (listed (drop at w)) k
no_cut w at k out h = absurd (omega (arith, ap length (past_end w at out)))

cuts : (k : ℕ) (w : List ℕ) (at : ℕ) → Cuts w at (listed (drop at w)) k
cuts zero w at = ⊎_elim (λ h. first_cut (found w at h)) (no_cut w at 0) (side at (length w))
cuts (suc k) w at = ⊎_elim (λ h. later_cut (found w at h) k (cuts k w (at + first_size (drop at w) + 1))) (no_cut w at (suc k)) (side at (length w))

-- a table t of the starts of w cuts w into its names
module _ (w : List ℕ) {t : List ℕ} (table : t ≡ starts w) where
  pub table_size : length t ≡ suc (length (listed w))
  table_size = ap length table ∙ starts_length 0 (listed w)

  name_inside : (k : ℕ) → k + 1 < length t → k < length (listed w)
  name_inside k h = omega (arith, table_size)

  pub cut : (k : ℕ) → k + 1 < length t → Cut w (get_or t k 0) (get_or t (k + 1) 0) (get_or (listed w) k [])
  cut k h = rw (table, add-one) (cuts k w 0 (name_inside k h))
