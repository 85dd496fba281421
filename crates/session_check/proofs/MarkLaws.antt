-- Marks by name number: names that get a mark one after another are all without it exactly if no two are the same.
use mathlib.Core.Path.{◌≡◌, refl, sym, ap, ◌∙◌, subst}
use mathlib.Core.Logic.{◌⊎◌, inl, inr}
use mathlib.Core.Bool.{Bool, true, false, not, ◌&&◌, ◌||◌}
use mathlib.Core.List.{List, [], ◌∷◌, map}
use Prim.Native.Nat.{ℕ, zero, suc, ◌+◌, ◌-◌, ◌<◌, ◌≤◌}
use native.Mathlib.Omega.{arith}
use lib.Dec.{eqb, leb, T}
use lib.ListN.{length, get_or, set, replicate, length-set}
use lib.Seq.{get_or-set_same, get_or-set_other}
use borrow.Author.Tests.{eq-eqb, ne_eqb, leb-true}
use Rattle.definition.specs.Basics.{when◌then◌else◌, all, any, unlike, from}
use Rattle.definition.proofs.Lists.Tests.{ℕ-trichotomy}
use Rattle.session_check.specs.Clauses.{is_fresh, are_fresh, Under, member_name, names_apart}
use Rattle.session_rows.proofs.RunLaws.{and_true, all_map, from_step, from_end}

-- does a name of xs have the mark v?
abbrev meets : ℕ → List ℕ → List ℕ → Bool
meets v m xs = any (λ x. eqb (get_or m x 0) v) xs

module _ (last v : ℕ) where
  abbrev within : ℕ → Bool
  within x = leb 1 x && leb x last

  -- after x has the mark, a name has it exactly if it did before or is x
  mark_one : (m : List ℕ) (x y : ℕ) → x < length m → eqb (get_or (set m x v) y 0) v ≡ (eqb x y || eqb (get_or m y 0) v)
  mark_one m x y l = go (ℕ-trichotomy x y)
    where
      other : (y ≡ x → ⊥) → eqb (get_or (set m x v) y 0) v ≡ (eqb x y || eqb (get_or m y 0) v)
      other f =
          ap (λ (z : ℕ). eqb z v) (get_or-set_other m x y v 0 f) ∙ ap (λ (t : Bool). t || eqb (get_or m y 0) v) (sym (ne_eqb x y (λ e. f (sym e))))

      go : (x < y) ⊎ ((x ≡ y) ⊎ (y < x)) → eqb (get_or (set m x v) y 0) v ≡ (eqb x y || eqb (get_or m y 0) v)
      go (inl h) = other (λ e. omega arith)
      go (inr (inl e)) =
          eq-eqb (get_or (set m x v) y 0) v (ap (λ (z : ℕ). get_or (set m x v) z 0) (sym e) ∙ get_or-set_same m x v 0 l)
          ∙ ap (λ (t : Bool). t || eqb (get_or m y 0) v) (sym (eq-eqb x y e))
      go (inr (inr h)) = other (λ e. omega arith)

  swap : (a b c d : Bool) → (a || b || (c || d)) ≡ (a || c || (b || d))
  swap true b c d = refl
  swap false true true d = refl
  swap false true false d = refl
  swap false false true d = refl
  swap false false false d = refl

  meets_one : (m : List ℕ) (x : ℕ) (ys : List ℕ) → x < length m → meets v (set m x v) ys ≡ (any (eqb x) ys || meets v m ys)
  meets_one m x [] l = refl
  meets_one m x (y ∷ ys) l =
      ap (λ (t : Bool). t || meets v (set m x v) ys) (mark_one m x y l) ∙ ap (λ (t : Bool). (eqb x y || eqb (get_or m y 0) v) || t) (meets_one m x ys l)
      ∙ swap (eqb x y) (eqb (get_or m y 0) v) (any (eqb x) ys) (meets v m ys)

  regroup : (r n a b u d : Bool) → (r && not n && (a && u && not (d || b))) ≡ (r && a && (not d && u) && not (n || b))
  regroup false n a b u d = refl
  regroup true true true b true true = refl
  regroup true true true b true false = refl
  regroup true true true b false true = refl
  regroup true true true b false false = refl
  regroup true true false b u d = refl
  regroup true false true b true true = refl
  regroup true false true b true false = refl
  regroup true false true b false true = refl
  regroup true false true b false false = refl
  regroup true false false b u d = refl

  refuse : (r n : Bool) {y z : Bool} → (r ≡ true → y ≡ z) → (r && not n && y) ≡ (r && not n && z)
  refuse false n f = refl
  refuse true n f = ap (λ (t : Bool). not n && t) (f refl)

  pub within_below : (x : ℕ) (m : List ℕ) → last < length m → within x ≡ true → x < length m
  within_below x m l e = go (leb 1 x) refl
    where
      go : (t : Bool) → leb 1 x ≡ t → x < length m
      go true w = omega (arith, leb-true x last (ap (λ (t : Bool). t && leb x last) (sym w) ∙ e))
      go false w = absurd (subst T (sym (ap (λ (t : Bool). t && leb x last) (sym w) ∙ e)) tt)

  -- the tests one by one are: all are names, no two are the same, none has the mark
  fresh_all : (m xs : List ℕ) → last < length m → are_fresh last v m xs ≡ (all within xs && unlike eqb xs && not (meets v m xs))
  unfolding are_fresh is_fresh
  fresh_all m [] l = refl
  fresh_all m (x ∷ xs) l =
      refuse (within x) (eqb (get_or m x 0) v) (λ e. rest (within_below x m l e) (fresh_all (set m x v) xs (omega (arith, length-set m x v))))
      ∙ regroup (within x) (eqb (get_or m x 0) v) (all within xs) (meets v m xs) (unlike eqb xs) (any (eqb x) xs)
    where
      rest : x < length m → are_fresh last v (set m x v) xs ≡ (all within xs && unlike eqb xs && not (meets v (set m x v) xs))
          → are_fresh last v (set m x v) xs ≡ (all within xs && unlike eqb xs && not (any (eqb x) xs || meets v m xs))
      rest h e = e ∙ ap (λ (t : Bool). all within xs && unlike eqb xs && not t) (meets_one m x xs h)

  meets_none : (m xs : List ℕ) → Under m v → meets v m xs ≡ false
  meets_none m [] u = refl
  meets_none m (x ∷ xs) u = ap (λ (t : Bool). t || meets v m xs) (ne_eqb (get_or m x 0) v (λ e. omega (arith, u.each x))) ∙ meets_none m xs u

  -- with a mark that is nowhere yet
  pub fresh_apart : (m xs : List ℕ) → last < length m → Under m v → are_fresh last v m xs ≡ (all within xs && unlike eqb xs)
  fresh_apart m xs l u =
      fresh_all m xs l ∙ ap (λ (t : Bool). all within xs && unlike eqb xs && not t) (meets_none m xs u) ∙ and_true (all within xs && unlike eqb xs)

  -- a name that is without the mark is a name
  pub fresh_below : (m : List ℕ) (x : ℕ) {t : Bool} → last < length m → t ≡ is_fresh last v m x → t ≡ true → x < length m
  unfolding is_fresh
  fresh_below m x l e y = go (within x) refl
    where
      go : (t : Bool) → within x ≡ t → x < length m
      go true w = within_below x m l w
      go false w = absurd (subst T (sym (ap (λ (t : Bool). t && not (eqb (get_or m x 0) v)) (sym w) ∙ sym e ∙ y)) tt)

-- the names of members, as a loop reads them
module _ (w : List ℕ) (last v : ℕ) where
  -- what is left to ask from member a on
  abbrev pub left : List ℕ → ℕ → ℕ → Bool
  left m a b = are_fresh last v m (map (member_name w) (from a (b - a)))

  pub left_start : (m : List ℕ) (a b : ℕ) → last < length m → Under m v → left m a b ≡ names_apart w last a b
  unfolding names_apart
  left_start m a b l u =
      fresh_apart last v m (map (member_name w) (from a (b - a))) l u
      ∙ ap (λ (t : Bool). t && unlike eqb (map (member_name w) (from a (b - a)))) (all_map (λ x. leb 1 x && leb x last) (member_name w) (from a (b - a)))

  left_step : (m : List ℕ) (a b : ℕ) → a < b → left m a b ≡ (is_fresh last v m (member_name w a) && left (set m (member_name w a) v) (a + 1) b)
  unfolding are_fresh
  left_step m a b l = ap (λ (xs : List ℕ). are_fresh last v m (map (member_name w) xs)) (from_step a b l)

  pub left_refused : (m : List ℕ) (a b : ℕ) {x y : Bool} {k : ℕ} → a < b → k ≡ member_name w a → x ≡ is_fresh last v m k → x ≡ false → left m a b ≡ y → false ≡ y
  left_refused m a b l e f n i =
      ap (λ (t : Bool). t && left (set m (member_name w a) v) (a + 1) b) (sym n ∙ f ∙ ap (is_fresh last v m) e) ∙ sym (left_step m a b l) ∙ i

  pub left_next : (m u : List ℕ) (a b : ℕ) {x y : Bool} {k : ℕ} → a < b → k ≡ member_name w a → x ≡ is_fresh last v m k → x ≡ true → u ≡ set m k v → left m a b ≡ y
      → left u (a + 1) b ≡ y
  left_next m u a b {k = k} l e f n g i =
      ap (λ (z : List ℕ). left z (a + 1) b) (g ∙ ap (λ (j : ℕ). set m j v) e)
      ∙ ap (λ (t : Bool). t && left (set m (member_name w a) v) (a + 1) b) (sym n ∙ f ∙ ap (is_fresh last v m) e) ∙ sym (left_step m a b l) ∙ i

  pub left_done : (m : List ℕ) (a b : ℕ) {y : Bool} → b ≤ a → left m a b ≡ y → true ≡ y
  unfolding are_fresh
  left_done m a b l i = sym (ap (λ (xs : List ℕ). are_fresh last v m (map (member_name w) xs)) (from_end a b l)) ∙ i

-- the marks after one name
pub marked_if : (m u : List ℕ) (x v : ℕ) {t : Bool} → u ≡ (when t then set m x v else m) → t ≡ true → u ≡ set m x v
marked_if m u x v e y = e ∙ ap (λ (b : Bool). when b then set m x v else m) y

pub unmarked_if : (m u : List ℕ) (x v : ℕ) {t : Bool} → u ≡ (when t then set m x v else m) → t ≡ false → u ≡ m
unmarked_if m u x v e y = e ∙ ap (λ (b : Bool). when b then set m x v else m) y

-- bounds of marks
pub under_le : {m : List ℕ} {v u : ℕ} → Under m v → v ≤ u → Under m u
under_le f l = record { each = λ i. omega (arith, f.each i) }

pub set_under : {m : List ℕ} {v : ℕ} (x : ℕ) → x < length m → Under m (suc v) → Under (set m x v) (suc v)
set_under {m} {v} x l u = record { each = λ i. go i (ℕ-trichotomy i x) }
  where
    go : (i : ℕ) → (i < x) ⊎ ((i ≡ x) ⊎ (x < i)) → get_or (set m x v) i 0 < suc v
    go i (inl h) = omega (arith, u.each i, get_or-set_other m x i v 0 (λ e. omega arith))
    go i (inr (inl e)) = omega (arith, ap (λ (z : ℕ). get_or (set m x v) z 0) e ∙ get_or-set_same m x v 0 l)
    go i (inr (inr h)) = omega (arith, u.each i, get_or-set_other m x i v 0 (λ e. omega arith))

pub zeros_under : (n : ℕ) → Under (replicate n 0) 1
zeros_under n = record { each = λ i. omega (arith, zero_at n i) }
  where
    zero_at : (n i : ℕ) → ◌≡◌ {A = ℕ} (get_or (replicate n 0) i 0) 0
    zero_at zero i = refl
    zero_at (suc n) zero = refl
    zero_at (suc n) (suc i) = zero_at n i
