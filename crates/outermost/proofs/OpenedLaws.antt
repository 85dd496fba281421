-- The names from outside, opened row by row from the last.
use mathlib.Core.Path.{◌≡◌, sym, ap, ◌∙◌}
use mathlib.Core.List.{List, ◌∷◌, map}
use Prim.Native.Nat.{ℕ, zero, suc, ◌-◌, ◌<◌, ◌≤◌, min}
use native.Mathlib.Omega.{arith}
use Rattle.definition.specs.Basics.{from}
use Rattle.definition.specs.Sheet.{Sheet, word}
use Rattle.definition.specs.Meaning.{Named}
use Rattle.outside.specs.Words.{name_at, over}
use Rattle.machine.specs.Machine.{Scopes, push_name, open_names}

-- the names of the rows from row i to row n
abbrev pub names_from : List ℕ → ℕ → ℕ → List Named
names_from w i n = map (name_at w) (from i (n - i))

pub names_last : (s : Sheet) (w : List ℕ) (n : ℕ) (p : Scopes) → p ≡ open_names s (names_from w n n) p
names_last s w n p = let z : n - n ≡ 0 = omega arith in sym (ap (λ (k : ℕ). open_names s (map (name_at w) (from n k)) p) z)

-- one name more, that of the row before row i
pub names_more : (s : Sheet) (w : List ℕ) (i n : ℕ) (p q : Scopes) {m : ℕ} → 1 < i → i ≤ n → q ≡ open_names s (names_from w i n) p → m ≡ word w (i - 1) 0
    → push_name s m (name_at w (i - 1)).means q ≡ open_names s (names_from w (i - 1) n) p
unfolding name_at
names_more s w i n p q {m} l h e g =
    ap (λ (k : ℕ). push_name s k (name_at w (i - 1)).means q) g ∙ ap (push_name s (word w (i - 1) 0) (name_at w (i - 1)).means) e
    ∙ sym (ap (λ (xs : List Named). open_names s xs p) (ap (λ (k : ℕ). map (name_at w) (from (i - 1) k)) more ∙ ap (λ (k : ℕ). name_at w (i - 1) ∷ map (name_at w) (from k (n - i))) next))
  where
    more : n - (i - 1) ≡ suc (n - i)
    more = omega arith

    next : suc (i - 1) ≡ i
    next = omega arith

-- all names: no row is left before row i
pub names_all : (s : Sheet) (w : List ℕ) (i n : ℕ) (p : Scopes) {q : Scopes} → i ≤ 1 → i ≤ n → min n 1 ≤ i → n ≡ word w 0 0 → q ≡ open_names s (names_from w i n) p
    → q ≡ open_names s (over w).names p
unfolding over
names_all s w i n p l h f g e = e ∙ ap (λ (xs : List Named). open_names s xs p) (by n l h f ∙ ap (λ (k : ℕ). map (name_at w) (from 1 (k - 1))) g)
  where
    by : (n : ℕ) → i ≤ 1 → i ≤ n → min n 1 ≤ i → names_from w i n ≡ map (name_at w) (from 1 (n - 1))
    by zero l h f = let z : 0 - i ≡ 0 = omega arith in ap (λ (k : ℕ). map (name_at w) (from i k)) z
    by (suc m) l h f = let z : i ≡ 1 = omega arith in ap (λ (k : ℕ). map (name_at w) (from k (suc m - k))) z
