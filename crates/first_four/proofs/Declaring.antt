-- Word 7 of a class: the row that declares it.
use mathlib.Core.Path.{◌≡◌, refl, sym, ap, ◌∙◌, subst}
use mathlib.Core.Logic.{◌⊎◌, inl, inr}
use mathlib.Core.Bool.{Bool, true, false, not, ◌||◌}
use mathlib.Core.List.{List}
use Prim.Native.Nat.{ℕ, zero, suc, ◌+◌, ◌*◌, ◌<◌, ◌≤◌}
use native.Mathlib.Omega.{arith}
use lib.Dec.{eqb, T, T_not, eqb→eq}
use lib.ListN.{length}
use Rattle.definition.specs.Basics.{bit, count, from}
use Rattle.definition.specs.Sheet.{Sheet, word, kind, a, is}
use Rattle.definition.proofs.Lists.Tests.{or_cases, or_left, or_right, decide, eqb_of, bit_not, ℕ-trichotomy}
use Rattle.definition.proofs.Lists.Members.{count_append}
use Rattle.definition.proofs.Format.Passes.{from_suc}
use Rattle.row_fits.specs.Pass.{row_in, new_ok, note_row}
use Rattle.first_four.proofs.Noting.{seven_stays, seven_noted}

-- no row below r declares class c, or one does, and its number stands in word 7
pub data Declared (s : Sheet) (r : ℕ) (t : List ℕ) (c : ℕ) : Type 0 where
  none : word t c 7 ≡ 0 → ((d : ℕ) → d < r → T (is s 30 d) → a s d ≡ c → ⊥) → Declared s r t c
  by : (d : ℕ) → d < r → T (is s 30 d) → a s d ≡ c → word t c 7 ≡ d → ((e : ℕ) → e < r → T (is s 30 e) → a s e ≡ c → e ≡ d) → Declared s r t c

module _ (s : Sheet) (top : kind s 0 ≡ 0) where
  not_top : (d : ℕ) → T (is s 30 d) → d ≡ 0 → ⊥
  not_top d h e = let k : kind s d ≡ 30 = eqb→eq (kind s d) 30 h in let j : kind s d ≡ 0 = ap (kind s) e ∙ top in omega arith

  pub declared_none : (t : List ℕ) → ((k : ℕ) → word t k 7 ≡ 0) → (c : ℕ) → Declared s 0 t c
  declared_none t z c = none (z c) (λ d h. absurd (omega arith))

  -- one row more
  module _ (r : ℕ) (t : List ℕ) (c : ℕ) (long : 8 * c + 8 ≤ length t) where
    lower : (d : ℕ) → d < suc r → (d ≡ r → ⊥) → d < r
    lower d h f = go (ℕ-trichotomy d r)
      where
        go : (d < r) ⊎ ((d ≡ r) ⊎ (r < d)) → d < r
        go (inl x) = x
        go (inr (inl e)) = absurd (f e)
        go (inr (inr x)) = absurd (omega arith)

    -- r declares another class, or none
    other : (T (is s 30 r) → a s r ≡ c → ⊥) → Declared s r t c → Declared s (suc r) (note_row s r t) c
    other f w = go w
      where
        stays : word (note_row s r t) c 7 ≡ word t c 7
        stays = seven_stays s r t c (λ k e. f (eqb_of (kind s r) 30 k) (sym e))

        not_r : (d : ℕ) → T (is s 30 d) → a s d ≡ c → d ≡ r → ⊥
        not_r d h e q = f (subst (λ (x : ℕ). T (is s 30 x)) q h) (ap (a s) (sym q) ∙ e)

        go : Declared s r t c → Declared s (suc r) (note_row s r t) c
        go (none z g) = none (stays ∙ z) (λ d h k e. g d (lower d h (not_r d k e)) k e)
        go (by d h k e q u) = by d (omega arith) k e (stays ∙ q) (λ x y m n. u x (lower x y (not_r x m n)) m n)

    mine : T (is s 30 r) → a s r ≡ c → word t c 7 ≡ 0 → Declared s r t c → Declared s (suc r) (note_row s r t) c
    mine h e z w = go w
      where
        noted : word (note_row s r t) c 7 ≡ r
        noted = subst (λ (x : ℕ). word (note_row s r t) x 7 ≡ r) e (seven_noted s r t (eqb→eq (kind s r) 30 h) (subst (λ (x : ℕ). 8 * x + 8 ≤ length t) (sym e) long))

        go : Declared s r t c → Declared s (suc r) (note_row s r t) c
        go (none y g) = by r (omega arith) h e noted (λ x p m n. last x p m n (ℕ-trichotomy x r))
          where
            last : (x : ℕ) → x < suc r → T (is s 30 x) → a s x ≡ c → (x < r) ⊎ ((x ≡ r) ⊎ (r < x)) → x ≡ r
            last x p m n (inl q) = absurd (g x q m n)
            last x p m n (inr (inl q)) = q
            last x p m n (inr (inr q)) = absurd (omega arith)
        go (by d y k q v u) = absurd (not_top d k (sym v ∙ z))

    pub declared_more : (T (is s 30 r) → a s r ≡ c → word t c 7 ≡ 0) → Declared s r t c → Declared s (suc r) (note_row s r t) c
    declared_more new w = go (decide (is s 30 r)) (decide (eqb (a s r) c))
      where
        go : T (is s 30 r) ⊎ T (not (is s 30 r)) → T (eqb (a s r) c) ⊎ T (not (eqb (a s r) c)) → Declared s (suc r) (note_row s r t) c
        go (inl h) (inl e) = mine h (eqb→eq (a s r) c e) (new h (eqb→eq (a s r) c e)) w
        go (inl h) (inr e) = other (λ x y. T_not (eqb (a s r) c) e (eqb_of (a s r) c y)) w
        go (inr h) e = other (λ x y. T_not (is s 30 r) h x) w

-- what the test says of the word, and back
pub new_gives : (s : Sheet) (r : ℕ) (t : List ℕ) → T (new_ok t (row_in s r)) → T (is s 30 r) → word t (a s r) 7 ≡ 0
unfolding new_ok
new_gives s r t h k = go (or_cases (not (is s 30 r)) (eqb (word t (a s r) 7) 0) h)
  where
    go : T (not (is s 30 r)) ⊎ T (eqb (word t (a s r) 7) 0) → word t (a s r) 7 ≡ 0
    go (inl x) = absurd (T_not (is s 30 r) x k)
    go (inr x) = eqb→eq (word t (a s r) 7) 0 x

pub gives_new : (s : Sheet) (r : ℕ) (t : List ℕ) → (T (is s 30 r) → word t (a s r) 7 ≡ 0) → T (new_ok t (row_in s r))
unfolding new_ok
gives_new s r t f = go (decide (is s 30 r))
  where
    go : T (is s 30 r) ⊎ T (not (is s 30 r)) → T (not (is s 30 r) || eqb (word t (a s r) 7) 0)
    go (inl h) = or_right (not (is s 30 r)) (eqb (word t (a s r) 7) 0) (eqb_of (word t (a s r) 7) 0 (f h))
    go (inr h) = or_left (not (is s 30 r)) (eqb (word t (a s r) 7) 0) h

-- a test that one row passes, and no other, is passed once
module _ (p : ℕ → Bool) where
  count_suc : (m : ℕ) → count p (from 0 (suc m)) ≡ count p (from 0 m) + bit (p m)
  count_suc m = ap (count p) (from_suc m) ∙ count_append p (from 0 m) _ ∙ omega arith

  bit_yes : (t : Bool) → T t → bit t ≡ 1
  bit_yes true h = refl
  bit_yes false h = absurd h

  pub count_zero : (n : ℕ) → ((e : ℕ) → e < n → T (p e) → ⊥) → count p (from 0 n) ≡ 0
  count_zero zero f = refl
  count_zero (suc n) f = omega (arith, count_suc n, count_zero n (λ e h. f e (omega arith)), bit_not (p n) (f n (omega arith)))

  pub count_one : (n d : ℕ) → d < n → T (p d) → ((e : ℕ) → e < n → T (p e) → e ≡ d) → count p (from 0 n) ≡ 1
  count_one zero d h k f = absurd (omega arith)
  count_one (suc n) d h k f = go (ℕ-trichotomy d n) (count_one n d)
    where
      go : (d < n) ⊎ ((d ≡ n) ⊎ (n < d)) → (d < n → T (p d) → ((e : ℕ) → e < n → T (p e) → e ≡ d) → count p (from 0 n) ≡ 1) → count p (from 0 (suc n)) ≡ 1
      go (inl x) up = omega (arith, count_suc n, up x k (λ e y. f e (omega arith)), bit_not (p n) (λ y. let q : n ≡ d = f n (omega arith) y in omega arith))
      go (inr (inl e)) up =
          omega (arith, count_suc n, count_zero n (λ x y z. let q : x ≡ d = f x (omega arith) z in omega arith), bit_yes (p n) (subst (λ (x : ℕ). T (p x)) e k))
      go (inr (inr x)) up = absurd (omega arith)
