-- Tests of the numbers from a on and below b, as loops make them.
use mathlib.Core.Path.{◌≡◌, refl, sym, ap, ◌∙◌}
use mathlib.Core.Bool.{Bool, true, false, not, ◌&&◌, ◌||◌}
use mathlib.Core.List.{List, [], ◌∷◌, ◌++◌, map}
use Prim.Native.Nat.{ℕ, zero, suc, ◌+◌, ◌-◌, ◌<◌, ◌≤◌}
use native.Mathlib.Omega.{arith}
use borrow.Author.Tests.{not-true, not-false}
use denote.Param.Members.{Mut}
use Rattle.std.proofs.lemmas.Iterator.{YieldsList-from_range}
use Rattle.std.proofs.lemmas.Iterator.Search.{all_from_yields_List}
use Rattle.std.specs.Prelude.{Option, MatchOption}
use Rattle.std.specs.declared.ops.Range.{Range}
use Rattle.std.specs.Fn.{Called}
use Rattle.std.specs.List.{FoldsTo, list_all}
use Rattle.std.specs.Iterator.{YieldsThen}
use Rattle.std.proofs.iter.Yields.{nat_range_steps}
use Rattle.definition.proofs.Lists.Library.{range_same, list_all_same}
use Rattle.definition.specs.Basics.{all, any, from, total}

pub and_true : (x : Bool) → (x && true) ≡ x
and_true true = refl
and_true false = refl

pub all_map : {A B : Type 0} (p : B → Bool) (f : A → B) (xs : List A) → all p (map f xs) ≡ all (λ x. p (f x)) xs
all_map p f [] = refl
all_map p f (x ∷ xs) = ap (λ (t : Bool). p (f x) && t) (all_map p f xs)

pub from_step : (a b : ℕ) → a < b → from a (b - a) ≡ a ∷ from (a + 1) (b - (a + 1))
from_step a b l =
    let k : b - a ≡ suc (b - (a + 1)) = omega arith in
    let s : suc a ≡ a + 1 = omega arith in
    ap (from a) k ∙ ap (λ (i : ℕ). a ∷ from i (b - (a + 1))) s

pub from_end : (a b : ℕ) → b ≤ a → from a (b - a) ≡ []
from_end a b l = let k : b - a ≡ 0 = omega arith in ap (from a) k

pub from_join : (a k l : ℕ) → from a (k + l) ≡ from a k ++ from (a + k) l
from_join a zero l =
    let e : zero + l ≡ l = omega arith in
    let s : a ≡ a + zero = omega arith in
    ap (from a) e ∙ ap (λ (i : ℕ). from i l) s
from_join a (suc k) l =
    let e : suc k + l ≡ suc (k + l) = omega arith in
    let s : suc a + k ≡ a + suc k = omega arith in
    ap (from a) e ∙ ap (λ (xs : List ℕ). a ∷ xs) (from_join (suc a) k l ∙ ap (λ (i : ℕ). from (suc a) k ++ from i l) s)

pub from_cut : (a m b : ℕ) → a ≤ m → m ≤ b → from a (b - a) ≡ from a (m - a) ++ from m (b - m)
from_cut a m b l h =
    let e : b - a ≡ (m - a) + (b - m) = omega arith in
    let s : a + (m - a) ≡ m = omega arith in
    ap (from a) e ∙ from_join a (m - a) (b - m) ∙ ap (λ (i : ℕ). from a (m - a) ++ from i (b - m)) s

-- Tests of all.
module _ (p : ℕ → Bool) where
  all_step : (a b : ℕ) → a < b → all p (from a (b - a)) ≡ (p a && all p (from (a + 1) (b - (a + 1))))
  all_step a b l = ap (all p) (from_step a b l)

  pub all_refused : (a b : ℕ) {x w : Bool} → a < b → x ≡ p a → not x ≡ true → all p (from a (b - a)) ≡ w → false ≡ w
  all_refused a b {x} l e n i = ap (λ (t : Bool). t && all p (from (a + 1) (b - (a + 1)))) (sym (not-true x n) ∙ e) ∙ sym (all_step a b l) ∙ i

  pub all_next : (a b : ℕ) {x w : Bool} → a < b → x ≡ p a → not x ≡ false → all p (from a (b - a)) ≡ w → all p (from (a + 1) (b - (a + 1))) ≡ w
  all_next a b {x} l e n i = ap (λ (t : Bool). t && all p (from (a + 1) (b - (a + 1)))) (sym (not-false x n) ∙ e) ∙ sym (all_step a b l) ∙ i

  pub all_done : (a b : ℕ) {w : Bool} → b ≤ a → all p (from a (b - a)) ≡ w → true ≡ w
  all_done a b l i = sym (ap (all p) (from_end a b l)) ∙ i

  pub all_start : (n : ℕ) {m : ℕ} → n ≡ m → all p (from 0 (n - 0)) ≡ all p (from 0 m)
  all_start n {m} q = let e : n - 0 ≡ m = omega arith in ap (λ (k : ℕ). all p (from 0 k)) e

-- What `all` answers of the numbers from a on and below b.
module _ {F : Type 0} {g : Mut F (ℕ × Unit {0}) Bool} (p : ℕ → Bool) {s u : Range ℕ} {f : F} {r : Bool}
    (ran : (xs : List ℕ) × (o : Option ℕ) × (j : F) × YieldsThen nat_range_steps s xs o u × FoldsTo (λ p x q. Called g p (x, tt) true q) f xs j
    × MatchOption o (r ≡ true) (λ x. (r ≡ false) × ((h : F) × Called g j (x, tt) false h))) where
  by_count : (a b n : ℕ) → s ≡ record { start = a; end = b } → b - a ≡ n → ((x : ℕ) (t : Bool) (q : F) → Called g f (x, tt) t q → (q ≡ f) × (t ≡ p x)) → r ≡ all p (from a n)
  by_count a b n e l k = all_from_yields_List p u f r ran (YieldsList-from_range a b n e l) k ∙ ap (list_all p) (range_same a n) ∙ list_all_same p (from a n)

  pub all_between : (a b : ℕ) → s ≡ record { start = a; end = b } → ((x : ℕ) (t : Bool) (q : F) → Called g f (x, tt) t q → (q ≡ f) × (t ≡ p x)) → r ≡ all p (from a (b - a))
  all_between a b e k = by_count a b (b - a) e refl k

  pub all_below : (n : ℕ) → s ≡ record { start = 0; end = n } → ((x : ℕ) (t : Bool) (q : F) → Called g f (x, tt) t q → (q ≡ f) × (t ≡ p x)) → r ≡ all p (from 0 n)
  all_below n e k = by_count 0 n n e (omega arith) k

-- Tests of some.
module _ (p : ℕ → Bool) where
  any_append : (xs ys : List ℕ) → any p (xs ++ ys) ≡ (any p xs || any p ys)
  any_append [] ys = refl
  any_append (x ∷ xs) ys = go (p x) (any_append xs ys)
    where
      go : (t : Bool) → any p (xs ++ ys) ≡ (any p xs || any p ys) → (t || any p (xs ++ ys)) ≡ (t || any p xs || any p ys)
      go true e = refl
      go false e = e

  none : (a k : ℕ) → ((i : ℕ) → a ≤ i → i < a + k → p i ≡ false) → any p (from a k) ≡ false
  none a zero f = refl
  none a (suc k) f = ap (λ (t : Bool). t || any p (from (suc a) k)) (f a (omega arith) (omega arith)) ∙ none (suc a) k (λ i l h. f i (omega arith) (omega arith))

  or_none_lem : (x y : Bool) → y ≡ false → (x || y) ≡ x
  or_none_lem true y e = refl
  or_none_lem false y e = e

  or_some : (x y : Bool) → y ≡ true → (x || y) ≡ true
  or_some true y e = refl
  or_some false y e = e

  -- none below m: only those from m on count
  pub any_above : (a m b : ℕ) {w : Bool} → a ≤ m → m ≤ b → ((i : ℕ) → a ≤ i → i < m → p i ≡ false) → any p (from a (b - a)) ≡ w → any p (from m (b - m)) ≡ w
  any_above a m b l h f e =
      ap (λ (t : Bool). t || any p (from m (b - m))) (sym (none a (m - a) (λ i u v. f i u (omega arith)))) ∙ sym (any_append (from a (m - a)) (from m (b - m)))
      ∙ sym (ap (any p) (from_cut a m b l h)) ∙ e

  -- none from m on: only those below count
  pub any_below : (a m b : ℕ) {w : Bool} → a ≤ m → m ≤ b → ((i : ℕ) → m ≤ i → i < b → p i ≡ false) → any p (from a (b - a)) ≡ w → any p (from a (m - a)) ≡ w
  any_below a m b l h f e =
      sym (or_none_lem (any p (from a (m - a))) (any p (from m (b - m))) (none m (b - m) (λ i u v. f i u (omega arith)))) ∙ sym (any_append (from a (m - a)) (from m (b - m)))
      ∙ sym (ap (any p) (from_cut a m b l h)) ∙ e

  -- m is one
  pub any_here : (a m b : ℕ) {w : Bool} → a ≤ m → m < b → p m ≡ true → any p (from a (b - a)) ≡ w → true ≡ w
  any_here a m b l h t e =
      sym (or_some (any p (from a (m - a))) (any p (from m (b - m))) (ap (any p) (from_step m b h) ∙ ap (λ (u : Bool). u || any p (from (m + 1) (b - (m + 1)))) t))
      ∙ sym (any_append (from a (m - a)) (from m (b - m))) ∙ sym (ap (any p) (from_cut a m b l (omega arith))) ∙ e

  pub any_end : (a b : ℕ) {w : Bool} → b ≤ a → any p (from a (b - a)) ≡ w → false ≡ w
  any_end a b l e = sym (ap (any p) (from_end a b l)) ∙ e

-- a sum of one more
pub total_more : (f : ℕ → ℕ) (a k : ℕ) → total f (from a (suc k)) ≡ total f (from a k) + f (a + k)
total_more f a zero = let s : a ≡ a + zero = omega arith in omega (arith, ap f s)
total_more f a (suc k) =
    let s : suc a + k ≡ a + suc k = omega arith in
    omega (arith, total_more f (suc a) k, ap f s)
