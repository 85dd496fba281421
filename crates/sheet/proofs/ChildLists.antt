-- Child lists as the iterators give them, and how long they are.
use Rattle.std.proofs.Common.{◌≡◌, refl, sym, ap, ℕ, zero, suc, ◌+◌, ◌≤◌, Bool, true, false, not, ◌||◌, cond, eqb, List, [], ◌∷◌, length, take, map, Option, None, Some, arith}
use Rattle.std.specs.List.{list_any, prefix_len}
use borrow.Author.Tests.{eq-eqb, ne_eqb, eqb-true, eqb-false}
use Rattle.std.specs.Iterator.{YieldsFirst}
use Rattle.std.specs.Option.{option_map}
use Rattle.std.proofs.lemmas.Iterator.{YieldsList}
use Rattle.std.proofs.lemmas.Iterator.Consumers.{YieldsList-from_first}
use Rattle.definition.specs.Basics.{when◌then◌else◌, filter, place, ◌∈?◌}
use Rattle.definition.specs.Sheet.{Sheet, next, child, a, rows, chain, is, kids, kids_of}
use Rattle.sheet.specs.declared.child_rows.ChildRows.{ChildRows}
use Rattle.sheet.specs.declared.child_rows.KindRows.{KindRows}
use Rattle.sheet.specs.Rest.{rows_left, kind_left}

pub rows_given : {c : ChildRows} {ks : List ℕ} → rows_left c ≡ ks → YieldsList (YieldsFirst rows_left) (λ (k : ℕ). k) c ks
rows_given {c} {ks} e = YieldsList-from_first (λ k. k) rows_left ks e

pub kind_given : {c : KindRows} {ks : List ℕ} → kind_left c ≡ ks → YieldsList (YieldsFirst kind_left) (λ (k : ℕ). k) c ks
kind_given {c} {ks} e = YieldsList-from_first (λ k. k) kind_left ks e

pub same_option : {A : Type 0} {r : Option A} {o : Option A} → option_map (λ x. x) r ≡ o → r ≡ o
same_option {r = None} e = e
same_option {r = Some x} e = e

-- which side comes first in a test does not matter
pub eqb_flip : (x y : ℕ) → eqb x y ≡ eqb y x
eqb_flip x y = go (eqb y x) refl
  where
    go : (t : Bool) → eqb y x ≡ t → eqb x y ≡ t
    go true e = eq-eqb x y (sym (eqb-true y x e))
    go false e = ne_eqb x y (λ h. eqb-false y x e (sym h))

chain_short : (n : ℕ) (s : Sheet) (k : ℕ) → length (chain n s k) ≤ n
chain_short zero s k = omega arith
chain_short (suc n) s zero = omega arith
chain_short (suc n) s (suc k) = omega (arith, chain_short n s (next s (suc k)))

filter_short : (p : ℕ → Bool) (ks : List ℕ) → length (filter p ks) ≤ length ks
filter_short p [] = omega arith
filter_short p (k ∷ ks) = go (p k) (filter_short p ks)
  where
    go : (t : Bool) → length (filter p ks) ≤ length ks → length (when t then k ∷ filter p ks else filter p ks) ≤ suc (length ks)
    go true h = omega arith
    go false h = omega arith

-- no list of children is longer than the sheet has rows
pub kids_short : (s : Sheet) (r : ℕ) → length (kids s r) ≤ rows s
kids_short s r = chain_short (rows s) s (child s r)

pub kids_of_short : (s : Sheet) (j r : ℕ) → length (kids_of s j r) ≤ rows s
kids_of_short s j r = omega (arith, filter_short (is s j) (kids s r), kids_short s r)

pub place_short : (p : ℕ → Bool) (ks : List ℕ) → place p ks ≤ length ks
place_short p [] = omega arith
place_short p (k ∷ ks) = go (p k) (place_short p ks)
  where
    go : (t : Bool) → place p ks ≤ length ks → (when t then 0 else suc (place p ks)) ≤ suc (length ks)
    go true h = omega arith
    go false h = omega arith

-- how many rows come before row r in a list
pub before_row : (r : ℕ) (ks : List ℕ) → length (take (prefix_len (λ k. not (eqb k r)) ks) ks) ≡ place (eqb r) ks
before_row r [] = refl
before_row r (k ∷ ks) = rw (eqb_flip r k) (go (eqb k r) (before_row r ks))
  where
    go : (t : Bool) → length (take (prefix_len (λ k. not (eqb k r)) ks) ks) ≡ place (eqb r) ks
        → length (take (cond (not t) (1 + prefix_len (λ k. not (eqb k r)) ks) 0) (k ∷ ks)) ≡ (when t then 0 else suc (place (eqb r) ks))
    go true e = refl
    go false e = let s : 1 + prefix_len (λ x. not (eqb x r)) ks ≡ suc (prefix_len (λ x. not (eqb x r)) ks) = omega arith in rw s (ap suc e)

-- whether a name is among those of rows
pub name_listed : (s : Sheet) (n : ℕ) (ks : List ℕ) → list_any (λ k. eqb (a s k) n) ks ≡ (n ∈? map (a s) ks)
name_listed s n [] = refl
name_listed s n (k ∷ ks) = rw (eqb_flip n (a s k)) (ap (λ (t : Bool). eqb (a s k) n || t) (name_listed s n ks))
