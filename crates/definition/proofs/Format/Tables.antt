-- A table is what its entries say.
use mathlib.Core.Path.{◌≡◌, refl, sym, ap, ◌∙◌}
use mathlib.Core.Logic.{◌⊎◌, inl, inr}
use mathlib.Core.List.{List, [], ◌∷◌, map}
use Prim.Native.Nat.{ℕ, zero, suc, ◌+◌, ◌<◌, ◌≤◌}
use native.Mathlib.Omega.{arith}
use native.Mathlib.Nat.{zero-add, add-zero}
use lib.ListN.{length, get_or, length-append, get_or-append}
use lib.Seq.{get_or_at}
use Rattle.definition.specs.Basics.{from}
use Rattle.definition.specs.Format.{table, at}
use Rattle.definition.proofs.Lists.Tests.{ℕ-trichotomy}

module _ (e : List ℕ → ℕ → ℕ) where
  pub table_length : (n : ℕ) → length (table e n) ≡ n
  table_length zero = refl
  table_length (suc n) = length-append (table e n) (e (table e n) n ∷ []) ∙ omega (arith, table_length n)

  pub table_last : (n : ℕ) → at (table e (suc n)) n ≡ e (table e n) n
  table_last n = get_or_at (table e n) (e (table e n) n) [] 0 n (table_length n)

  table_before : (n r : ℕ) → r < n → at (table e (suc n)) r ≡ at (table e n) r
  table_before n r l = get_or-append (table e n) (e (table e n) n ∷ []) 0 r (omega (arith, table_length n))

  -- an entry stays
  pub table_keep : (n m r : ℕ) → r < m → m ≤ n → at (table e n) r ≡ at (table e m) r
  table_keep zero m r l h = absurd (omega arith)
  table_keep (suc n) m r l h = go (table_keep n m r l) (ℕ-trichotomy m (suc n))
    where
      go : (m ≤ n → at (table e n) r ≡ at (table e m) r) → (m < suc n) ⊎ ((m ≡ suc n) ⊎ (suc n < m)) → at (table e (suc n)) r ≡ at (table e m) r
      go f (inl x) = table_before n r (omega arith) ∙ f (omega arith)
      go f (inr (inl x)) = ap (λ (k : ℕ). at (table e k) r) (sym x)
      go f (inr (inr x)) = absurd (omega arith)

  pub table_at : (n r : ℕ) → r < n → at (table e n) r ≡ e (table e r) r
  table_at n r l = table_keep n (suc r) r (omega arith) l ∙ table_last r

  -- an entry that reads only an earlier place q is made of the whole table
  pub table_from : (n r q : ℕ) → r < n → q < r → ((t u : List ℕ) → at t q ≡ at u q → e t r ≡ e u r) → at (table e n) r ≡ e (table e n) r
  table_from n r q l h local = table_at n r l ∙ local (table e r) (table e n) (sym (table_keep n r q h (omega arith)))

map_from : (f : ℕ → ℕ) (k m r : ℕ) → r < m → get_or (map f (from k m)) r 0 ≡ f (k + r)
map_from f k zero r l = absurd (omega arith)
map_from f k (suc m) zero l = rw add-zero refl
map_from f k (suc m) (suc r) l =
    let q : k + suc r ≡ suc k + r = omega arith in
    rw q (map_from f (suc k) m r (omega arith))

pub map_below : (f : ℕ → ℕ) (n r : ℕ) → r < n → at (map f (from 0 n)) r ≡ f r
map_below f n r l = map_from f 0 n r l ∙ ap f (zero-add r)
