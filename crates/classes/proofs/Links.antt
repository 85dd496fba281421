-- Entries written by links.
use mathlib.Core.Path.{◌≡◌, sym, ap, ◌∙◌}
use mathlib.Core.Logic.{◌⊎◌, inl, inr}
use mathlib.Core.List.{List}
use mathlib.Core.Bool.{Bool}
use Prim.Native.Nat.{ℕ, ◌<◌}
use native.Mathlib.Omega.{arith}
use lib.ListN.{length, get_or, set, length-set}
use lib.Seq.{get_or-set_same, get_or-set_other}
use borrow.Author.Tests.{eq-eqb, ne_eqb}
use Rattle.definition.specs.Basics.{when◌then◌else◌}
use Rattle.definition.proofs.Lists.Tests.{ℕ-trichotomy}
use Rattle.classes.specs.Table.{linked}

-- A link of 0 writes nothing.
pub linked_none : (i x : ℕ) (t : List ℕ) → i ≡ 0 → linked i x t ≡ t
unfolding linked
linked_none i x t e = ap (λ (b : Bool). when b then t else set t i x) (eq-eqb i 0 e)

pub linked_some : (i x : ℕ) (t : List ℕ) → (i ≡ 0 → ⊥) → linked i x t ≡ set t i x
unfolding linked
linked_some i x t h = ap (λ (b : Bool). when b then t else set t i x) (ne_eqb i 0 h)

pub zero_or_not : (i : ℕ) → (i ≡ 0) ⊎ (0 < i)
zero_or_not i = go (ℕ-trichotomy i 0)
  where
    go : (i < 0) ⊎ ((i ≡ 0) ⊎ (0 < i)) → (i ≡ 0) ⊎ (0 < i)
    go (inl l) = absurd (omega arith)
    go (inr h) = h

pub linked_length : (i x : ℕ) (t : List ℕ) → length (linked i x t) ≡ length t
linked_length i x t = go (zero_or_not i)
  where
    go : (i ≡ 0) ⊎ (0 < i) → length (linked i x t) ≡ length t
    go (inl e) = ap length (linked_none i x t e)
    go (inr z) = ap length (linked_some i x t (λ e. omega arith)) ∙ length-set t i x

-- The table against the entries g that it is to have.
module _ (g : ℕ → ℕ) (t : List ℕ) (i x : ℕ) where
  -- the entry that is written
  pub linked_at : 0 < i → x ≡ g i → i < length t → get_or (linked i x t) i 0 ≡ g i
  linked_at z e l = ap (λ (u : List ℕ). get_or u i 0) (linked_some i x t (λ q. omega arith)) ∙ get_or-set_same t i x 0 l ∙ e

  -- an entry that is as it should be stays so
  pub linked_keeps : (0 < i → (x ≡ g i) × (i < length t)) → (f : ℕ) → get_or t f 0 ≡ g f → get_or (linked i x t) f 0 ≡ g f
  linked_keeps h f e = go (zero_or_not i) (ℕ-trichotomy f i)
    where
      other : (f ≡ i → ⊥) → 0 < i → get_or (linked i x t) f 0 ≡ g f
      other w z = ap (λ (u : List ℕ). get_or u f 0) (linked_some i x t (λ q. omega arith)) ∙ get_or-set_other t i f x 0 w ∙ e

      go : (i ≡ 0) ⊎ (0 < i) → (f < i) ⊎ ((f ≡ i) ⊎ (i < f)) → get_or (linked i x t) f 0 ≡ g f
      go (inl z) w = ap (λ (u : List ℕ). get_or u f 0) (linked_none i x t z) ∙ e
      go (inr z) (inl l) = other (λ q. omega arith) z
      go (inr z) (inr (inl q)) = ap (λ (j : ℕ). get_or (linked i x t) j 0) q ∙ linked_at z (h z).0 (h z).1 ∙ ap g (sym q)
      go (inr z) (inr (inr l)) = other (λ q. omega arith) z
