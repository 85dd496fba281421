-- Finding bytes in a list by question 2, and by its index.
use mathlib.Core.Path.{◌≡◌, refl, sym, ap, ◌∙◌}
use mathlib.Core.Bool.{Bool, true, false}
use mathlib.Core.List.{List}
use Prim.Native.Nat.{ℕ, zero, suc}
use native.Mathlib.Omega.{arith}
use Rattle.std.specs.Prelude.{Option, Some, None}
use Rattle.std.specs.Option.{is_some, unwrap_or}
use lib.ListN.{length, length-append}
use borrow.Author.Tests.{ne_eqb}
use Rattle.definition.specs.Basics.{when◌then◌else◌}
use Rattle.definition.specs.Names.{Name, fixed, listed, names_fit}
use Rattle.definition.proofs.Lists.Tests.{T_true}
use Rattle.names.specs.Listed.{numbered}
use Rattle.names.proofs.Question.{fit_small}
use Rattle.name_index.specs.Index.{place_of, turned, index_of, walk, searched, find, found_number}
use Rattle.name_index.proofs.IndexLaws.{index_size}

-- a number that is not 0 is one that was found
pub some_found : (n : ℕ) → (n ≡ 0 → ⊥) → Some n ≡ found_number n
some_found n f = sym (ap (λ (t : Bool). when t then None else Some n) (ne_eqb n 0 f))

-- printed as a word it is 0 again where nothing was found
pub found_word : (n : ℕ) {o : Option ℕ} → o ≡ found_number n → unwrap_or o 0 ≡ n
found_word zero e = ap (λ (p : Option ℕ). unwrap_or p 0) e
found_word (suc n) e = ap (λ (p : Option ℕ). unwrap_or p 0) (e ∙ sym (some_found (suc n) (λ (z : suc n ≡ 0). omega arith)))

-- and one that was found is not 0
pub found_not : (n : ℕ) (o : Option ℕ) → o ≡ found_number n → is_some o ≡ true → n ≡ 0 → ⊥
found_not n o e s z = T_true false (sym (ap is_some (e ∙ ap found_number z)) ∙ s)

pub none_zero : (n : ℕ) (o : Option ℕ) → o ≡ found_number n → is_some o ≡ false → n ≡ 0
none_zero zero o e s = refl
none_zero (suc n) o e s = absurd (T_true false (sym s ∙ ap is_some (e ∙ sym (some_found (suc n) (λ (z : suc n ≡ 0). omega arith)))))

module _ (ns : List ℕ) (b : Name) where
  -- nothing is found in a list that is refused,
  pub find_none : names_fit ns ≡ false → find ns b ≡ (0, 0)
  find_none e = ap (λ (u : Bool). when u then searched (numbered ns) (index_of (numbered ns)) b else (0, 0)) e

  -- in another what a walk from the first place of these bytes finds in the index
  pub find_some : names_fit ns ≡ true → {p : ℕ} {i : List ℕ} → p ≡ place_of b → i ≡ index_of (numbered ns) → walk (numbered ns) b (turned p i) ≡ find ns b
  find_some e {p} {i} first held =
      ap (λ (q : ℕ). walk (numbered ns) b (turned q i)) first ∙ ap (λ (v : List ℕ). searched (numbered ns) v b) held
      ∙ sym (ap (λ (u : Bool). when u then searched (numbered ns) (index_of (numbered ns)) b else (0, 0)) e)

-- the index of a list that passes has all places
pub index_fit : (ns : List ℕ) → names_fit ns ≡ true → length (index_of (numbered ns)) ≡ 2048
index_fit ns e = index_size (numbered ns) (omega (arith, (fit_small ns e).0, length-append fixed (listed ns)))
