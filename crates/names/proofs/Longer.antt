-- A list of names that is longer than any accepted one: one byte more than the longest has fixes what is said of it. Assumes nothing.
use mathlib.Core.Path.{◌≡◌, refl, sym, ap, ◌∙◌}
use mathlib.Core.Bool.{Bool, true, false, ◌&&◌}
use mathlib.Core.List.{List}
use Prim.Native.Nat.{ℕ, ◌<◌, ◌≤◌}
use native.Mathlib.Decide.{dec_le}
use native.Mathlib.Omega.{arith}
use lib.ListN.{length, take}
use lib.Dec.{T, leb→le}
use lib.Seq.{take_all, length-take-le}
use Rattle.definition.specs.Names.{names_few, names_short, names_sized, names_ended, names_unlike, names_fit}
use Rattle.definition.proofs.Lists.Tests.{and_left, and_right}

no_t : (b : Bool) → (T b → ⊥) → b ≡ false
no_t true f = absurd (f tt)
no_t false f = refl

-- names are at most 32,768 bytes
names_long : (ns : List ℕ) → 32768 < length ns → names_fit ns ≡ false
names_long ns l =
    no_t (names_fit ns)
    (λ h.
    let ended = and_left (names_few ns && names_short ns && names_sized ns && names_ended ns) (names_unlike ns) h in
    let sized = and_left (names_few ns && names_short ns && names_sized ns) (names_ended ns) ended in
    let short = and_right (names_few ns) (names_short ns) (and_left (names_few ns && names_short ns) (names_sized ns) sized) in
    omega (arith, leb→le (length ns) 32768 short))

-- f says the same of all lists that question 2 refuses
pub same_cut : {A : Type 0} (f : List ℕ → A) (y : A) → ((ns : List ℕ) → names_fit ns ≡ false → f ns ≡ y) → (ns : List ℕ) → f (take 32769 ns) ≡ f ns
same_cut {A} f y refused ns = go (dec_le (length ns) 32769)
  where
    go : Dec (length ns ≤ 32769) → f (take 32769 ns) ≡ f ns
    go (yes l) = ap f (take_all 32769 ns l)
    go (no l) =
        refused (take 32769 ns) (names_long (take 32769 ns) (omega (arith, length-take-le 32769 ns (omega arith))))
        ∙ sym (refused ns (names_long ns (omega arith)))
