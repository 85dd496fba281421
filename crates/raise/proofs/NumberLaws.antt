-- Numbers of functions and classes, by their tests.
use mathlib.Core.Path.{◌≡◌, refl}
use mathlib.Core.Bool.{Bool, true, false}
use Prim.Native.Nat.{ℕ, ◌+◌, ◌-◌, ◌<◌, ◌≤◌}
use native.Mathlib.Omega.{arith}
use lib.Dec.{ltb}
use borrow.Author.Tests.{lt-ltb, ltb-true, le-ltb}
use Rattle.definition.specs.Basics.{when◌then◌else◌}
use Rattle.definition.specs.Answer.{raised_function, raised_class}

pub own_function : (n f : ℕ) → f < 2048 → f + n ≡ raised_function n f
own_function n f h = rw (lt-ltb f 2048 h)

pub earlier_function : (n f : ℕ) → 2048 ≤ f → f - 2048 ≡ raised_function n f
earlier_function n f h = rw (le-ltb f 2048 h)

-- it fits a word, with room for the first class's number
pub function_small : (n f : ℕ) → n ≤ 2048000 → f ≤ 4294967039 → raised_function n f ≤ 4294967039
function_small n f h g = by (ltb f 2048) (λ e. ltb-true f 2048 e)
  where
    by : (t : Bool) → (t ≡ true → f < 2048) → (when t then f + n else f - 2048) ≤ 4294967039
    by true l = omega (arith, l refl)
    by false l = omega arith

pub core_class : (n c : ℕ) → c < 256 → c ≡ raised_class n c
core_class n c h = rw (lt-ltb c 256 h)

pub other_class : (n c : ℕ) → 256 ≤ c → 256 + raised_function n (c - 256) ≡ raised_class n c
other_class n c h = rw (le-ltb c 256 h)
