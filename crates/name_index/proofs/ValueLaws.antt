-- The FNV-1a value is a fold.
use mathlib.Core.Path.{◌≡◌, refl}
use mathlib.Core.List.{List, [], ◌∷◌}
use Prim.Native.Nat.{ℕ, ◌*◌, ◌%◌, ◌^◌}
use lib.Bits.{bit_xor}
use Rattle.std.specs.List.{fold}
use Rattle.name_index.specs.Index.{fnv_from}

-- the value after one byte more
abbrev pub mixed : ℕ → ℕ → ℕ
mixed v b = bit_xor v b * 16777619 % 2 ^ 32

pub fnv_fold : (v : ℕ) (bs : List ℕ) → fold mixed v bs ≡ fnv_from v bs
fnv_fold v [] = refl
fnv_fold v (b ∷ bs) = fnv_fold (mixed v b) bs
