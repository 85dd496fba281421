-- Locals that are open at one moment have different slots.
use mathlib.Core.Path.{◌≡◌, refl, sym, ap, subst}
use mathlib.Core.List.{[], ◌∷◌}
use mathlib.Core.Bool.{Bool, true, false}
use Prim.Native.Nat.{ℕ, zero, suc, ◌<◌, ◌≤◌}
use native.Mathlib.Omega.{arith}
use native.Mathlib.Nat.{le_refl}
use lib.Dec.{T}
use Rattle.definition.specs.Basics.{when◌then◌else◌}
use Rattle.definition.specs.Sheet.{Sheet}
use Rattle.definition.specs.Meaning.{Meaning}
use Rattle.definition.specs.Scope.{Stack, Entry, scope, looping, bound}
use Rattle.definition.specs.Slots.{is_local, open_locals}
use Rattle.definition.proofs.Closure.Open.{OpenAt}

-- one more entry never lowers the number of open locals
if_le : (t : Bool) (k : ℕ) → k ≤ (when t then suc k else k)
if_le true k = omega arith
if_le false k = omega arith

open_le : (s : Sheet) (x : Entry) (st : Stack) → open_locals s st ≤ open_locals s (x ∷ st)
open_le s (scope r) st = le_refl _
open_le s looping st = le_refl _
open_le s (bound n d) st = if_le (is_local s d) (open_locals s st)

if_suc : (t : Bool) (k : ℕ) → T t → suc k ≤ (when t then suc k else k)
if_suc true k h = le_refl _
if_suc false k h = absurd h

-- before an open local fewer are open than now
open_lt : (s : Sheet) (S : Stack) (j k : ℕ) (e : Meaning) (st : Stack) → OpenAt S j k e st → T (is_local s e) → open_locals s st < open_locals s S
open_lt s [] zero k e st p h = let z : ◌≡◌ {A = ℕ} 0 1 = cc in omega arith
open_lt s [] (suc j) k e st p h = let z : ◌≡◌ {A = ℕ} 0 1 = cc in omega arith
open_lt s (x ∷ S) zero k e st p h = subst (λ (l : Stack). open_locals s st < open_locals s l) (sym p) (if_suc (is_local s e) (open_locals s st) h)
open_lt s (x ∷ S) (suc j) k e st p h = omega (arith, open_lt s S j k e st p h, open_le s x S)

pub apart : (s : Sheet) (S : Stack) (i j n k : ℕ) (d e : Meaning) (st st' : Stack) → OpenAt S i n d st → OpenAt S j k e st'
    → T (is_local s d) → T (is_local s e) → open_locals s st ≡ open_locals s st' → i ≡ j
apart s [] zero zero n k d e st st' p q h g o = refl
apart s [] zero (suc j) n k d e st st' p q h g o = let z : ◌≡◌ {A = ℕ} 0 1 = cc in omega arith
apart s [] (suc i) j n k d e st st' p q h g o = let z : ◌≡◌ {A = ℕ} 0 1 = cc in omega arith
apart s (x ∷ S) zero zero n k d e st st' p q h g o = refl
apart s (x ∷ S) zero (suc j) n k d e st st' p q h g o =
    let w : S ≡ st = cc in
    let l : open_locals s S ≡ open_locals s st = ap (open_locals s) w in
    omega (arith, open_lt s S j k e st' q g)
apart s (x ∷ S) (suc i) zero n k d e st st' p q h g o =
    let w : S ≡ st' = cc in
    let l : open_locals s S ≡ open_locals s st' = ap (open_locals s) w in
    omega (arith, open_lt s S i n d st p h)
apart s (x ∷ S) (suc i) (suc j) n k d e st st' p q h g o = ap suc (apart s S i j n k d e st st' p q h g o)
