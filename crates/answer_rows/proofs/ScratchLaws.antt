-- Arrays of zeros as scratch space.
use mathlib.Core.Path.{◌≡◌, refl, ap, ◌∙◌}
use mathlib.Core.List.{List}
use Prim.Native.Nat.{ℕ, zero, suc, ◌≤◌}
use native.Mathlib.Omega.{arith}
use lib.ListN.{length, get_or, replicate, length-replicate}
use Rattle.definition.specs.Sheet.{Sheet, rows}
use Rattle.definition.specs.Outside.{Outside}
use Rattle.machine.specs.Reads.{PastFour}
use Rattle.machine.proofs.Theorems.{rows_few}
use Rattle.after.proofs.Ranges.{rows_whole}
use Rattle.classes.specs.Table.{Clear}
use Rattle.class_names.specs.declared.tables.Tables.{Tables}
use Rattle.class_rows.specs.Places.{Placed}
use Rattle.answer_rows.specs.Ready.{Scratch}

zero_at : (n j : ℕ) → ◌≡◌ {A = ℕ} (get_or (replicate n 0) j 0) 0
zero_at zero j = refl
zero_at (suc n) zero = refl
zero_at (suc n) (suc j) = zero_at n j

-- the lengths are variables, so that the zeros are not written out
pub clear_zeros : (n : ℕ) → Clear (replicate n 0)
clear_zeros n = record { zeros = zero_at n }

pub zeros_long : (n : ℕ) → length {A = ℕ} (replicate n 0) ≡ n
zeros_long n = length-replicate {A = ℕ} n 0

pub scratch_zeros : (s : Sheet) (n : ℕ) → rows s ≤ n → Scratch s (replicate n 0) (replicate n 0) (replicate n 0)
scratch_zeros s n few = record {
  for_first = omega (arith, zeros_long n);
  for_next = omega (arith, zeros_long n);
  for_children = omega (arith, zeros_long n);
  clear_first = clear_zeros n;
  clear_children = clear_zeros n;
}

-- a sheet past question 1 is not long
pub rows_most : {O : Outside} (s : Sheet) → PastFour O s → rows s ≤ 2048
rows_most s ok = rows_few s ok.whole

pub small_sheet : {O : Outside} {s : Sheet} → PastFour O s → length s ≤ 16384
small_sheet {s = s} ok = omega (arith, rows_whole s ok.whole, rows_few s ok.whole)

-- no class has a place yet
pub places_zeros : (tables : Tables) (n : ℕ) (ps w : List ℕ) → length tables.sheet.now ≤ 16384 → 2048 ≤ n → ps ≡ replicate n 0 → Placed tables ps w 0 0
places_zeros tables n ps w l b e = record {
  room = omega (arith, ap length e ∙ zeros_long n);
  told = λ j p g. absurd (omega (arith, g, ap (λ (z : List ℕ). get_or z j 0) e ∙ zero_at n j));
}
