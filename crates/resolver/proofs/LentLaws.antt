-- Arrays of zeros as the walk's scratch space.
use Prim.Native.Nat.{ℕ, ◌+◌, ◌*◌, ◌/◌, ◌<◌, ◌≤◌}
use native.Mathlib.Omega.{arith}
use lib.ListN.{length, replicate}
use Rattle.definition.specs.Sheet.{Sheet, rows}
use Rattle.definition.specs.Outside.{Outside}
use Rattle.machine.specs.Space.{nodes_for}
use Rattle.row_events.specs.Prepared.{Lent}
use Rattle.walk_space.specs.Room.{RoomFor}
use Rattle.answer_rows.proofs.ScratchLaws.{clear_zeros, zeros_long}

-- room for a sheet of at most m rows, whose last name is n
pub lent_zeros : (n : ℕ) (O : Outside) (s : Sheet) (m a b c d : ℕ) → rows s ≤ m → m ≤ a → n + 2 + length O.names + 3 * m < b / 5 → m ≤ c / 8 → nodes_for s ≤ d / 4
    → Lent n O s (replicate a 0) (replicate b 0) (replicate c 0) (replicate d 0)
lent_zeros n O s m a b c d few la lb lc ld = record {
  for_classes = omega (arith, zeros_long a);
  for_entries = rw (zeros_long b) (omega arith);
  for_rows = rw (zeros_long c) (omega arith);
  for_nodes = rw (zeros_long d) (omega arith);
  clear_classes = clear_zeros a;
  clear_rows = clear_zeros c;
}

-- the same of arrays that have room for the walk
pub lent_room : (n : ℕ) (O : Outside) {s : Sheet} {names a b c d : ℕ} → n + length O.names ≤ names → RoomFor s names a b c d
    → Lent n O s (replicate a 0) (replicate b 0) (replicate c 0) (replicate d 0)
lent_room n O {s} {names} {a} {b} {c} {d} few h =
    lent_zeros n O s a a b c d h.for_classes (omega arith) (omega (arith, few, h.for_entries)) (omega (arith, h.for_results)) (omega (arith, h.for_nodes))
