-- The sizes of scratch arrays, by what is asked of a sheet.
use Prim.Native.Nat.{ℕ, ◌+◌, ◌*◌, ◌≤◌}
use native.Mathlib.Omega.{arith}
use lib.ListN.{length}
use Rattle.definition.specs.Sheet.{Sheet, rows}
use Rattle.machine.specs.Space.{nodes_for}
use Rattle.machine.proofs.NodeBound.{nodes_few}
use Rattle.walk_space.specs.Room.{RoomFor}

module _ (s : Sheet) (names b : ℕ) where
  pub small_room : length s ≤ 2560 → nodes_for s ≤ 3360 → 5 * (names + 963) ≤ b → b ≤ 46335 → RoomFor s names 320 b 2560 13440
  small_room l n e f = record {
    for_classes = omega (arith, l);
    for_entries = omega (arith, e);
    for_results = omega arith;
    for_nodes = omega (arith, n);
    small = omega (arith, f);
  }

  pub middle_room : rows s ≤ 2048 → nodes_for s ≤ 10752 → 5 * (names + 6147) ≤ b → b ≤ 46335 → RoomFor s names 2048 b 16384 43008
  middle_room l n e f = record {
    for_classes = l;
    for_entries = omega (arith, e);
    for_results = omega arith;
    for_nodes = omega (arith, n);
    small = omega (arith, f);
  }

  pub large_room : rows s ≤ 2048 → 5 * (names + 6147) ≤ b → b ≤ 46335 → RoomFor s names 2048 b 16384 172032
  large_room l e f = record {
    for_classes = l;
    for_entries = omega (arith, e);
    for_results = omega arith;
    for_nodes = omega (arith, l, nodes_few s);
    small = omega (arith, f);
  }
