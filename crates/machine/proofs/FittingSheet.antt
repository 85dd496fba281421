-- A sheet past the questions 3 and 4 meets what the refinement needs, with room by the number of its rows.
use mathlib.Core.Path.{◌≡◌}
use mathlib.Core.List.{List, [], ◌++◌}
use mathlib.Core.Bool.{true}
use Prim.Native.Nat.{ℕ, suc, ◌+◌, ◌*◌, ◌/◌, ◌<◌, ◌≤◌}
use native.Mathlib.Omega.{arith}
use lib.ListN.{length, get_or}
use lib.Dec.{T}
use Rattle.definition.specs.Sheet.{is, Sheet, rows, functions_of}
use Rattle.definition.specs.Outside.{Outside, OutsideFits}
use Rattle.definition.specs.Format.{sheet_fits, depths_fit}
use Rattle.definition.specs.Walk.{Event, walk}
use Rattle.definition.specs.Scope.{start}
use Rattle.definition.proofs.Format.Facts.{facts}
use Rattle.definition.proofs.Walk.Fits.{Fits}
use Rattle.definition.proofs.Walk.Fitting.{fits}
use Rattle.definition.proofs.Lists.Tests.{T_true}
use Rattle.definition.proofs.Walk.Rows.{kind_not_zero}
use Rattle.definition.proofs.Walk.Once.{declares_once}
use Rattle.definition.proofs.Walk.Around.{Walks}
use Rattle.machine.specs.Machine.{node_room, entry_room, start_state, run_state}
use Rattle.machine.specs.Space.{nodes_for}
use Rattle.machine.proofs.Refinement.{Room, Ends}
use Rattle.machine.proofs.WalkReady.{WalkReady, ready_ends}
use Rattle.machine.proofs.Entered.{entered_once, entered_rows, pushes_bound}
use Rattle.machine.proofs.NodeBound.{reached_mem, declared_inside, nodes_bound}
use Rattle.machine.proofs.CapturedOutward.{all_outward}
use Rattle.machine.proofs.GlobalBound.{globals_bound}
use Rattle.machine.proofs.ImportBound.{walk_shallow}
use Rattle.machine.proofs.DepthBound.{functions_few}

-- room for a sheet whose last name is n
pub record EnoughRoom (n : ℕ) (O : Outside) (s : Sheet) (room : Room) : Type 0 where
  pub for_rows : rows s ≤ room.rows
  pub for_entries : n + 2 + length O.names + 3 * rows s < room.entries
  pub for_words : n + 2 + length O.names + 3 * rows s < 4294967295
  pub for_nodes : nodes_for s ≤ room.nodes

ready_within : (n : ℕ) {O : Outside} → OutsideFits O → (s : Sheet) (room : Room) → 0 < rows s
    → sheet_fits n s ≡ true → ((x : ℕ) → Walks s x → T (is s 50 x) → length (functions_of s x) ≤ 21)
    → EnoughRoom n O s room → WalkReady O s room (suc n)
ready_within n {O} known s room z h f y =
    let ok : Fits O s = fits n s known z h in
    record {
      known = known;
      header = ok.header;
      once = entered_once ok;
      are_rows = entered_rows ok room.rows y.for_rows;
      some_row = omega (arith, y.for_rows);
      inside_function = declared_inside ok;
      outward = all_outward ok;
      lets_once = λ r k. declares_once ok r (λ z. kind_not_zero ok 29 r tt (T_true (is s 29 r) k) z);
      shallow = λ m w. walk_shallow n ok (facts n s h) m (reached_mem w);
      small_entries = omega (arith, y.for_words, pushes_bound ok);
      small_globals = omega (arith, y.for_words, globals_bound n ok (facts n s h));
      enough_entries = omega (arith, y.for_entries, pushes_bound ok);
      enough_nodes = omega (arith, y.for_nodes, nodes_bound ok f);
    }

-- with depths up to 64 (question 4) at most 21 functions lie around an identifier
pub ready_deep : (n : ℕ) {O : Outside} → OutsideFits O → (s : Sheet) (room : Room) → 0 < rows s → sheet_fits n s ≡ true → T (depths_fit s) → EnoughRoom n O s room → WalkReady O s room (suc n)
ready_deep n known s room z h g y = ready_within n known s room z h (functions_few n (fits n s known z h) (facts n s h) g) y

-- The walk of a sheet past the questions 3 and 4 up to any event, with a table of zeros: the machine agrees with the definition, or refuses
-- with the definition's first no.
pub fitting_sheet : (n : ℕ) {O : Outside} → OutsideFits O → (s : Sheet) (v t q : List ℕ) → ((j : ℕ) → get_or t j 0 ≡ 0) → 0 < rows s → sheet_fits n s ≡ true → T (depths_fit s)
    → EnoughRoom n O s (record { entries = entry_room v; rows = length t / 8; nodes = node_room q })
    → (es fs : List Event) → walk s ≡ es ++ fs
    → Ends O s (record { entries = entry_room v; rows = length t / 8; nodes = node_room q }) [] (start O) es (run_state O s es (start_state O s v t q))
fitting_sheet n {O} known s v t q c z h g y es fs e = ready_ends O s (suc n) v t q c (ready_deep n known s _ z h g y) es fs e
