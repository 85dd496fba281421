-- What is proved of the state machine, for readers and for the crates above.
use mathlib.Core.Path.{◌≡◌, refl, sym, ap, ◌∙◌}
use mathlib.Core.List.{List, [], ◌++◌, append-nil}
use mathlib.Core.Bool.{true, ◌&&◌}
use native.Mathlib.Omega.{arith}
use Prim.Native.Nat.{ℕ, ◌+◌, ◌*◌, ◌/◌, ◌<◌, ◌≤◌}
use lib.ListN.{length, get_or}
use lib.Dec.{T, eqb, leb, leb→le}
use Rattle.definition.specs.Sheet.{Sheet, rows, is}
use Rattle.definition.specs.Outside.{Outside}
use Rattle.definition.specs.Walk.{Event, walk}
use Rattle.definition.specs.Scope.{start, run, moments, history}
use Rattle.definition.specs.Slots.{final_globals}
use Rattle.definition.specs.Format.{sheet_fits}
use Rattle.definition.specs.Outcome.{rows_fit}
use Rattle.definition.proofs.Lists.Tests.{true_of, and_right}
use Rattle.definition.proofs.Format.Facts.{SheetFacts, facts}
use Rattle.definition.proofs.Format.Accepted.{some_row}
use Rattle.definition.proofs.Walk.Fits.{Fits}
use Rattle.definition.proofs.Walk.Fitting.{fits}
use Rattle.definition.proofs.Walk.Rows.{kind_not_zero}
use Rattle.machine.specs.Machine.{entry_room, node_room, State, Store, start_state, run_state}
use Rattle.machine.specs.Reads.{StoreReads, Walked, PastFour, walk_refusal}
use Rattle.machine.specs.Space.{nodes_for}
use Rattle.machine.proofs.NodeBound.{nodes_few}
use Rattle.machine.proofs.StoreAgrees.{StoreAgrees}
use Rattle.machine.proofs.Refinement.{StateAgrees, Ends, refusal_of, until_all, refusal_part}
use Rattle.machine.proofs.AfterRows.{parent_word}
use Rattle.machine.proofs.AfterLists.{fields_nodes}
use Rattle.machine.proofs.AfterCalls.{refused_in_walk, refused_later}
use Rattle.machine.proofs.SheetRows.{let_rows, identifier_rows, host_rows, instance_rows, literal_rows_lem, member_rows, function_rows_lem}
use Rattle.machine.proofs.FittingSheet.{fitting_sheet}

-- what the store says after the walk of a sheet past question 3
pub store_reads : (n : ℕ) {O : Outside} {s : Sheet} → Fits O s → SheetFacts n s → (o : Store) → StoreAgrees O s (history O s) o → rows s ≤ length o.table / 8 → StoreReads O s o
store_reads n {O} {s} ok fa o k e =
    record {
      lets = let_rows n ok fa o k e;
      hosts = host_rows n ok fa o k e;
      instances = instance_rows n ok fa o k e;
      identifiers = identifier_rows n ok fa o k e;
      members = member_rows n ok fa o k e;
      literals = literal_rows_lem n ok fa o k e;
      functions = λ r l t. function_rows_lem n ok fa o k e r l t _ refl;
      fields = λ c l t. fields_nodes O s (history O s) o k c (omega arith) (kind_not_zero ok 4 c tt t) (true_of (is s 4 c) t);
      parents = λ c l t. sym (parent_word O s ok.header (history O s) o k c (kind_not_zero ok 4 c tt t) (omega arith) (true_of (is s 4 c) t));
      calls = k.calls_is;
    }

-- rows of a sheet past question 1
pub rows_few : (s : Sheet) → T (rows_fit s) → rows s ≤ 2048
rows_few s h = leb→le (rows s) 2048 (and_right (eqb (8 * rows s) (length s) && leb 1 (rows s)) (leb (rows s) 2048) h)

-- A sheet past the first four questions, and buffers with room: an open entry for each of its names, each from outside and two more, three for each row,
-- a table row of zeros for each sheet row, the nodes that its rows may take.
module _ {O : Outside} (s : Sheet) (v t q : List ℕ) (ok : PastFour O s) (clear : (j : ℕ) → get_or t j 0 ≡ 0)
    (entries : ok.names + 2 + length O.names + 3 * rows s < length v / 5) (table : rows s ≤ length t / 8) (nodes : nodes_for s ≤ length q / 4) where
  few : rows s ≤ 2048
  few = rows_few s ok.whole

  some : 0 < rows s
  some = some_row s ok.whole

  fitting : sheet_fits ok.names s ≡ true
  fitting = true_of (sheet_fits ok.names s) ok.fitting

  -- the walk up to any event
  walk_ends : (es fs : List Event) → walk s ≡ es ++ fs
      → Ends O s (record { entries = entry_room v; rows = length t / 8; nodes = node_room q }) [] (start O) es (run_state O s es (start_state O s v t q))
  walk_ends =
      fitting_sheet ok.names ok.outside s v t q clear some fitting ok.shallow
      (record {
        for_rows = table;
        for_entries = omega (arith, few, ok.few, ok.outside.few);
        for_words = omega (arith, few, ok.few, ok.outside.few);
        for_nodes = omega (arith, few, nodes_few s);
      })

  -- Run over its walk, the machine refuses with the definition's first no of questions 5 to 17, or it holds what the definition's answer rows say.
  pub walk_refines : Walked O s (run_state O s (walk s) (start_state O s v t q))
  walk_refines = ended (walk_ends (walk s) [] (sym (append-nil (walk s))))
    where
      ended : {x : State} → Ends O s (record { entries = entry_room v; rows = length t / 8; nodes = node_room q }) [] (start O) (walk s) x → Walked O s x
      ended {x} (Ends.accepted e g) =
          record {
            refused = λ k. absurd (k e);
            globals = g.numbered.next_is ∙ ap (final_globals s) (sym (until_all O s (start O) (walk s) e));
            accepted = λ k. g.agreed;
            store = λ k. store_reads ok.names (fits ok.names s ok.outside some fitting) (facts ok.names s fitting) x.store g.kept (omega (arith, table, g.rows_are));
            later = λ k. refused_later O s x.store g.kept.calls_is k;
          }
      ended (Ends.refused e i j) =
          record {
            refused = λ k. i ∙ sym (refused_in_walk O s k);
            globals = j;
            accepted = λ k. absurd (e k);
            store = λ k. absurd (e k);
            later = λ k. absurd (e k);
          }

  -- Where no question of the walk gets a no, it agrees with the definition after any of its events.
  pub walk_agrees : (walk_refusal O s).number ≡ 0 → (es fs : List Event) → walk s ≡ es ++ fs
      → StateAgrees O s (record { entries = entry_room v; rows = length t / 8; nodes = node_room q }) (moments s (start O) es) (run s (start O) es) (run_state O s es (start_state O s v t q))
  walk_agrees none es fs e = ended (walk_ends es fs e)
    where
      ended : {x : State} → Ends O s (record { entries = entry_room v; rows = length t / 8; nodes = node_room q }) [] (start O) es x
          → StateAgrees O s (record { entries = entry_room v; rows = length t / 8; nodes = node_room q }) (moments s (start O) es) (run s (start O) es) x
      ended (Ends.accepted n g) = g
      ended (Ends.refused n i j) = absurd (n (refusal_part O s (start O) es fs (ap (λ (l : List Event). (refusal_of O s (start O) l).number) (sym e) ∙ none)))
