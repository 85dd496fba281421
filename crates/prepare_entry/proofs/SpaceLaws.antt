-- From what is told of an entry to what its walk needs: its sheet and its outside as they are written, and space of zeros.
use mathlib.Core.Path.{◌≡◌, sym, ap, ◌∙◌, subst}
use mathlib.Core.Bool.{true, ◌||◌}
use mathlib.Core.List.{List, ◌++◌}
use Prim.Native.Nat.{ℕ, ◌≤◌}
use native.Mathlib.Omega.{arith}
use lib.ListN.{length, get_or, take, replicate, length-append}
use lib.Seq.{length-take-le, take_at}
use lib.Dec.{eqb}
use Rattle.definition.specs.Basics.{when◌then◌else◌, total, from}
use Rattle.definition.specs.Names.{name_count}
use Rattle.definition.specs.Sheet.{Sheet, rows}
use Rattle.definition.specs.Outside.{Outside, based}
use Rattle.definition.specs.Outcome.{rows_fit}
use Rattle.machine.specs.Space.{nodes_of, nodes_for}
use Rattle.machine.specs.Reads.{PastFour}
use Rattle.outside.specs.Words.{over}
use Rattle.row_events.specs.Prepared.{Ready}
use Rattle.walk_space.specs.Room.{RoomFor}
use Rattle.resolver.proofs.LentLaws.{lent_room}
use Rattle.answer_rows.proofs.ScratchLaws.{zeros_long}
use Rattle.session.specs.Session.{outside_of}
use Rattle.session.specs.Entry.{names_with, to_session, entry_sheet}
use Rattle.session.specs.Words.{whole, session_in}
use Rattle.session.proofs.Renaming.{Renamed}
use Rattle.session.proofs.Extended.{total_same}
use Rattle.session.proofs.EntryLaws.{entry_renamed}
use Rattle.session.proofs.RowLaws.{whole_rows}
use Rattle.session_outside.proofs.ReadableLaws.{over_few}
use Rattle.entry_walk.specs.Laid.{OneUnit}
use Rattle.entry_ready.proofs.PastLaws.{passed, entry_past, entry_one}
use Rattle.prepare_entry.specs.Told.{Told, Written}

-- a sheet past question 1 fits a copy of eight words for each row
pub copy_fits : (s : Sheet) → rows_fit s ≡ true → {names classes entries results nodes : ℕ} → RoomFor s names classes entries results nodes → length s ≤ results
copy_fits s e r = omega (arith, whole_rows s e, r.for_classes, r.for_results)

-- a part of a copy that is long enough, of zeros
pub copy_long : (k l : ℕ) → k ≤ l → length {A = ℕ} (take k (replicate l 0)) ≡ k
copy_long k l h = length-take-le k (replicate l 0) (omega (arith, zeros_long l))

module _ {w : List ℕ} {s : Sheet} {numbers : List ℕ} {new bytes : ℕ} {n ns : List ℕ} (h : Told w s numbers new bytes n ns) where
  pub rows_fit_lem : rows_fit s ≡ true
  rows_fit_lem = (passed (get_or w 0 0) s ns h.none).rows_fit_lem

  module _ {o c : List ℕ} (m : Written w s numbers o c) where
    -- the sheet and its outside as they are written
    pub held : over o ≡ based (outside_of (session_in whole w n)) 0
    held = m.outside n h.fits

    pub past : PastFour (over o) c
    past =
        subst (λ (P : Outside). PastFour P c) (sym held)
        (subst (PastFour (based (outside_of (session_in whole w n)) 0)) (sym (m.copied n ns h.told))
        (entry_past w n h.fits s ns (passed (get_or w 0 0) s ns h.none)))

    pub one : OneUnit c
    one = subst OneUnit (sym (m.copied n ns h.told)) (entry_one w n h.fits s ns (passed (get_or w 0 0) s ns h.none))

    pub few : length (over o).names ≤ 1048
    few = omega (arith, over_few w n o h.fits held)

    -- kinds stay, so the nodes that the rows may take are those of the entry's own sheet
    nodes_same : nodes_for c ≡ nodes_for s
    unfolding nodes_for
    nodes_same =
        ap (λ (t : Sheet). total (nodes_of t) (from 0 (rows t))) (m.copied n ns h.told) ∙ ap (λ (k : ℕ). total (nodes_of t) (from 0 k)) e.size
        ∙ total_same (nodes_of t) (nodes_of s) 0 (rows s) (λ r l. ap (λ (k : ℕ). when eqb k 50 then 21 else when eqb k 59 || eqb k 21 then 1 else 0) (e.kinds r))
      where
        t : Sheet
        t = entry_sheet (session_in whole w n) ns s

        e : Renamed (to_session (session_in whole w n) ns) (name_count ns) (length (names_with (session_in whole w n) ns)) s t
        e = entry_renamed (session_in whole w n) ns s rows_fit_lem (passed (get_or w 0 0) s ns h.none).names_fit_lem

    -- the space of the walk: room for the entry's own sheet is room for its copy
    pub ready : length c ≡ length s → {classes entries results nodes : ℕ} → RoomFor s 3120 classes entries results nodes
        → Ready (over o) c (replicate classes 0) (replicate entries 0) (replicate results 0) (replicate nodes 0)
    ready long r =
        record {
          past = past;
          lent = lent_room past.names (over o) (omega (arith, past.few, few)) (record {
            for_classes = omega (arith, long, r.for_classes);
            for_entries = r.for_entries;
            for_results = r.for_results;
            for_nodes = omega (arith, nodes_same, r.for_nodes);
            small = r.small;
          });
        }

-- the copy as it is read again out of the array in whose beginning it was written
module _ {w : List ℕ} {s : Sheet} {numbers o c : List ℕ} (m : Written w s numbers o c) (long : length c ≡ length s) (r : List ℕ) where
  pub front_long : length s ≤ length (c ++ r)
  front_long = omega (arith, long, length-append c r)

  pub front_is : length (take (length s) (c ++ r)) ≡ length s
  front_is = length-take-le (length s) (c ++ r) front_long

  pub front_written : Written w s numbers o (take (length s) (c ++ r))
  front_written = subst (Written w s numbers o) (sym (take_at c r (length s) long)) m
