-- An entry's sheet with the session's name numbers is past the first four questions over what the session is to it, and one unit without imports.
use mathlib.Core.Path.{◌≡◌, refl, ap, ◌∙◌}
use mathlib.Core.Bool.{Bool, true, false, not, ◌&&◌}
use mathlib.Core.List.{List, [], ◌∷◌}
use Prim.Native.Nat.{ℕ, ◌≤◌}
use native.Mathlib.Omega.{arith}
use lib.Dec.{eqb, leb, T, eqb→eq}
use lib.ListN.{length, get_or, length-append}
use Rattle.definition.specs.Basics.{when◌then◌else◌, filter, any}
use Rattle.definition.specs.Kind.{IMPORT}
use Rattle.definition.specs.Names.{Name, fixed, listed, same_name, names_fit, name_count}
use Rattle.definition.specs.Sheet.{Sheet, child, a, kids, kids_of}
use Rattle.definition.specs.Outside.{Outside, OutsideFits, based}
use Rattle.definition.specs.Format.{sheet_fits, depths_fit}
use Rattle.definition.specs.Outcome.{rows_fit}
use Rattle.definition.proofs.Lists.Tests.{T_true, and_left, and_right}
use Rattle.machine.specs.Reads.{PastFour}
use Rattle.names.proofs.Question.{fit_small}
use Rattle.entry_walk.specs.Laid.{OneUnit}
use Rattle.session.specs.Session.{Session, all_names, outside_of}
use Rattle.session.specs.Entry.{new_names, names_with, entry_sheet, to_session}
use Rattle.session.specs.Words.{whole, name_bytes, session_in, runs_fit, session_fits}
use Rattle.session.proofs.RowLaws.{whole_some}
use Rattle.session.proofs.Renaming.{Renamed, kids_same, kids_of_same, depths_renamed, sheet_renamed}
use Rattle.session.proofs.EntryLaws.{entry_renamed, entry_whole}
use Rattle.session.proofs.OutsideLaws.{outside_fits}
use Rattle.session.proofs.SessionLaws.{runs_of, orderly_in}
use Rattle.session.proofs.HeldRuns.{held_names}
use Rattle.session.proofs.CountLaws.{list_fits}
use Rattle.entry_ready.specs.Asked.{fits_over, entry_no}

-- what the first no says if there is none
pub record Passed (g : ℕ) (s : Sheet) (ns : List ℕ) : Type 0 where
  pub rows_fit_lem : rows_fit s ≡ true
  pub names_fit_lem : names_fit ns ≡ true
  pub sheet_fits_lem : sheet_fits (name_count ns) s ≡ true
  pub depths_fit_lem : depths_fit s ≡ true
  pub entry_fits_lem : fits_over g s ≡ true

pub passed : (g : ℕ) (s : Sheet) (ns : List ℕ) → entry_no g s ns ≡ 0 → Passed g s ns
passed g s ns e = go (rows_fit s) refl (names_fit ns) refl (sheet_fits (name_count ns) s) refl (depths_fit s) refl (fits_over g s) refl e
  where
    go : (x : Bool) → rows_fit s ≡ x → (y : Bool) → names_fit ns ≡ y → (z : Bool) → sheet_fits (name_count ns) s ≡ z → (w : Bool) → depths_fit s ≡ w → (t : Bool) → fits_over g s ≡ t
        → ◌≡◌ {A = ℕ} (when eqb (when not x then 1 else when not y then 2 else when not z then 3 else when not w then 4 else 0) 0 then (when t then 0 else 23)
        else (when not x then 1 else when not y then 2 else when not z then 3 else when not w then 4 else 0)) 0 → Passed g s ns
    go true a true b true c true d true f h = record { rows_fit_lem = a; names_fit_lem = b; sheet_fits_lem = c; depths_fit_lem = d; entry_fits_lem = f }
    go true a true b true c true d false f h = absurd (omega arith)
    go true a true b true c false d t f h = absurd (omega arith)
    go true a true b false c w d t f h = absurd (omega arith)
    go true a false b z c w d t f h = absurd (omega arith)
    go false a y b z c w d t f h = absurd (omega arith)

based_fits : {O : Outside} (n : ℕ) → OutsideFits O → OutsideFits (based O n)
based_fits n h =
    record {
      outward = h.outward;
      apart = h.apart;
      few = h.few;
      few_fields = h.few_fields;
      few_methods = h.few_methods;
      methods_apart = h.methods_apart;
    }

pub shorter : (p : Name → Bool) (l : List Name) → length (filter p l) ≤ length l
shorter p [] = omega arith
shorter p (x ∷ l) = go (p x) (shorter p l)
  where
    go : (t : Bool) → length (filter p l) ≤ length l → length (when t then x ∷ filter p l else filter p l) ≤ length (x ∷ l)
    go true h = omega arith
    go false h = omega arith

module _ (w n : List ℕ) (fit : session_fits whole w n ≡ true) (s : Sheet) (ns : List ℕ) (ok : Passed (get_or w 0 0) s ns) where
  abbrev S : Session
  S = session_in whole w n

  abbrev t : Sheet
  t = entry_sheet S ns s

  named : Renamed (to_session S ns) (name_count ns) (length (names_with S ns)) s t
  named = entry_renamed S ns s ok.rows_fit_lem ok.names_fit_lem

  few_names : length (names_with S ns) ≤ 2072
  few_names =
      omega (
        arith,
        length-append (all_names S) (new_names S ns),
        ap length (held_names whole w n (runs_of whole w n fit)),
        length-append fixed (listed (name_bytes whole w n)),
        (fit_small (name_bytes whole w n) (list_fits whole w n (runs_of whole w n fit))).0,
        shorter (λ x. not (any (same_name x) (all_names S))) (listed ns),
        (fit_small ns ok.names_fit_lem).0,
      )

  pub entry_past : PastFour (based (outside_of (session_in whole w n)) 0) (entry_sheet (session_in whole w n) ns s)
  entry_past =
      record {
        outside = based_fits 0 (outside_fits (orderly_in whole w n (T_true (runs_fit whole w n) (runs_of whole w n fit)) (omega arith) (omega arith)));
        names = length (names_with S ns);
        few = few_names;
        whole = T_true (rows_fit t) (entry_whole S ns s ok.rows_fit_lem);
        fitting = sheet_renamed named (whole_some s ok.rows_fit_lem) (T_true (sheet_fits (name_count ns) s) ok.sheet_fits_lem);
        shallow = depths_renamed named (T_true (depths_fit s) ok.depths_fit_lem);
      }

  pub entry_one : OneUnit (entry_sheet (session_in whole w n) ns s)
  entry_one =
      let p : Bool = eqb (length (kids s 0)) 1 in
      let q : Bool = eqb (length (kids_of s IMPORT (child s 0))) 0 in
      let r : Bool = leb (get_or w 0 0) (a s 0) in
      let h : T (p && q && r) = T_true (p && q && r) ok.entry_fits_lem in
      record {
        one = ap length (kids_same named 0) ∙ eqb→eq (length (kids s 0)) 1 (and_left p q (and_left (p && q) r h));
        alone =
            ap (λ (k : ℕ). length (kids_of t IMPORT k)) (named.childs 0) ∙ ap length (kids_of_same named IMPORT (child s 0))
            ∙ eqb→eq (length (kids_of s IMPORT (child s 0))) 0 (and_right p q (and_left (p && q) r h));
      }
