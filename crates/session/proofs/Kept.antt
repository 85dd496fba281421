-- Entering leaves a good session good: the words and bytes after it pass question 23 and hold the session after it.
use mathlib.Core.Path.{◌≡◌, refl, sym, ap, ◌∙◌, subst}
use mathlib.Core.Bool.{Bool, true, false, ◌&&◌}
use mathlib.Core.List.{List, Memᴰ as Mem}
use Prim.Native.Nat.{ℕ, ◌+◌, ◌-◌, ◌*◌, ◌/◌, ◌≤◌}
use native.Mathlib.Omega.{arith}
use lib.ListN.{length, get_or, length-append}
use lib.Dec.{eqb, leb, ltb, T}
use borrow.Author.Tests.{eqb-true, eqb-false}
use Rattle.definition.specs.Basics.{when◌then◌else◌, all}
use Rattle.definition.specs.Names.{fixed, listed}
use Rattle.definition.specs.Sheet.{Sheet, is}
use Rattle.definition.specs.Outside.{Outside}
use Rattle.definition.specs.Outcome.{Outcome}
use Rattle.definition.proofs.Format.Facts.{SheetFacts}
use Rattle.session.specs.Session.{Session, all_names, all_classes, base_of, outside_of}
use Rattle.session.specs.Entry.{new_names, names_with, entry_sheet}
use Rattle.session.specs.Enter.{class_by, classes_by, next_global, new_entry, accepting, entered, after_entry}
use Rattle.session.specs.Words.{Room, whole, name_bytes, session_in, runs_fit, session_fits, words_with, enter_outcome, enter_words, enter_bytes}
use Rattle.session.proofs.HeldRuns.{held_names, names_listed}
use Rattle.session.proofs.CountLaws.{entry_count}
use Rattle.session.proofs.Asked.{Asked, outcome_in}
use Rattle.session.proofs.SessionLaws.{runs_of}
use Rattle.session.proofs.Shown.{Holds, Runs}
use Rattle.session.proofs.AfterRefusal.{next_bounds, after_refusal}
use Rattle.session.proofs.AfterAccepted.{Wide, Taken, GoodParts, taken, accepted_runs, after_accepted}
use Rattle.session.proofs.EarlierClasses.{numbers_below, records_good}
use Rattle.session.proofs.NewMembers.{good_record}
use Rattle.session.proofs.NewClasses.{class_there, classes_good, classes_rise}
use Rattle.session.proofs.NewLaid.{laid_good_lem}
use Rattle.session.proofs.UnitRows.{UnitRows, unit_rows}

-- what an accepted entry declares is good
good_parts : (R : Room) (w n : List ℕ) → runs_fit R w n ≡ true → (s : Sheet) (ns : List ℕ) (g : ℕ)
    → Taken (session_in R w n) s ns (entry_sheet (session_in R w n) ns s) g
    → GoodParts (session_in R w n) (get_or w 1 0) (get_or w 3 0 + length (new_names (session_in R w n) ns)) g (new_entry (session_in R w n) s ns)
good_parts R w n fit s ns g k =
    record {
      laid = laid_good_lem E N g O t facts a.fits a.rows_whole a.few_rows base k.count there_is unit.0 unit.1 unit.2 unit.3;
      classes = classes_good E N S t facts a.rows_whole a.some_row a.few_rows base k.agreed records below;
      rising = classes_rise E N S t facts a.rows_whole a.some_row a.few_rows base k.agreed records below;
    }
  where
    S : Session
    S = session_in R w n

    O : Outside
    O = outside_of S

    t : Sheet
    t = entry_sheet S ns s

    a : Asked S s ns t
    a = k.asked

    E : ℕ
    E = get_or w 1 0

    N : ℕ
    N = get_or w 3 0 + length (new_names S ns)

    names_are : length (names_with S ns) ≡ 24 + N
    names_are =
        omega (
          arith,
          length-append (all_names S) (new_names S ns),
          ap length (held_names R w n fit),
          length-append fixed (listed (name_bytes R w n)),
          names_listed R w n fit,
        )

    facts : SheetFacts (24 + N) t
    facts = subst (λ (m : ℕ). SheetFacts m t) names_are a.facts

    base : base_of S ≡ 2048 * E
    base = ap (λ (m : ℕ). 2048 * m) (entry_count R w n fit)

    records : T (all (good_record E N (base_of S)) O.records)
    records = records_good R w n fit N (base_of S) (omega arith)

    below : T (all (λ c. ltb 256 c.number && ltb ((c.number - 256) / 2048) E) (all_classes S))
    below = numbers_below R w n fit

    there_is : (r : ℕ) → T (is t 4 r) → Mem (class_by O t r) (classes_by O t)
    there_is = class_there E N S t facts a.rows_whole a.some_row a.few_rows base k.agreed records below

    unit : (u : ℕ) × (f : ℕ) × (b : ℕ) × UnitRows t u f b
    unit = unit_rows (24 + N) t facts a.some_row a.one a.alone

pub wide : Wide whole
wide = record { bytes = refl; entries = refl; laid = refl; classes = refl; members = refl }

module _ (w n : List ℕ) (s : Sheet) (ns : List ℕ) (lent : ℕ) (fit : session_fits whole w n ≡ true) where
  abbrev S : Session
  S = session_in whole w n

  good : (enter_outcome whole w n s ns lent).number ≡ 0
      → GoodParts S (get_or w 1 0) (get_or w 3 0 + length (new_names S ns)) (entered S s ns lent).globals (new_entry S s ns)
  good z =
      let q : (entered S s ns lent).number ≡ 0 = ap (λ (o : Outcome). o.number) (sym told) ∙ z in
      good_parts whole w n (runs_of whole w n fit) s ns (entered S s ns lent).globals (taken whole wide w n fit s ns lent q)
    where
      told : enter_outcome whole w n s ns lent ≡ entered S s ns lent
      told = outcome_in whole (omega arith) (omega arith) w n fit s ns lent

  after_holds : Holds whole (enter_words whole w n s ns lent) (enter_bytes whole w n s ns lent) (after_entry S s ns lent)
  after_holds = go (eqb (enter_outcome whole w n s ns lent).number 0) refl
    where
      go : (t : Bool) → eqb (enter_outcome whole w n s ns lent).number 0 ≡ t → Holds whole (enter_words whole w n s ns lent) (enter_bytes whole w n s ns lent) (after_entry S s ns lent)
      go true q = let z = eqb-true (enter_outcome whole w n s ns lent).number 0 q in after_accepted whole wide w n fit s ns lent z (good z)
      go false q = after_refusal whole (omega arith) (omega arith) w n fit s ns lent (eqb-false (enter_outcome whole w n s ns lent).number 0 q)

  -- no global is given back
  globals_kept : get_or w 0 0 ≤ (after_entry S s ns lent).globals
  globals_kept = go (eqb k.number 0) refl (leb 5 k.number && leb k.number 21) refl
    where
      k : Outcome
      k = entered S s ns lent

      go : (t : Bool) → eqb (entered S s ns lent).number 0 ≡ t → (u : Bool) → (leb 5 (entered S s ns lent).number && leb (entered S s ns lent).number 21) ≡ u
          → get_or w 0 0
          ≤ (when t then accepting S s ns lent (entered S s ns lent)
          else when u then record { globals = next_global (outside_of S) (entry_sheet S ns s); entries = S.entries } else S).globals
      go true q u r = let x = taken whole wide w n fit s ns lent (eqb-true (entered S s ns lent).number 0 q) in omega (arith, x.count, x.asked.above)
      go false q true r = (next_bounds whole (omega arith) (omega arith) w n fit s ns lent r).0
      go false q false r = omega arith

-- The words and bytes after an entry, accepted or refused, pass question 23 if those before it did.
pub after_fits : (w n : List ℕ) (s : Sheet) (ns : List ℕ) (lent : ℕ) → session_fits whole w n ≡ true → session_fits whole (enter_words whole w n s ns lent) (enter_bytes whole w n s ns lent) ≡ true
after_fits w n s ns lent fit = (after_holds w n s ns lent fit).fits

-- and hold the session after it.
pub after_held : (w n : List ℕ) (s : Sheet) (ns : List ℕ) (lent : ℕ) → session_fits whole w n ≡ true
    → session_in whole (enter_words whole w n s ns lent) (enter_bytes whole w n s ns lent) ≡ after_entry (session_in whole w n) s ns lent
after_held w n s ns lent fit = (after_holds w n s ns lent fit).held

-- No entry gives a global back.
pub after_globals : (w n : List ℕ) (s : Sheet) (ns : List ℕ) (lent : ℕ) → session_fits whole w n ≡ true → get_or w 0 0 ≤ get_or (enter_words whole w n s ns lent) 0 0
after_globals w n s ns lent fit = omega (arith, globals_kept w n s ns lent fit, ap (λ (Z : Session). Z.globals) (after_held w n s ns lent fit))

-- Before its names on show are counted, the words with an accepted entry hold the session after it.
pub after_runs : (w n : List ℕ) (s : Sheet) (ns : List ℕ) (lent : ℕ) → session_fits whole w n ≡ true → (enter_outcome whole w n s ns lent).number ≡ 0
    → Runs whole (words_with whole w (entered (session_in whole w n) s ns lent).globals (new_entry (session_in whole w n) s ns)) (enter_bytes whole w n s ns lent)
    (after_entry (session_in whole w n) s ns lent)
after_runs w n s ns lent fit z = accepted_runs whole wide w n fit s ns lent z (good w n s ns lent fit z)
