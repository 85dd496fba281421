-- An accepted entry: what is known of it, and the session after it, if its declarations and classes are good.
use mathlib.Core.Path.{◌≡◌, sym, ap, ◌∙◌, subst}
use mathlib.Core.Logic.{inl}
use mathlib.Core.Bool.{Bool, true, ◌&&◌}
use mathlib.Core.List.{List, [], ◌∷◌, ◌++◌}
use Prim.Native.Nat.{ℕ, suc, ◌+◌, ◌<◌, ◌≤◌}
use native.Mathlib.Omega.{arith}
use lib.ListN.{length, get_or}
use lib.Dec.{leb, T, leb→le}
use Rattle.definition.specs.Basics.{all, unlike, concat_map, total}
use Rattle.definition.specs.Names.{Name, fixed, listed, same_name}
use Rattle.definition.specs.Sheet.{Sheet}
use Rattle.definition.specs.Outside.{is_outward}
use Rattle.definition.specs.Scope.{history}
use Rattle.definition.specs.Slots.{final_globals}
use Rattle.definition.specs.Question.{refusal}
use Rattle.definition.specs.Outcome.{Outcome, asked}
use Rattle.definition.proofs.Lists.Tests.{T_true, and_left, and_right, pick}
use Rattle.definition.proofs.Format.Accepted.{asked_accepted}
use Rattle.session.specs.Session.{Accepted, Session, all_classes, outside_of, within, member_count}
use Rattle.session.specs.Entry.{new_names, names_with, to_entry, entry_sheet}
use Rattle.session.specs.Enter.{next_global, new_entry, accepting, entered, after_entry}
use Rattle.session.specs.Words.{Room, ended, fixed_bytes, session_size, name_bytes, session_in, runs_fit, session_fits, showing, words_with, bytes_with, enter_outcome, enter_words, enter_bytes}
use Rattle.session.proofs.NameLaws.{names_apart_lem}
use Rattle.session.proofs.SessionLaws.{clauses, limits, runs_of}
use Rattle.session.proofs.HeldRuns.{held_names}
use Rattle.session.proofs.CountLaws.{list_fits, within_with}
use Rattle.session.proofs.Asked.{Asked, past_asked, outcome_in, asked_entry}
use Rattle.session.proofs.Globals.{final_bound}
use Rattle.session.proofs.Shown.{Holds, Runs, showing_holds}
use Rattle.session.proofs.AfterRefusal.{words_at, bytes_at, session_at, words_are, bytes_are}
use Rattle.session.proofs.NewWords.{Roomy, no_class}
use Rattle.session.proofs.Added.{Added, added}
use Rattle.session.proofs.ReadBack.{session_back}
use Rattle.session.proofs.Extended.{all_turned}
use Rattle.session.proofs.Follows.{laid_good, class_good, known_in, MayFollow, laid_outward, follows_fits}
use Rattle.session.proofs.NewNames.{new_endless, new_sized, new_apart}

-- The room R is that of every session.
pub record Wide (R : Room) : Type 0 where
  pub bytes : R.bytes ≡ 32768
  pub entries : R.entries ≡ 1000
  pub laid : R.laid ≡ 4096
  pub classes : R.classes ≡ 1024
  pub members : R.members ≡ 8192

-- An accepted entry of sheet s and names ns into session S; t is its sheet, with global count g after it.
pub record Taken (S : Session) (s : Sheet) (ns : List ℕ) (t : Sheet) (g : ℕ) : Type 0 where
  pub asked : Asked S s ns t
  pub agreed : (refusal (outside_of S) t (history (outside_of S) t)).number ≡ 0
  pub count : g ≡ final_globals t (history (outside_of S) t)
  pub room : within (record { globals = g; entries = S.entries ++ new_entry S s ns ∷ [] }) ≡ true

-- What is to be shown of its declarations and classes, if it is entry E with N names after it.
pub record GoodParts (S : Session) (E N g : ℕ) (e : Accepted) : Type 0 where
  pub laid : T (all (laid_good E N g e.classes) e.laid)
  pub classes : T (all (class_good E N (known_in (all_classes S ++ e.classes))) e.classes)
  pub rising : (j : ℕ) → suc j < length e.classes → (get_or e.classes j no_class).number < (get_or e.classes (suc j) no_class).number

module _ (R : Room) (wide : Wide R) (w n : List ℕ) (fit : runs_fit R w n ≡ true) where
  fits : T (runs_fit R w n)
  fits = T_true (runs_fit R w n) fit

  -- question 24, with room for all
  roomy : (g : ℕ) (e : Accepted) → within (record { globals = g; entries = (session_in R w n).entries ++ e ∷ [] }) ≡ true → Roomy R w n e
  roomy g e h =
      record {
        names = leb→le (get_or w 3 0 + length e.names) 1024 (and_left b₀ b₁ (and_left (b₀ && b₁) b₂ upto₂));
        bytes = omega (arith, wide.bytes, leb→le (get_or w 4 0 + length (concat_map ended e.names)) 32768 (and_right b₀ b₁ (and_left (b₀ && b₁) b₂ upto₂)));
        laid = omega (arith, wide.laid, leb→le (get_or w 5 0 + length e.laid) 4096 (and_right (b₀ && b₁) b₂ upto₂));
        classes = omega (arith, wide.classes, leb→le (get_or w 6 0 + length e.classes) 1024 (and_right (b₀ && b₁ && b₂) b₃ upto₃));
        members = omega (arith, wide.members, leb→le (get_or w 7 0 + total member_count e.classes) 8192 (and_right (b₀ && b₁ && b₂ && b₃) b₄ upto₄));
        entries = omega (arith, wide.entries, leb→le (get_or w 1 0 + 1) 1000 (and_right (b₀ && b₁ && b₂ && b₃ && b₄) b₅ all_are));
        long = leb→le (session_size R) (length w) (pick (limits R w n fits) (clauses R w n fits 0) 7);
        long_bytes = leb→le (length fixed_bytes + R.bytes) (length n) (pick (limits R w n fits) (clauses R w n fits 0) 8);
      }
    where
      b₀ : Bool
      b₀ = leb (get_or w 3 0 + length e.names) 1024

      b₁ : Bool
      b₁ = leb (get_or w 4 0 + length (concat_map ended e.names)) 32768

      b₂ : Bool
      b₂ = leb (get_or w 5 0 + length e.laid) 4096

      b₃ : Bool
      b₃ = leb (get_or w 6 0 + length e.classes) 1024

      b₄ : Bool
      b₄ = leb (get_or w 7 0 + total member_count e.classes) 8192

      b₅ : Bool
      b₅ = leb (get_or w 1 0 + 1) 1000

      all_are : T (b₀ && b₁ && b₂ && b₃ && b₄ && b₅)
      all_are = T_true (b₀ && b₁ && b₂ && b₃ && b₄ && b₅) (sym (within_with R w n fit g e) ∙ h)

      upto₄ : T (b₀ && b₁ && b₂ && b₃ && b₄)
      upto₄ = and_left (b₀ && b₁ && b₂ && b₃ && b₄) b₅ all_are

      upto₃ : T (b₀ && b₁ && b₂ && b₃)
      upto₃ = and_left (b₀ && b₁ && b₂ && b₃) b₄ upto₄

      upto₂ : T (b₀ && b₁ && b₂)
      upto₂ = and_left (b₀ && b₁ && b₂) b₃ upto₃

  -- the words and bytes with an entry that may follow
  runs_with : (g : ℕ) (e : Accepted) → Roomy R w n e → MayFollow R w n g e
      → (runs_fit R (words_with R w g e) (bytes_with w n e) ≡ true)
      × (session_in R (words_with R w g e) (bytes_with w n e) ≡ record { globals = g; entries = (session_in R w n).entries ++ e ∷ [] })
  runs_with g e room ok =
      (follows_fits R w n v' m' g e fit x ok (omega (arith, wide.bytes)), session_back R w n v' m' g e fit x ok.rises ok.endless out)
    where
      v' : List ℕ
      v' = words_with R w g e

      m' : List ℕ
      m' = bytes_with w n e

      x : Added R w n v' m' g e
      x = added R w n g e room

      E : ℕ
      E = get_or w 1 0

      N : ℕ
      N = get_or w 3 0 + length e.names

      out : T (all (λ d. is_outward d.means) e.laid)
      out = all_turned (laid_good E N g e.classes) (λ d. is_outward d.means) e.laid (λ d m h. laid_outward E N g e.classes d h) ok.laid

module _ (R : Room) (wide : Wide R) (w n : List ℕ) (fit : session_fits R w n ≡ true) (s : Sheet) (ns : List ℕ) (lent : ℕ) where
  abbrev S : Session
  S = session_in R w n

  abbrev t : Sheet
  t = entry_sheet S ns s

  few : R.laid ≤ 4096
  few = omega (arith, wide.laid)

  many : R.members ≤ 8192
  many = omega (arith, wide.members)

  runs : runs_fit R w n ≡ true
  runs = runs_of R w n fit

  pub taken : (entered S s ns lent).number ≡ 0 → Taken S s ns t (entered S s ns lent).globals
  taken e =
      let p = asked_entry R few many w n fit s ns lent (inl e) in
      let x : Outcome = asked (outside_of S) lent t in
      let q = past_asked (to_entry S ns) x (within (accepting S s ns lent x)) (ap (λ (o : Outcome). o.number) (sym p.1) ∙ e) in
      let same : entered S s ns lent ≡ x = p.1 ∙ q.2 in
      let r = asked_accepted (outside_of S) lent t q.0 in
      record {
        asked = p.0;
        agreed = r.0;
        count = ap (λ (o : Outcome). o.globals) same ∙ r.3;
        room = ap (λ (o : Outcome). within (accepting S s ns lent o)) same ∙ q.1;
      }

  may_follow : (g : ℕ) → Taken S s ns t g → GoodParts S (get_or w 1 0) (get_or w 3 0 + length (new_names S ns)) g (new_entry S s ns) → MayFollow R w n g (new_entry S s ns)
  may_follow g k good =
      record {
        rises = omega (arith, k.count, k.asked.above);
        few = omega (arith, k.count, final_bound (length (names_with S ns)) k.asked.fits k.asked.facts, k.asked.few_rows);
        endless = new_endless S ns k.asked.named;
        sized = new_sized S ns k.asked.named;
        apart = subst (λ (l : List Name). T (unlike same_name (l ++ new_names S ns))) (held_names R w n runs)
            (new_apart S ns k.asked.named (subst (λ (l : List Name). T (unlike same_name l)) (sym (held_names R w n runs))
            (T_true (unlike same_name (fixed ++ listed (name_bytes R w n))) (names_apart_lem (name_bytes R w n) (list_fits R w n runs)))));
        laid = good.laid;
        classes = good.classes;
        rising = good.rising;
      }

  chosen : (e : Accepted) (Z : Session) (g : ℕ) (x : Outcome) → x.number ≡ 0
      → (words_at R few many w n fit s ns lent e Z x ≡ showing Z (words_with R w x.globals e)) × (bytes_at R few many w n fit s ns lent e x ≡ bytes_with w n e)
      × (session_at R few many w n fit s ns lent e g x ≡ record { globals = x.globals; entries = S.entries ++ e ∷ [] })
  chosen e Z g x q = (rw q, rw q, rw q)

  number_in : (enter_outcome R w n s ns lent).number ≡ 0 → (entered S s ns lent).number ≡ 0
  number_in z = ap (λ (o : Outcome). o.number) (sym (outcome_in R few many w n fit s ns lent)) ∙ z

  abbrev e : Accepted
  e = new_entry S s ns

  -- the words with it, before its names on show are counted
  abbrev laid : List ℕ
  laid = words_with R w (entered S s ns lent).globals (new_entry S s ns)

  module _ (z : (enter_outcome R w n s ns lent).number ≡ 0) where
    parts : (words_at R few many w n fit s ns lent e (after_entry S s ns lent) (entered S s ns lent) ≡ showing (after_entry S s ns lent) laid)
        × (bytes_at R few many w n fit s ns lent e (entered S s ns lent) ≡ bytes_with w n e)
        × (after_entry S s ns lent ≡ record { globals = (entered S s ns lent).globals; entries = S.entries ++ e ∷ [] })
    parts = chosen e (after_entry S s ns lent) (next_global (outside_of S) t) (entered S s ns lent) (number_in z)

    -- the words after it, and the bytes
    pub accepted_words : enter_words R w n s ns lent ≡ showing (after_entry S s ns lent) laid
    accepted_words = words_are R few many w n fit s ns lent ∙ parts.0

    accepted_bytes : enter_bytes R w n s ns lent ≡ bytes_with w n e
    accepted_bytes = bytes_are R few many w n fit s ns lent ∙ parts.1

    room : Roomy R w n e
    room = roomy R wide w n runs (entered S s ns lent).globals e (taken (number_in z)).room

    -- the words and bytes with it have it added
    pub accepted_added : Added R w n laid (enter_bytes R w n s ns lent) (entered S s ns lent).globals e
    accepted_added =
        subst (λ (m : List ℕ). Added R w n laid m (entered S s ns lent).globals e) (sym accepted_bytes) (added R w n (entered S s ns lent).globals e room)

    module _ (good : GoodParts S (get_or w 1 0) (get_or w 3 0 + length (new_names S ns)) (entered S s ns lent).globals e) where
      -- and hold the session after it
      pub accepted_runs : Runs R laid (enter_bytes R w n s ns lent) (after_entry S s ns lent)
      accepted_runs =
          let k = runs_with R wide w n runs (entered S s ns lent).globals e room (may_follow (entered S s ns lent).globals (taken (number_in z)) good) in
          subst (λ (m : List ℕ). Runs R laid m (after_entry S s ns lent)) (sym accepted_bytes) (record { fits = k.0; held = k.1 ∙ sym parts.2 })

      pub after_accepted : Holds R (enter_words R w n s ns lent) (enter_bytes R w n s ns lent) (after_entry S s ns lent)
      after_accepted =
          subst (λ (v : List ℕ). Holds R v (enter_bytes R w n s ns lent) (after_entry S s ns lent)) (sym accepted_words)
          (showing_holds R laid (enter_bytes R w n s ns lent) accepted_runs)
