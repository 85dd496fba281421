-- A refused entry leaves a good session good: after questions 5 to 21 only its global count is another, and after any other no word is.
use mathlib.Core.Path.{◌≡◌, refl, sym, ap, ◌∙◌, subst}
use mathlib.Core.Logic.{inr}
use mathlib.Core.Bool.{Bool, true, false, ◌&&◌}
use mathlib.Core.List.{List, [], ◌∷◌, ◌++◌}
use Prim.Native.Nat.{ℕ, ◌≤◌}
use native.Mathlib.Omega.{arith}
use lib.ListN.{length, get_or, set}
use lib.Seq.{get_or-set_other}
use lib.Dec.{eqb, leb, leb→le}
use borrow.Author.Tests.{ne_eqb}
use Rattle.definition.specs.Basics.{when◌then◌else◌}
use Rattle.definition.specs.Sheet.{Sheet}
use Rattle.definition.specs.Outcome.{Outcome}
use Rattle.definition.proofs.Lists.Tests.{T_true, and_left, and_right}
use Rattle.session.specs.Session.{Accepted, Session, names_shown, outside_of}
use Rattle.session.specs.Entry.{names_with, entry_sheet}
use Rattle.session.specs.Enter.{next_global, new_entry, entered, after_entry}
use Rattle.session.specs.Words.{Room, session_in, runs_fit, session_fits, showing, enter_outcome, words_with, bytes_with, enter_words, enter_bytes}
use Rattle.session.proofs.SessionLaws.{runs_of, shown_is, shown_fits_lem}
use Rattle.session.proofs.Shown.{Holds}
use Rattle.session.proofs.Asked.{Asked, outcome_in, asked_entry}
use Rattle.session.proofs.Globals.{next_bound, next_above}
use Rattle.session.proofs.GlobalKept.{global_held, global_fits}

-- after a refusal, by whether it is of questions 5 to 21; g is the walk's next global
refused_by_lem : (R : Room) (w n : List ℕ) → session_fits R w n ≡ true → (u : Bool) (g : ℕ) (v : List ℕ) (after : Session)
    → v ≡ (when u then set w 0 after.globals else w) → after ≡ (when u then record { globals = g; entries = (session_in R w n).entries } else session_in R w n)
    → (u ≡ true → (get_or w 0 0 ≤ g) × (g ≤ 1002048)) → Holds R v n after
refused_by_lem R w n fit false g v after p q b = record { fits = ap (λ (x : List ℕ). session_fits R x n) p ∙ fit; held = ap (λ (x : List ℕ). session_in R x n) p ∙ sym q }
refused_by_lem R w n fit true g v after p q b =
    record {
      fits = ap (λ (x : List ℕ). session_fits R x n) same ∙ shown_fits_lem R (set w 0 g) n (global_fits R w n runs g (b refl).0 (b refl).1) shown;
      held = ap (λ (x : List ℕ). session_in R x n) same ∙ global_held R w n runs g (b refl).0 ∙ sym q;
    }
  where
    runs : runs_fit R w n ≡ true
    runs = runs_of R w n fit

    -- no name is shown or hidden by the global count
    shown : get_or (set w 0 g) 2 0 ≡ names_shown (session_in R (set w 0 g) n)
    shown =
        get_or-set_other w 0 2 g 0 (λ e. omega (arith, e)) ∙ shown_is R w n fit
        ∙ sym (ap (λ (Z : Session). names_shown Z) (global_held R w n runs g (b refl).0))

    same : v ≡ set w 0 g
    same = p ∙ ap (λ (x : Session). set w 0 x.globals) q

module _ (R : Room) (few : R.laid ≤ 4096) (many : R.members ≤ 8192) (w n : List ℕ) (fit : session_fits R w n ≡ true) (s : Sheet) (ns : List ℕ) (lent : ℕ) where
  abbrev S : Session
  S = session_in R w n

  abbrev t : Sheet
  t = entry_sheet S ns s

  -- what is left of words, bytes and session after an outcome x, with an accepted entry e; g is the walk's next global, Z the session after
  abbrev pub words_at : Accepted → Session → Outcome → List ℕ
  words_at e Z x =
      when eqb x.number 0 then showing Z (words_with R w x.globals e)
      else when leb 5 x.number && leb x.number 21 then set w 0 Z.globals
      else w

  abbrev pub bytes_at : Accepted → Outcome → List ℕ
  bytes_at e x = when eqb x.number 0 then bytes_with w n e else n

  abbrev pub session_at : Accepted → ℕ → Outcome → Session
  session_at e g x =
      when eqb x.number 0 then record { globals = x.globals; entries = S.entries ++ e ∷ [] }
      else when leb 5 x.number && leb x.number 21 then record { globals = g; entries = S.entries }
      else S

  not_accepted : (e : Accepted) (g : ℕ) (Z : Session) (x : Outcome) → eqb x.number 0 ≡ false
      → (words_at e Z x ≡ (when leb 5 x.number && leb x.number 21 then set w 0 Z.globals else w)) × (bytes_at e x ≡ n)
      × (session_at e g x ≡ (when leb 5 x.number && leb x.number 21 then record { globals = g; entries = S.entries } else S))
  not_accepted e g Z x q = (rw q, rw q, rw q)

  pub next_bounds : leb 5 (entered S s ns lent).number && leb (entered S s ns lent).number 21 ≡ true
      → (get_or w 0 0 ≤ next_global (outside_of S) t) × (next_global (outside_of S) t ≤ 1002048)
  next_bounds f =
      let k : ℕ = (entered S s ns lent).number in
      let a : Asked S s ns t = (asked_entry R few many w n fit s ns lent
      (inr (leb→le 5 k (and_left (leb 5 k) (leb k 21) (T_true (leb 5 k && leb k 21) f)), leb→le k 21 (and_right (leb 5 k) (leb k 21) (T_true (leb 5 k && leb k 21) f))))).0 in
      (omega (arith, a.above, next_above (outside_of S) t), omega (arith, next_bound (length (names_with S ns)) a.fits a.facts, a.few_rows))

  pub words_are : enter_words R w n s ns lent ≡ words_at (new_entry S s ns) (after_entry S s ns lent) (entered S s ns lent)
  words_are = ap (words_at (new_entry S s ns) (after_entry S s ns lent)) (outcome_in R few many w n fit s ns lent)

  pub bytes_are : enter_bytes R w n s ns lent ≡ bytes_at (new_entry S s ns) (entered S s ns lent)
  bytes_are = ap (bytes_at (new_entry S s ns)) (outcome_in R few many w n fit s ns lent)

  pub after_refusal : ((enter_outcome R w n s ns lent).number ≡ 0 → ⊥) → Holds R (enter_words R w n s ns lent) (enter_bytes R w n s ns lent) (after_entry S s ns lent)
  after_refusal z =
      let x : Outcome = entered S s ns lent in
      let e : Accepted = new_entry S s ns in
      let g : ℕ = next_global (outside_of S) t in
      let q : eqb x.number 0 ≡ false = ne_eqb x.number 0 (λ p. z (ap (λ (o : Outcome). o.number) (outcome_in R few many w n fit s ns lent) ∙ p)) in
      let c = not_accepted e g (after_entry S s ns lent) x q in
      subst (λ (m : List ℕ). Holds R (enter_words R w n s ns lent) m (after_entry S s ns lent)) (sym (bytes_are ∙ c.1))
      (refused_by_lem R w n fit (leb 5 x.number && leb x.number 21) g (enter_words R w n s ns lent) (after_entry S s ns lent) (words_are ∙ c.0) c.2 next_bounds)
