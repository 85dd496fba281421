-- Words that get the number of names on show: no row and no other test reads it, so good runs become a good session.
use mathlib.Core.Path.{◌≡◌, sym, ap, ◌∙◌}
use mathlib.Core.Bool.{true}
use mathlib.Core.List.{List}
use Prim.Native.Nat.{ℕ, ◌+◌}
use native.Mathlib.Omega.{arith}
use lib.ListN.{length, get_or, set, length-set}
use lib.Seq.{get_or-set_same, get_or-set_other, take_all}
use lib.Dec.{T, leb→le}
use Rattle.definition.proofs.Lists.Tests.{T_true, pick}
use Rattle.session.specs.Session.{Accepted, Session, names_shown}
use Rattle.session.specs.Words.{Room, session_size, session_in, runs_fit, session_fits, showing}
use Rattle.session.proofs.SessionLaws.{clauses, limits, last_are, shown_fits_lem}
use Rattle.session.proofs.CountLaws.{entry_count}
use Rattle.session.proofs.Cut.{Cut, cut_fits, cut_held}

-- the words v and bytes m are those of a good session, which is S
pub record Holds (R : Room) (v m : List ℕ) (S : Session) : Type 0 where
  pub fits : session_fits R v m ≡ true
  pub held : session_in R v m ≡ S

-- their runs are, and it is S; the names on show may be any number
pub record Runs (R : Room) (v m : List ℕ) (S : Session) : Type 0 where
  pub fits : runs_fit R v m ≡ true
  pub held : session_in R v m ≡ S

module _ (R : Room) (w n : List ℕ) (runs : runs_fit R w n ≡ true) where
  fits : T (runs_fit R w n)
  fits = T_true (runs_fit R w n) runs

  -- with another word there they are cut to all their entries
  same_cut : (k : ℕ) → Cut R w n (set w 2 k) (get_or w 1 0)
  same_cut k =
      record {
        fewer = omega arith;
        long = length-set w 2 k;
        globals = other 0 (omega arith);
        entries = other 1 (omega arith);
        counts = λ c l. other (3 + c) (omega arith) ∙ sym (last_are R w n fits c l);
        rows = λ p l. other p (omega arith);
      }
    where
      other : (p : ℕ) → (p ≡ 2 → ⊥) → get_or (set w 2 k) p 0 ≡ get_or w p 0
      other p f = get_or-set_other w 2 p k 0 f

  pub showing_runs : (k : ℕ) → runs_fit R (set w 2 k) n ≡ true
  showing_runs k = cut_fits R w n runs (set w 2 k) (get_or w 1 0) (same_cut k)

  pub showing_held : (k : ℕ) → session_in R (set w 2 k) n ≡ session_in R w n
  showing_held k =
      cut_held R w n runs (set w 2 k) (get_or w 1 0) (same_cut k)
      ∙ ap (λ (es : List Accepted). record { globals = get_or w 0 0; entries = es })
      (take_all (get_or w 1 0) (session_in R w n).entries (omega (arith, entry_count R w n runs)))

-- with the number of the session held they are good
pub showing_holds : (R : Room) (w n : List ℕ) {S : Session} → Runs R w n S → Holds R (showing S w) n S
showing_holds R w n {S} x =
    let fits : T (runs_fit R w n) = T_true (runs_fit R w n) x.fits in
    let held : session_in R (showing S w) n ≡ S = showing_held R w n x.fits (names_shown S) ∙ x.held in
    let stored : get_or (showing S w) 2 0 ≡ names_shown S =
    get_or-set_same w 2 (names_shown S) 0 (omega (arith, leb→le (session_size R) (length w) (pick (limits R w n fits) (clauses R w n fits 0) 7))) in
    record {
      fits = shown_fits_lem R (showing S w) n (showing_runs R w n x.fits (names_shown S)) (stored ∙ sym (ap (λ (Z : Session). names_shown Z) held));
      held = held;
    }
