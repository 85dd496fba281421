-- A withdrawal leaves a good session good, without its latest entry; right after an accepted entry it gives back the session before it.
use mathlib.Core.Path.{◌≡◌, sym, ap, ◌∙◌}
use mathlib.Core.Bool.{Bool, true}
use mathlib.Core.List.{List, [], ◌∷◌, ◌++◌}
use Prim.Native.Nat.{ℕ, ◌+◌, ◌<◌, ◌≤◌}
use native.Mathlib.Omega.{arith}
use lib.ListN.{length, get_or, take}
use lib.Seq.{get_or-set_other}
use Rattle.definition.specs.Sheet.{Sheet}
use Rattle.definition.specs.Outcome.{Outcome}
use Rattle.session.specs.Session.{Accepted, Session, all_classes, visible, names_shown, outside_of}
use Rattle.session.specs.Enter.{new_entry, entered, after_entry}
use Rattle.session.specs.Words.{Room, whole, fixed_bytes, entry_place, laid_place, class_place, member_place, name_bytes, session_in, runs_fit, session_fits, words_with}
use Rattle.session.specs.Words.{enter_outcome, enter_words, enter_bytes, name_text}
use Rattle.session.specs.Withdraw.{withdrawn, has_child, withdraw_words}
use Rattle.session.proofs.SessionLaws.{runs_of, shown_is}
use Rattle.session.proofs.Asked.{outcome_in}
use Rattle.session.proofs.Added.{Added}
use Rattle.session.proofs.AfterAccepted.{accepted_words, accepted_added}
use Rattle.session.proofs.Kept.{wide, after_fits, after_held}
use Rattle.session.proofs.WithdrawLaws.{but_last, withdraw_holds, withdraw_other, entries_again, counts_again, names_again, texts_again}

-- The words after a withdrawal, refused or not, pass question 23 if those before it did,
pub withdraw_fits : (R : Room) (w n : List ℕ) → session_fits R w n ≡ true → session_fits R (withdraw_words R w n) n ≡ true
withdraw_fits R w n fit = (withdraw_holds R w n fit).fits

-- and hold the session without its latest entry, if it has one.
pub withdraw_held : (R : Room) (w n : List ℕ) → session_fits R w n ≡ true → session_in R (withdraw_words R w n) n ≡ withdrawn (session_in R w n)
withdraw_held R w n fit = (withdraw_holds R w n fit).held

-- The session of words v and bytes m is that of words w and bytes n again, but for its global count, g, and for what lies past the counts.
pub record Again (R : Room) (w n v m : List ℕ) (g : ℕ) : Type 0 where
  -- its entries, and so the entry number, the visible names, the classes and their child marks,
  pub held : session_in R v m ≡ record { globals = g; entries = (session_in R w n).entries }
  pub number : length (session_in R v m).entries ≡ length (session_in R w n).entries
  pub seen : visible (session_in R v m) ≡ visible (session_in R w n)
  pub classes : all_classes (session_in R v m) ≡ all_classes (session_in R w n)
  pub marks : (c : ℕ) → has_child (session_in R v m) c ≡ has_child (session_in R w n) c
  -- the text of every name,
  pub texts : (ns : List ℕ) (own : Bool) (k : ℕ) → name_text R v m ns own k ≡ name_text R w n ns own k
  -- what stands outside the next entry,
  pub outside : outside_of (session_in R v m) ≡ outside_of (session_in R w n)
  -- and, word by word and byte by byte, all counts but the globals, the rows that are counted, and the names.
  pub entries : get_or v 1 0 ≡ get_or w 1 0
  pub shown : get_or v 2 0 ≡ get_or w 2 0
  pub counts : (c : ℕ) → c < 5 → get_or v (3 + c) 0 ≡ get_or w (3 + c) 0
  pub entry_rows : (i k : ℕ) → i < get_or w 1 0 → k < 5 → get_or v (entry_place R i + k) 0 ≡ get_or w (entry_place R i + k) 0
  pub laid_rows : (i k : ℕ) → i < get_or w 5 0 → k < 4 → get_or v (laid_place R i + k) 0 ≡ get_or w (laid_place R i + k) 0
  pub class_rows_lem : (i k : ℕ) → i < get_or w 6 0 → k < 5 → get_or v (class_place R i + k) 0 ≡ get_or w (class_place R i + k) 0
  pub member_rows : (i k : ℕ) → i < get_or w 7 0 → k < 3 → get_or v (member_place R i + k) 0 ≡ get_or w (member_place R i + k) 0
  pub fixed_names : take (length fixed_bytes) m ≡ take (length fixed_bytes) n
  pub names : name_bytes R v m ≡ name_bytes R w n

-- Withdrawing right after an accepted entry gives back the session before it; the globals that the entry used stay used.
pub enter_withdraw : (w n : List ℕ) (s : Sheet) (ns : List ℕ) (lent : ℕ) → session_fits whole w n ≡ true → (enter_outcome whole w n s ns lent).number ≡ 0
    → Again whole w n (withdraw_words whole (enter_words whole w n s ns lent) (enter_bytes whole w n s ns lent)) (enter_bytes whole w n s ns lent)
    (enter_outcome whole w n s ns lent).globals
enter_withdraw w n s ns lent fit z =
    record {
      held = back;
      number = ap (λ (S : Session). length S.entries) back;
      seen = ap (λ (S : Session). visible S) back;
      classes = ap (λ (S : Session). all_classes S) back;
      marks = λ c. ap (λ (S : Session). has_child S c) back;
      texts = texts_again whole w n v m runs runs'' same;
      outside = ap (λ (S : Session). outside_of S) back;
      entries = entries_again whole w n v m runs runs'' same;
      shown = shown_is whole v m fit'' ∙ ap (λ (S : Session). names_shown S) back ∙ sym (shown_is whole w n fit);
      counts = counts_again whole w n v m runs runs'' same;
      entry_rows = λ i k l h. kept (entry_place whole i + k) (omega arith) ∙ x.entry_old i k l h;
      laid_rows = λ i k l h. kept (laid_place whole i + k) (omega arith) ∙ x.laid_old i k l h;
      class_rows_lem = λ i k l h. kept (class_place whole i + k) (omega arith) ∙ x.class_old i k l h;
      member_rows = λ i k l h. kept (member_place whole i + k) (omega arith) ∙ x.member_old i k l h;
      fixed_names = x.fixed_same;
      names = names_again whole w n v m runs runs'' same;
    }
  where
    S : Session
    S = session_in whole w n

    e : Accepted
    e = new_entry S s ns

    u : List ℕ
    u = enter_words whole w n s ns lent

    m : List ℕ
    m = enter_bytes whole w n s ns lent

    v : List ℕ
    v = withdraw_words whole u m

    fit' : session_fits whole u m ≡ true
    fit' = after_fits w n s ns lent fit

    fit'' : session_fits whole v m ≡ true
    fit'' = withdraw_fits whole u m fit'

    runs : runs_fit whole w n ≡ true
    runs = runs_of whole w n fit

    runs'' : runs_fit whole v m ≡ true
    runs'' = runs_of whole v m fit''

    laid : List ℕ
    laid = words_with whole w (entered S s ns lent).globals e

    x : Added whole w n laid m (entered S s ns lent).globals e
    x = accepted_added whole wide w n fit s ns lent z

    told : enter_outcome whole w n s ns lent ≡ entered S s ns lent
    told = outcome_in whole (omega arith) (omega arith) w n fit s ns lent

    after : after_entry S s ns lent ≡ record { globals = (enter_outcome whole w n s ns lent).globals; entries = S.entries ++ e ∷ [] }
    after =
        let q : (entered S s ns lent).number ≡ 0 = ap (λ (o : Outcome). o.number) (sym told) ∙ z in
        rw q (ap (λ (o : Outcome). record { globals = o.globals; entries = S.entries ++ e ∷ [] }) (sym told))

    back : session_in whole v m ≡ record { globals = (enter_outcome whole w n s ns lent).globals; entries = S.entries }
    back =
        withdraw_held whole u m fit' ∙ ap (λ (y : Session). withdrawn y) (after_held w n s ns lent fit ∙ after)
        ∙ ap (λ (es : List Accepted). record { globals = (enter_outcome whole w n s ns lent).globals; entries = es }) (but_last S.entries e)

    same : (session_in whole v m).entries ≡ S.entries
    same = ap (λ (y : Session). y.entries) back

    -- no word past the counts is another
    kept : (p : ℕ) → 8 ≤ p → get_or v p 0 ≡ get_or laid p 0
    kept p l =
        withdraw_other whole u m p l ∙ ap (λ (y : List ℕ). get_or y p 0) (accepted_words whole wide w n fit s ns lent z)
        ∙ get_or-set_other laid 2 p (names_shown (after_entry S s ns lent)) 0 (λ q. omega (arith, q))
