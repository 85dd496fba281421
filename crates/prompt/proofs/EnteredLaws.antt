-- What entering comes to: an entry that is refused before the walk, and one that is asked on.
use mathlib.Core.Path.{◌≡◌, refl, sym, ap, ◌∙◌, subst}
use mathlib.Core.Logic.{◌⊎◌, inl, inr}
use mathlib.Core.Bool.{Bool, true, false, ◌&&◌}
use mathlib.Core.List.{List}
use Prim.Native.Nat.{ℕ, ◌<◌}
use native.Mathlib.Omega.{arith}
use lib.Dec.{eqb, leb}
use lib.ListN.{length, get_or, set, replicate}
use Rattle.definition.specs.Basics.{when◌then◌else◌}
use Rattle.definition.specs.Names.{Name}
use Rattle.definition.specs.Sheet.{Sheet}
use Rattle.definition.specs.Outcome.{Outcome, refused}
use Rattle.answer.specs.declared.Answer.{Answer}
use Rattle.answer.specs.Tells.{Tells}
use Rattle.finish.proofs.SettledLaws.{zeros_words}
use Rattle.session.specs.Session.{Accepted, Session, names_shown, outside_of}
use Rattle.session.specs.Entry.{new_names, to_entry, entry_sheet}
use Rattle.session.specs.Enter.{renamed, new_entry, next_global, entered, after_entry, accepting}
use Rattle.session.specs.Words.{whole, session_in, session_fits, showing, words_with, bytes_with, enter_outcome, enter_words, enter_bytes}
use Rattle.session.proofs.SessionLaws.{shown_is}
use Rattle.session.proofs.Shown.{Runs}
use Rattle.session.proofs.Kept.{after_fits, after_held, after_runs}
use Rattle.session_outside.specs.Written.{visible_names}
use Rattle.session_outside.specs.Readable.{Readable}
use Rattle.session_outside.proofs.WholeLaws.{names_shown_lem}
use Rattle.session_outside.proofs.ReadableLaws.{runs_readable}
use Rattle.entry_ready.specs.Asked.{entry_no}
use Rattle.entry_ready.specs.Over.{asked_over, words_after}
use Rattle.entry_space.specs.Space.{EnteredIn}
use Rattle.prepare_entry.proofs.OutcomeLaws.{no_before, before_range, refused_before, entered_is, outcome_is, number_is, entry_tells, entry_words, entry_closures}
use Rattle.prompt.specs.Entered.{Entered}
use borrow.Author.Tests.{eq-eqb, ne_eqb, lt-leb, le-leb}

carried : (P : List ℕ → List ℕ → Type 0) {a b c d : List ℕ} → a ≡ c → b ≡ d → P c d → P a b
carried P {a} {b} {c} {d} e f p = subst (λ (x : List ℕ). P x b) (sym e) (subst (P c) (sym f) p)

-- the words and bytes after a refusal that uses no global
module _ (w n : List ℕ) (s : Sheet) (ns : List ℕ) (lent : ℕ) where
  idle_words : (k : ℕ) → (enter_outcome whole w n s ns lent).number ≡ k → (k ≡ 0 → ⊥) → (k < 5) ⊎ (21 < k) → enter_words whole w n s ns lent ≡ w
  idle_words k e f (inl l) = rw (e, ne_eqb k 0 f, lt-leb 5 k l)
  idle_words k e f (inr l) = rw (e, ne_eqb k 0 f, le-leb 5 k (omega arith), lt-leb k 21 l)

  idle_bytes : (k : ℕ) → (enter_outcome whole w n s ns lent).number ≡ k → (k ≡ 0 → ⊥) → enter_bytes whole w n s ns lent ≡ n
  idle_bytes k e f = rw (e, ne_eqb k 0 f)

  -- what is so of the words and bytes after every entry is so of those that equal them
  again : {w' n' : List ℕ} → w' ≡ enter_words whole w n s ns lent → n' ≡ enter_bytes whole w n s ns lent → session_fits whole w n ≡ true → session_fits whole w' n' ≡ true
  again e f fit = carried (λ v m. session_fits whole v m ≡ true) e f (after_fits w n s ns lent fit)

  after : {w' n' : List ℕ} → w' ≡ enter_words whole w n s ns lent → n' ≡ enter_bytes whole w n s ns lent → session_fits whole w n ≡ true
      → session_in whole w' n' ≡ after_entry (session_in whole w n) s ns lent
  after e f fit = carried (λ v m. session_in whole v m ≡ after_entry (session_in whole w n) s ns lent) e f (after_held w n s ns lent fit)

  on_show : {w' n' : List ℕ} → w' ≡ enter_words whole w n s ns lent → n' ≡ enter_bytes whole w n s ns lent → session_fits whole w n ≡ true
      → get_or w' 2 0 ≡ names_shown (session_in whole w' n')
  on_show {w'} {n'} e f fit = shown_is whole w' n' (again e f fit)

  -- refused before the walk
  pub entered_no : {k : ℕ} → k ≡ no_before w n s ns → (k ≡ 0 → ⊥) → {x : Answer} {out : List ℕ} → Tells (refused k) x → out ≡ replicate lent 0
      → Entered w n s ns lent x out w n
  entered_no {k} is f {x} {out} t z =
      let e : enter_outcome whole w n s ns lent ≡ refused k = refused_before w n s ns lent is f in
      let l : (k < 5) ⊎ (21 < k) = before_range w n s ns is in
      let number : (enter_outcome whole w n s ns lent).number ≡ k = ap (λ (o : Outcome). o.number) e in
      record {
        tells = subst (λ (o : Outcome). Tells o x) (sym e) t;
        words = zeros_words lent (enter_outcome whole w n s ns lent) out (ap (λ (o : Outcome). o.rows) e) z;
        session = sym (idle_words k number f l);
        bytes = sym (idle_bytes k number f);
        fits = again (sym (idle_words k number f l)) (sym (idle_bytes k number f));
        held = after (sym (idle_words k number f l)) (sym (idle_bytes k number f));
        shown = on_show (sym (idle_words k number f l)) (sym (idle_bytes k number f));
        closures = λ h. absurd (f (sym t.number ∙ h));
      }

-- asked on: the words and bytes of the session after it
module _ (w n : List ℕ) (s : Sheet) (ns : List ℕ) (lent : ℕ) (fit : session_fits whole w n ≡ true) (none : entry_no (get_or w 0 0) s ns ≡ 0) where
  abbrev S : Session
  S = session_in whole w n

  abbrev t : Sheet
  t = entry_sheet S ns s

  abbrev ms : List Name
  ms = new_names S ns

  abbrev o : Outcome
  o = asked_over S t ms lent

  outcome : enter_outcome whole w n s ns lent ≡ renamed (to_entry S ns) o
  outcome = outcome_is w n s ns lent fit none

  abbrev e : Accepted
  e = new_entry S s ns

  abbrev Z : Session
  Z = after_entry S s ns lent

  -- is it refused by a question whose no keeps the globals of the walk?
  abbrev walked : Bool
  walked = leb 5 o.number && leb o.number 21

  -- the global count after it, by whether it is accepted
  after_count : Bool → ℕ
  after_count a =
      (when a then accepting S s ns lent (renamed (to_entry S ns) o)
      else when walked then record { globals = next_global (outside_of S) t; entries = S.entries } else S).globals

  enter_is : enter_words whole w n s ns lent
      ≡ (when eqb o.number 0 then showing Z (words_with whole w o.globals e) else when walked then set w 0 (after_count (eqb o.number 0)) else w)
  unfolding after_count
  enter_is =
      ap (λ (x : Outcome). when eqb x.number 0 then showing Z (words_with whole w x.globals e)
      else when leb 5 x.number && leb x.number 21 then set w 0 Z.globals else w) outcome
      ∙ ap (λ (g : ℕ). when eqb o.number 0 then showing Z (words_with whole w o.globals e) else when walked then set w 0 g else w)
      (ap next (entered_is w n s ns lent fit none))
    where
      next : Outcome → ℕ
      next x =
          (when eqb x.number 0 then accepting S s ns lent x
          else when leb 5 x.number && leb x.number 21 then record { globals = next_global (outside_of S) t; entries = S.entries } else S).globals

  -- the words of an entry that is refused,
  words_no : (o.number ≡ 0 → ⊥) → words_after S t ms lent w ≡ enter_words whole w n s ns lent
  unfolding after_count
  words_no f =
      let left : eqb o.number 0 ≡ false = ne_eqb o.number 0 f in
      ap (λ (a : Bool). when a then words_with whole w o.globals e else when walked then set w 0 (next_global (outside_of S) t) else w) left ∙ go walked
      ∙ sym (enter_is ∙ ap (λ (a : Bool). when a then showing Z (words_with whole w o.globals e) else when walked then set w 0 (after_count a) else w) left)
    where
      go : (c : Bool) → (when c then set w 0 (next_global (outside_of S) t) else w)
          ≡ (when c then set w 0 (when c then record { globals = next_global (outside_of S) t; entries = S.entries } else S).globals else w)
      go true = refl
      go false = refl

  -- and of one that is accepted, before and after its names on show are counted
  laid_is : o.number ≡ 0 → words_after S t ms lent w ≡ words_with whole w (entered S s ns lent).globals e
  laid_is z =
      ap (λ (a : Bool). when a then words_with whole w o.globals e else when walked then set w 0 (next_global (outside_of S) t) else w) (eq-eqb o.number 0 z)
      ∙ ap (λ (x : Outcome). words_with whole w x.globals e) (sym (entered_is w n s ns lent fit none))

  words_yes : o.number ≡ 0 → showing Z (words_after S t ms lent w) ≡ enter_words whole w n s ns lent
  words_yes z =
      let taken : eqb o.number 0 ≡ true = eq-eqb o.number 0 z in
      ap (λ (a : Bool). showing Z (when a then words_with whole w o.globals e else when walked then set w 0 (next_global (outside_of S) t) else w)) taken
      ∙ sym (enter_is ∙ ap (λ (a : Bool). when a then showing Z (words_with whole w o.globals e) else when walked then set w 0 (after_count (eqb o.number 0)) else w) taken)

  -- the first hold the session after it
  laid_runs : {w₁ : List ℕ} → w₁ ≡ words_after S t ms lent w → o.number ≡ 0 → Runs whole w₁ (enter_bytes whole w n s ns lent) (after_entry S s ns lent)
  laid_runs p z =
      subst (λ (v : List ℕ). Runs whole v (enter_bytes whole w n s ns lent) (after_entry S s ns lent)) (sym (p ∙ laid_is z))
      (after_runs w n s ns lent fit (ap (λ (x : Outcome). x.number) outcome ∙ z))

  bytes_yes : o.number ≡ 0 → bytes_with w n (new_entry S s ns) ≡ enter_bytes whole w n s ns lent
  bytes_yes e = sym (rw (ap (λ (x : Outcome). x.number) outcome, eq-eqb o.number 0 e))

  bytes_no : (o.number ≡ 0 → ⊥) → n ≡ enter_bytes whole w n s ns lent
  bytes_no f = sym (rw (ap (λ (x : Outcome). x.number) outcome, ne_eqb o.number 0 f))

  module _ {y x : Answer} {out w₁ : List ℕ} (h : EnteredIn w t lent y out w₁ n ms)
      (same : x ≡ record { number = y.number; pos = y.pos; name = x.name; rows = y.rows; globals = y.globals }) (named : x.name ≡ to_entry S ns y.name) where
    number : x.number ≡ o.number
    number = number_is w n s ns lent fit none h.asked same named

    entered_all : {w' n' : List ℕ} → w' ≡ enter_words whole w n s ns lent → n' ≡ enter_bytes whole w n s ns lent → Entered w n s ns lent x out w' n'
    entered_all p q =
        record {
          tells = entry_tells w n s ns lent fit none h.asked same named;
          words = entry_words w n s ns lent fit none h.asked same named;
          session = p;
          bytes = q;
          fits = again w n s ns lent p q;
          held = after w n s ns lent p q;
          shown = on_show w n s ns lent p q;
          closures = entry_closures w n s ns lent fit none h.asked same named;
        }

    -- an accepted entry's words can be read, and the names on show counted
    pub laid_readable : x.number ≡ 0 → Readable w₁
    laid_readable z = runs_readable w₁ (enter_bytes whole w n s ns lent) (laid_runs h.words (sym number ∙ z)).fits

    pub entered_yes : {w' n' : List ℕ} {k : ℕ} → x.number ≡ 0 → n' ≡ bytes_with w n (new_entry S s ns) → k ≡ length (visible_names w₁) → w' ≡ set w₁ 2 k
        → Entered w n s ns lent x out w' n'
    entered_yes {w'} {n'} {k} z q c p =
        entered_all (p ∙ ap (set w₁ 2) (c ∙ names_shown_lem w₁ (enter_bytes whole w n s ns lent) r.fits ∙ ap (λ (Y : Session). names_shown Y) r.held)
        ∙ ap (showing Z) h.words ∙ words_yes (sym number ∙ z)) (q ∙ bytes_yes (sym number ∙ z))
      where
        r : Runs whole w₁ (enter_bytes whole w n s ns lent) (after_entry S s ns lent)
        r = laid_runs h.words (sym number ∙ z)

    pub entered_on : (x.number ≡ 0 → ⊥) → Entered w n s ns lent x out w₁ n
    entered_on f = entered_all (h.words ∙ words_no (λ z. f (number ∙ z))) (bytes_no (λ z. f (number ∙ z)))
