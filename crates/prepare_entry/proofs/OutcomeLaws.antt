-- The outcome of an entry into a session, from what its routines tell: refused before the walk, or asked on.
-- the numbers of questions before the walk
use mathlib.Core.Path.{◌≡◌, sym, ap, ◌∙◌, subst}
use mathlib.Core.Logic.{◌⊎◌, inl, inr}
use mathlib.Core.Bool.{Bool, true, false, not}
use mathlib.Core.List.{List, [], ◌∷◌, ◌++◌}
use Prim.Native.Nat.{ℕ, ◌-◌, ◌*◌, ◌<◌}
use native.Mathlib.Omega.{arith}
use lib.Dec.{eqb}
use lib.ListN.{length, get_or, replicate}
use Rattle.definition.specs.Basics.{when◌then◌else◌}
use Rattle.definition.specs.Names.{Name, names_fit, name_count}
use Rattle.definition.specs.Sheet.{Sheet}
use Rattle.definition.specs.Format.{sheet_fits, depths_fit}
use Rattle.definition.specs.Outcome.{Outcome, refused, rows_fit, asked, buffer, rows_of_words}
use Rattle.definition.specs.Claims.{Demand3}
use Rattle.definition.proofs.Format.Accepted.{Eights, good_asked, rows_back}
use Rattle.lexer.specs.SrcPos.{file_of, line_of, column_of}
use Rattle.answer.specs.declared.Answer.{Answer}
use Rattle.answer.specs.Tells.{Tells}
use Rattle.session.specs.Session.{Session, outside_of, within}
use Rattle.session.specs.Entry.{new_names, to_entry, entry_sheet}
use Rattle.session.specs.Enter.{renamed, entered}
use Rattle.session.specs.Words.{whole, session_in, session_fits, enter_outcome}
use Rattle.session.proofs.Theorems.{entry_claim}
use Rattle.entry_ready.specs.Asked.{fits_over, entry_no}
use Rattle.entry_ready.specs.Over.{entry_of, asked_over, AskedOver}
use Rattle.entry_ready.proofs.AskedLaws.{entered_by}
use Rattle.entry_ready.proofs.OverLaws.{asked_in_lem}
use borrow.Author.Tests.{eq-eqb, ne_eqb}

no_range : (g : ℕ) (s : Sheet) (ns : List ℕ) → (entry_no g s ns < 5) ⊎ (21 < entry_no g s ns)
no_range g s ns = go (rows_fit s) (names_fit ns) (sheet_fits (name_count ns) s) (depths_fit s) (fits_over g s)
  where
    go : (x y z w t : Bool)
        → ((when eqb (when not x then 1 else when not y then 2 else when not z then 3 else when not w then 4 else 0) 0 then (when t then 0 else 23)
        else (when not x then 1 else when not y then 2 else when not z then 3 else when not w then 4 else 0)) < 5)
        ⊎ (21 < (when eqb (when not x then 1 else when not y then 2 else when not z then 3 else when not w then 4 else 0) 0 then (when t then 0 else 23)
        else (when not x then 1 else when not y then 2 else when not z then 3 else when not w then 4 else 0)))
    go false y z w t = inl (omega arith)
    go true false z w t = inl (omega arith)
    go true true false w t = inl (omega arith)
    go true true true false t = inl (omega arith)
    go true true true true true = inl (omega arith)
    go true true true true false = inr (omega arith)

module _ (w n : List ℕ) (s : Sheet) (ns : List ℕ) where
  -- the first no before the walk
  abbrev pub no_before : ℕ
  no_before = when session_fits whole w n then entry_no (get_or w 0 0) s ns else 23

  pub before_range : {k : ℕ} → k ≡ no_before → (k < 5) ⊎ (21 < k)
  before_range e = subst (λ (k : ℕ). (k < 5) ⊎ (21 < k)) (sym e) (go (session_fits whole w n))
    where
      go : (t : Bool) → ((when t then entry_no (get_or w 0 0) s ns else 23) < 5) ⊎ (21 < (when t then entry_no (get_or w 0 0) s ns else 23))
      go true = no_range (get_or w 0 0) s ns
      go false = inr (omega arith)

  pub refused_before : (lent : ℕ) {k : ℕ} → k ≡ no_before → (k ≡ 0 → ⊥) → enter_outcome whole w n s ns lent ≡ refused k
  refused_before lent {k} e f = go (session_fits whole w n) e
    where
      go : (t : Bool) → k ≡ (when t then entry_no (get_or w 0 0) s ns else 23)
          → (when not t then refused 23 else entered (session_in whole w n) s ns lent) ≡ refused k
      go true h = entered_by (session_in whole w n) s ns lent ∙ rw (ne_eqb (entry_no (get_or w 0 0) s ns) 0 (λ z. f (h ∙ z))) (ap refused (sym h))
      go false h = ap refused (sym h)

module _ (w n : List ℕ) (s : Sheet) (ns : List ℕ) (lent : ℕ) (fit : session_fits whole w n ≡ true) (none : entry_no (get_or w 0 0) s ns ≡ 0) where
  abbrev S : Session
  S = session_in whole w n

  abbrev t : Sheet
  t = entry_sheet S ns s

  abbrev ms : List Name
  ms = new_names S ns

  abbrev o : Outcome
  o = asked_over S t ms lent

  pub entered_is : entered S s ns lent ≡ renamed (to_entry S ns) o
  entered_is = entered_by S s ns lent ∙ rw (eq-eqb (entry_no (get_or w 0 0) s ns) 0 none) (asked_in_lem S s ns lent)

  pub outcome_is : enter_outcome whole w n s ns lent ≡ renamed (to_entry S ns) o
  outcome_is = rw fit entered_is

  eights : Eights o.rows
  eights =
      let more : Session = record { globals = (asked (outside_of S) lent t).globals; entries = S.entries ++ entry_of S t ms lent ∷ [] } in
      go (not (eqb (asked (outside_of S) lent t).number 0)) (within more)
    where
      go : (a c : Bool) → Eights (when a then asked (outside_of S) lent t else when c then asked (outside_of S) lent t else refused 24).rows
      go true c = (good_asked lent (outside_of S) t).0
      go false true = (good_asked lent (outside_of S) t).0
      go false false = Eights.none

  -- of the answer y over the session, and x, which tells its name by the entry's own number
  module _ {y x : Answer} {out : List ℕ} (h : AskedOver S t ms lent y out)
      (same : x ≡ record { number = y.number; pos = y.pos; name = x.name; rows = y.rows; globals = y.globals }) (named : x.name ≡ to_entry S ns y.name) where
    pub number_is : x.number ≡ o.number
    number_is = ap (λ (z : Answer). z.number) same ∙ h.tells.number

    pub entry_tells : Tells (enter_outcome whole w n s ns lent) x
    entry_tells =
        subst (λ (z : Outcome). Tells z x) (sym outcome_is)
        (record {
          number = number_is;
          file = ap (λ (z : Answer). file_of z.pos.0) same ∙ h.tells.file;
          line = ap (λ (z : Answer). line_of z.pos.0) same ∙ h.tells.line;
          column = ap (λ (z : Answer). column_of z.pos.0) same ∙ h.tells.column;
          name = named ∙ ap (to_entry S ns) h.tells.name;
          rows = ap (λ (z : Answer). z.rows) same ∙ h.tells.rows;
          globals = ap (λ (z : Answer). z.globals) same ∙ h.tells.globals;
        })

    pub entry_words : out ≡ buffer lent (enter_outcome whole w n s ns lent)
    entry_words = h.words ∙ sym (ap (buffer lent) outcome_is)

    -- the rows in the buffer
    back : rows_of_words x.rows out ≡ (enter_outcome whole w n s ns lent).rows
    back =
        ap (λ (k : ℕ). rows_of_words k out) (ap (λ (z : Answer). z.rows) same ∙ h.tells.rows) ∙ ap (rows_of_words (length o.rows)) h.words
        ∙ rows_back o.rows (replicate (lent - 8 * length o.rows) 0) eights ∙ sym (ap (λ (z : Outcome). z.rows) outcome_is)

    pub entry_closures : x.number ≡ 0 → Demand3 (outside_of S) t (rows_of_words x.rows out)
    entry_closures z =
        subst (Demand3 (outside_of S) t) (sym back) (entry_claim whole (omega arith) (omega arith) w n s ns lent (sym entry_tells.number ∙ z))
