-- An entry whose outcome is no refusal, or one of questions 5 to 21: what is known of its sheet.
use mathlib.Core.Path.{◌≡◌, refl, sym, ap, ◌∙◌}
use mathlib.Core.Logic.{◌⊎◌, inl, inr}
use mathlib.Core.Bool.{Bool, true, false, not, ◌&&◌}
use mathlib.Core.List.{List}
use Prim.Native.Nat.{ℕ, ◌*◌, ◌<◌, ◌≤◌}
use native.Mathlib.Omega.{arith}
use lib.ListN.{length}
use lib.Dec.{eqb, leb, T, eqb→eq, leb→le}
use borrow.Author.Tests.{eqb-true, eqb-false}
use Rattle.definition.specs.Basics.{when◌then◌else◌}
use Rattle.definition.specs.Kind.{IMPORT}
use Rattle.definition.specs.Names.{names_fit, name_count}
use Rattle.definition.specs.Sheet.{Sheet, child, a, rows, kids, kids_of}
use Rattle.definition.specs.Format.{sheet_fits, depths_fit}
use Rattle.definition.specs.Outcome.{Outcome, refused, rows_fit}
use Rattle.definition.proofs.Lists.Tests.{T_true, true_of, and_left, and_right}
use Rattle.definition.proofs.Format.Facts.{SheetFacts, facts, header_kind}
use Rattle.definition.proofs.Walk.Fits.{Fits}
use Rattle.definition.proofs.Walk.Fitting.{fits}
use Rattle.session.specs.Session.{Session, outside_of}
use Rattle.session.specs.Entry.{names_with, to_session, entry_sheet}
use Rattle.session.specs.Enter.{entry_fits, renamed, asked_in, entered}
use Rattle.session.specs.Words.{Room, session_in, runs_fit, session_fits, enter_outcome}
use Rattle.session.proofs.RowLaws.{whole_rows, whole_some, whole_few}
use Rattle.session.proofs.Renaming.{Renamed, sheet_renamed, a_plain, kids_same, kids_of_same}
use Rattle.session.proofs.EntryLaws.{entry_renamed, entry_whole}
use Rattle.session.proofs.OutsideLaws.{outside_fits}
use Rattle.session.proofs.SessionLaws.{runs_of, orderly_in}

-- An entry of sheet s and names ns into session S that was asked question 5; t is the sheet with the session's name numbers.
pub record Asked (S : Session) (s : Sheet) (ns : List ℕ) (t : Sheet) : Type 0 where
  pub whole : rows_fit s ≡ true
  pub named : names_fit ns ≡ true
  pub renamed : Renamed (to_session S ns) (name_count ns) (length (names_with S ns)) s t
  pub rows_fit_lem : rows_fit t ≡ true
  pub fitting : T (sheet_fits (length (names_with S ns)) t)
  pub rows_whole : length t ≡ 8 * rows t
  pub some_row : 0 < rows t
  pub few_rows : rows t ≤ 2048
  pub facts : SheetFacts (length (names_with S ns)) t
  pub fits : Fits (outside_of S) t
  -- one unit without imports, that starts at the session's global count or above
  pub one : length (kids t 0) ≡ 1
  pub alone : length (kids_of t IMPORT (child t 0)) ≡ 0
  pub above : S.globals ≤ a t 0

-- a question that did not refuse
pub past : (t : Bool) (q : ℕ) (y : Outcome) → ((when not t then refused q else y).number ≡ q → ⊥) → (t ≡ true) × ((when not t then refused q else y) ≡ y)
past true q y z = (refl, refl)
past false q y z = absurd (z refl)

-- an entry that neither questions 5 to 22 nor question 24 refuse has the outcome x of the former
pub past_asked : (to : ℕ → ℕ) (x : Outcome) (t : Bool) → (when not (eqb x.number 0) then renamed to x else when t then x else refused 24).number ≡ 0
    → (x.number ≡ 0) × (t ≡ true) × ((when not (eqb x.number 0) then renamed to x else when t then x else refused 24) ≡ x)
past_asked to x t = go (eqb x.number 0) refl t
  where
    go : (u : Bool) → eqb x.number 0 ≡ u → (t : Bool) → (when not u then renamed to x else when t then x else refused 24).number ≡ 0
        → (x.number ≡ 0) × (t ≡ true) × ((when not u then renamed to x else when t then x else refused 24) ≡ x)
    go true q true e = (eqb-true x.number 0 q, refl, refl)
    go true q false e = absurd (omega arith)
    go false q t e = absurd (eqb-false x.number 0 q e)

-- the outcomes of which this file speaks
abbrev pub Going : ℕ → Type 0
Going x = (x ≡ 0) ⊎ ((5 ≤ x) × (x ≤ 21))

none_of : (x : ℕ) → Going x → (q : ℕ) → 0 < q → (q < 5) ⊎ (21 < q) → x ≡ q → ⊥
none_of x (inl e) q l k f = omega arith
none_of x (inr b) q l (inl k) f = omega (arith, b.0)
none_of x (inr b) q l (inr k) f = omega (arith, b.1)

module _ (R : Room) (few : R.laid ≤ 4096) (many : R.members ≤ 8192) (w n : List ℕ) (fit : session_fits R w n ≡ true) (s : Sheet) (ns : List ℕ) (lent : ℕ) where
  abbrev S : Session
  S = session_in R w n

  -- the outcome of words past question 23 is that of the session
  pub outcome_in : enter_outcome R w n s ns lent ≡ entered S s ns lent
  outcome_in = ap (λ (t : Bool). when not t then refused 23 else entered S s ns lent) fit

  pub asked_entry : Going (entered S s ns lent).number → Asked S s ns (entry_sheet S ns s) × (entered S s ns lent ≡ asked_in S s ns lent)
  asked_entry g = (
    record {
      whole = p₁.0;
      named = p₂.0;
      renamed = named;
      rows_fit_lem = rows_t;
      fitting = T_true (sheet_fits (length (names_with S ns)) t) fitting;
      rows_whole = whole_rows t rows_t;
      some_row = whole_some t rows_t;
      few_rows = whole_few t rows_t;
      facts = sf;
      fits = fits (length (names_with S ns)) t (outside_fits (orderly_in R w n (T_true (runs_fit R w n) (runs_of R w n fit)) few many)) (whole_some t rows_t) fitting;
      one = ap length (kids_same named 0) ∙ eqb→eq (length (kids s 0)) 1 (and_left one alone (and_left (one && alone) above e₅));
      alone =
          ap length (kids_of_same named IMPORT (child t 0)) ∙ ap (λ (r : ℕ). length (kids_of s IMPORT r)) (named.childs 0)
          ∙ eqb→eq (length (kids_of s IMPORT (child s 0))) 0 (and_right one alone (and_left (one && alone) above e₅));
      above = omega (arith, start, leb→le S.globals (a s 0) (and_right (one && alone) above e₅));
    },
    p₁.1 ∙ p₂.1 ∙ p₃.1 ∙ p₄.1 ∙ p₅.1,
  )
    where
      t : Sheet
      t = entry_sheet S ns s

      y₅ : Outcome
      y₅ = when not (entry_fits S s) then refused 23 else asked_in S s ns lent

      y₄ : Outcome
      y₄ = when not (depths_fit s) then refused 4 else y₅

      y₃ : Outcome
      y₃ = when not (sheet_fits (name_count ns) s) then refused 3 else y₄

      y₂ : Outcome
      y₂ = when not (names_fit ns) then refused 2 else y₃

      number_of_lem : {x y : Outcome} → x ≡ y → x.number ≡ y.number
      number_of_lem e = ap (λ (o : Outcome). o.number) e

      p₁ : (rows_fit s ≡ true) × (entered S s ns lent ≡ y₂)
      p₁ = past (rows_fit s) 1 y₂ (none_of _ g 1 (omega arith) (inl (omega arith)))

      p₂ : (names_fit ns ≡ true) × (y₂ ≡ y₃)
      p₂ = past (names_fit ns) 2 y₃ (λ e. none_of _ g 2 (omega arith) (inl (omega arith)) (number_of_lem p₁.1 ∙ e))

      p₃ : (sheet_fits (name_count ns) s ≡ true) × (y₃ ≡ y₄)
      p₃ = past (sheet_fits (name_count ns) s) 3 y₄ (λ e. none_of _ g 3 (omega arith) (inl (omega arith)) (number_of_lem (p₁.1 ∙ p₂.1) ∙ e))

      p₄ : (depths_fit s ≡ true) × (y₄ ≡ y₅)
      p₄ = past (depths_fit s) 4 y₅ (λ e. none_of _ g 4 (omega arith) (inl (omega arith)) (number_of_lem (p₁.1 ∙ p₂.1 ∙ p₃.1) ∙ e))

      p₅ : (entry_fits S s ≡ true) × (y₅ ≡ asked_in S s ns lent)
      p₅ = past (entry_fits S s) 23 (asked_in S s ns lent) (λ e. none_of _ g 23 (omega arith) (inr (omega arith)) (number_of_lem (p₁.1 ∙ p₂.1 ∙ p₃.1 ∙ p₄.1) ∙ e))

      named : Renamed (to_session S ns) (name_count ns) (length (names_with S ns)) s t
      named = entry_renamed S ns s p₁.0 p₂.0

      rows_t : rows_fit t ≡ true
      rows_t = entry_whole S ns s p₁.0

      fitting : sheet_fits (length (names_with S ns)) t ≡ true
      fitting = true_of (sheet_fits (length (names_with S ns)) t) (sheet_renamed named (whole_some s p₁.0) (T_true (sheet_fits (name_count ns) s) p₃.0))

      sf : SheetFacts (length (names_with S ns)) t
      sf = facts (length (names_with S ns)) t fitting

      one : Bool
      one = eqb (length (kids s 0)) 1

      alone : Bool
      alone = eqb (length (kids_of s IMPORT (child s 0))) 0

      above : Bool
      above = leb S.globals (a s 0)

      e₅ : T (entry_fits S s)
      e₅ = T_true (entry_fits S s) p₅.0

      start : a t 0 ≡ a s 0
      start = a_plain named 0 0 (sym (named.kinds 0) ∙ header_kind (length (names_with S ns)) t sf) refl
