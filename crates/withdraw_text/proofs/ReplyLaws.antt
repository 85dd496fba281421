-- The two rows of a reply, and what comes of a withdrawal with room for it and without. Assumes nothing.
use mathlib.Core.Path.{◌≡◌, refl, sym, ap, ◌∙◌, subst}
use mathlib.Core.Bool.{Bool, true, false}
use mathlib.Core.List.{List, [], ◌∷◌, ◌++◌}
use Prim.Native.Nat.{ℕ, zero, suc, ◌*◌, ◌<◌, ◌≤◌}
use native.Mathlib.Omega.{arith}
use lib.ListN.{length, get_or, drop, length-append, length-take, length-replicate}
use lib.Dec.{leb}
use borrow.Author.Tests.{le-leb, lt-leb}
use Rattle.definition.specs.Basics.{when◌then◌else◌}
use Rattle.definition.specs.Sheet.{rows}
use Rattle.definition.specs.Text.{text_of}
use Rattle.definition.proofs.Format.Accepted.{Eights}
use Rattle.text.specs.Writing.{RowsWritten, rows_in}
use Rattle.text.proofs.Laws.{rows_of_joined, rows_fit_lem}
use Rattle.answer.specs.declared.Answer.{Answer}
use Rattle.report.specs.Report.{fitted, Begins}
use Rattle.report.proofs.Laws.{rows_number, lines_length}
use Rattle.session.specs.Words.{whole}
use Rattle.session.specs.Withdraw.{withdraw_no, withdraw_words}
use Rattle.withdrawal.specs.Withdrawn.{Withdrawn}
use Rattle.withdraw_text.specs.Reply.{printed_withdrawal, RepliedOfWithdrawal}

pub eight_fitted : (w : List ℕ) → length (fitted 8 w) ≡ 8
unfolding fitted
eight_fitted w = simp (length-take, length-append, length-replicate) (omega arith)

-- the line of a report that has a number alone
abbrev line : ℕ → List ℕ
line k = k ∷ 0 ∷ 0 ∷ 0 ∷ 0 ∷ 0 ∷ 0 ∷ 0 ∷ []

-- Two rows, the second of them r, are written.
module _ (k : ℕ) (r : List ℕ) (size : length r ≡ 8) where
  abbrev both : List (List ℕ)
  both = line k ∷ r ∷ []

  eights : Eights (line k ∷ r ∷ [])
  eights = Eights.more {r = line k} {rs = r ∷ []} refl (Eights.more {r = r} {rs = []} size Eights.none)

  two_rows : rows_in (line k ++ r ++ []) ≡ line k ∷ r ∷ []
  two_rows = rows_of_joined both eight_at
    where
      eight_at : (i : ℕ) → i < 2 → length (get_or both i []) ≡ 8
      eight_at zero l = refl
      eight_at (suc zero) l = size
      eight_at (suc (suc i)) l = absurd (omega arith)

  two_written : {before after : List ℕ} {n : ℕ} → 162 ≤ length before → RowsWritten (line k ++ r ++ []) before n after → Begins (text_of (line k ∷ r ∷ [])) before 162 after
  two_written {before} {after} room h =
      let two : rows (line k ++ r ++ []) ≡ 2 = sym (rows_number (line k ++ r ++ [])) ∙ ap length two_rows in
      record {
        count = sym (lines_length eights);
        text =
            h.text ∙ (rows_fit_lem (line k ++ r ++ []) before (omega (arith, two))).1
            ∙ ap (λ (rs : List (List ℕ)). text_of rs ++ drop (81 * rows (line k ++ r ++ [])) before) two_rows
            ∙ ap (λ (m : ℕ). text_of both ++ drop (81 * m) before) two;
      }

pub reply_written : (k : ℕ) (w : List ℕ) {row before after : List ℕ} {n : ℕ} → row ≡ fitted 8 w → 162 ≤ length before
    → RowsWritten (line k ++ row ++ []) before n after → Begins (text_of (line k ∷ fitted 8 w ∷ [])) before 162 after
reply_written k w {row} {before} {after} {n} e room h =
    two_written k (fitted 8 w) (eight_fitted w) room (subst (λ (r : List ℕ). RowsWritten (line k ++ r ++ []) before n after) e h)

-- Of a session of words w and bytes b, and a text before the reply:
module _ (w b before : List ℕ) where
  -- too short a text: nothing is withdrawn
  pub not_replied : length before < 162 → RepliedOfWithdrawal w b before 0 w before
  not_replied l =
      let e : leb 162 (length before) ≡ false = lt-leb 162 (length before) l in
      record {
        text = subst (λ (u : Bool). Begins (when u then printed_withdrawal w b else []) before 0 before) (sym e) (record { count = refl; text = refl });
        session = sym (ap (λ (u : Bool). when u then withdraw_words whole w b else w) e);
      }

  -- room for it
  pub replied : (x : Answer) {w' after : List ℕ} → 162 ≤ length before → Withdrawn w b x w' → Begins (text_of (line x.number ∷ fitted 8 w' ∷ [])) before 162 after
      → RepliedOfWithdrawal w b before 162 w' after
  replied x {w'} {after} l h p =
      let e : leb 162 (length before) ≡ true = le-leb 162 (length before) l in
      let told : text_of (line x.number ∷ fitted 8 w' ∷ []) ≡ printed_withdrawal w b =
      ap (λ (k : ℕ). text_of (line k ∷ fitted 8 w' ∷ [])) h.tells.number ∙ ap (λ (v : List ℕ). text_of (line (withdraw_no whole w b) ∷ fitted 8 v ∷ [])) h.session in
      record {
        text =
            subst (λ (u : Bool). Begins (when u then printed_withdrawal w b else []) before 162 after) (sym e)
            (subst (λ (t : List ℕ). Begins t before 162 after) told p);
        session = h.session ∙ sym (ap (λ (u : Bool). when u then withdraw_words whole w b else w) e);
      }
