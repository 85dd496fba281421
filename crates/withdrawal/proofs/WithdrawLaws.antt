-- The question of a withdrawal, the words that it writes, and its answer.
use mathlib.Core.Path.{◌≡◌, refl, sym, ap, ◌∙◌, subst}
use mathlib.Core.Bool.{Bool, true, false, not}
use mathlib.Core.List.{List, [], ◌∷◌}
use Prim.Native.Nat.{ℕ, ◌-◌, ◌<◌, ◌≤◌}
use native.Mathlib.Omega.{arith}
use lib.ListN.{length, get_or, set}
use lib.Seq.{sets}
use lib.Dec.{eqb, T, leb→le}
use borrow.Author.Tests.{ne_eqb, eqb-false}
use Rattle.std.specs.Prelude.{Option, Some, None, Result, Ok, Err}
use Rattle.std.specs.Option.{ok_or}
use Rattle.ast.specs.declared.question.Question.{Question}
use Rattle.ast.specs.Question.{question_number}
use Rattle.ast.proofs.QuestionLaws.{question_none}
use Rattle.definition.specs.Basics.{when◌then◌else◌}
use Rattle.definition.specs.Outcome.{refused}
use Rattle.definition.proofs.Lists.Tests.{T_true, pick}
use Rattle.answer.specs.declared.Answer.{Answer}
use Rattle.answer.specs.Tells.{Tells}
use Rattle.session.specs.Session.{Session, names_shown}
use Rattle.session.specs.Words.{whole, count_after, session_in, runs_fit, session_fits, showing}
use Rattle.session.specs.Withdraw.{withdrawn, words_without, withdraw_no, withdraw_words}
use Rattle.session.proofs.SessionLaws.{clauses, limits, runs_of, shown_is}
use Rattle.session.proofs.Shown.{Runs}
use Rattle.session.proofs.WithdrawLaws.{without_runs}
use Rattle.session.proofs.Withdrawal.{withdraw_fits, withdraw_held}
use Rattle.session_outside.specs.Written.{visible_names}
use Rattle.session_outside.specs.Readable.{Readable}
use Rattle.session_outside.proofs.WholeLaws.{names_shown_lem}
use Rattle.session_outside.proofs.ReadableLaws.{runs_readable}
use Rattle.withdrawal.specs.Withdrawn.{Withdrawn}

-- the question in place of what is not there
pub no_found : {A : Type 0} (r : Option A) (q p : Question) → ◌≡◌ {A = Result A Question} (Err p) (ok_or r q) → question_number p ≡ question_number q
no_found {A} r q p e = go r (ap told e)
  where
    told : Result A Question → ℕ
    told (Ok x) = 0
    told (Err k) = question_number k

    go : (r : Option A) → question_number p ≡ told (ok_or r q) → question_number p ≡ question_number q
    go None f = f
    go (Some x) f = absurd (question_none p f)

module _ (w n : List ℕ) where
  -- the question, by whether the session passes 23 and has an entry
  pub no_session : session_fits whole w n ≡ false → 23 ≡ withdraw_no whole w n
  no_session e = rw e

  pub no_entry : session_fits whole w n ≡ true → get_or w 1 0 ≡ 0 → 25 ≡ withdraw_no whole w n
  no_entry e z = rw (e, z)

  pub no_question : session_fits whole w n ≡ true → (get_or w 1 0 ≡ 0 → ⊥) → 0 ≡ withdraw_no whole w n
  no_question e f = rw (e, ne_eqb (get_or w 1 0) 0 f)

  -- where no question gets a no, the session passes 23 and has an entry
  both_there : withdraw_no whole w n ≡ 0 → (session_fits whole w n ≡ true) × (get_or w 1 0 ≡ 0 → ⊥)
  both_there = go (session_fits whole w n) (eqb (get_or w 1 0) 0) refl refl
    where
      go : (f t : Bool) → session_fits whole w n ≡ f → eqb (get_or w 1 0) 0 ≡ t → ◌≡◌ {A = ℕ} (when not f then 23 else when t then 25 else 0) 0
          → (session_fits whole w n ≡ true) × (get_or w 1 0 ≡ 0 → ⊥)
      go true true e q z = absurd (omega (arith, z))
      go true false e q z = (e, eqb-false (get_or w 1 0) 0 q)
      go false t e q z = absurd (omega (arith, z))

  session_there : withdraw_no whole w n ≡ 0 → session_fits whole w n ≡ true
  session_there z = (both_there z).0

  -- and at most 1,000
  pub entry_there : withdraw_no whole w n ≡ 0 → (0 < get_or w 1 0) × (get_or w 1 0 ≤ 1000)
  entry_there z =
      let some = (both_there z).1 in
      let fits : T (runs_fit whole w n) = T_true (runs_fit whole w n) (runs_of whole w n (session_there z)) in
      (ne_zero (get_or w 1 0) some, leb→le (get_or w 1 0) 1000 (pick (limits whole w n fits) (clauses whole w n fits 0) 1))
    where
      ne_zero : (k : ℕ) → (k ≡ 0 → ⊥) → 0 < k
      ne_zero k f = omega (arith, f)

  -- the answer x and the words w', by what is told and written
  pub withdrawn_by : (x : Answer) {w' : List ℕ} {k : ℕ} → k ≡ withdraw_no whole w n → Tells (refused k) x → w' ≡ withdraw_words whole w n → Withdrawn w n x w'
  withdrawn_by x {w'} {k} e told s =
      record {
        tells = subst (λ (j : ℕ). Tells (refused j) x) e told;
        session = s;
        fits = λ h. ap (λ (v : List ℕ). session_fits whole v n) s ∙ withdraw_fits whole w n h;
        held = λ h. ap (λ (v : List ℕ). session_in whole v n) s ∙ withdraw_held whole w n h;
        shown = λ h. shown_is whole w' n (ap (λ (v : List ℕ). session_fits whole v n) s ∙ withdraw_fits whole w n h);
      }

  -- the words with their counts cut can be read,
  pub cut_readable : {w₁ : List ℕ} → withdraw_no whole w n ≡ 0 → w₁ ≡ words_without whole w n → Readable w₁
  cut_readable z e = subst Readable (sym e) (runs_readable (words_without whole w n) n (without_runs whole w n (session_there z)).fits)

  -- and then show as many names as the session without its latest entry
  pub words_cut : {w₁ w' : List ℕ} {k : ℕ} → withdraw_no whole w n ≡ 0 → w₁ ≡ words_without whole w n → k ≡ length (visible_names w₁) → w' ≡ set w₁ 2 k
      → w' ≡ withdraw_words whole w n
  words_cut {w₁} {w'} {k} z e c p =
      p ∙ ap (λ (v : List ℕ). set v 2 k) e ∙ ap (set (words_without whole w n) 2) (c ∙ ap (λ (v : List ℕ). length (visible_names v)) e ∙ shown)
      ∙ sym (ap (λ (k : ℕ). when eqb k 0 then showing (withdrawn (session_in whole w n)) (words_without whole w n) else w) z)
    where
      x : Runs whole (words_without whole w n) n (withdrawn (session_in whole w n))
      x = without_runs whole w n (session_there z)

      shown : length (visible_names (words_without whole w n)) ≡ names_shown (withdrawn (session_in whole w n))
      shown = names_shown_lem (words_without whole w n) n x.fits ∙ ap (λ (S : Session). names_shown S) x.held

  pub words_kept : (withdraw_no whole w n ≡ 0 → ⊥) → w ≡ withdraw_words whole w n
  words_kept f =
      sym (ap (λ (t : Bool). when t then showing (withdrawn (session_in whole w n)) (words_without whole w n) else w) (ne_eqb (withdraw_no whole w n) 0 f))

-- the words written, by the counts read
pub counts_cut : (w : List ℕ) {e a b c d m : ℕ} {w₁ w₂ : List ℕ} → e ≡ get_or w 1 0
    → a ≡ count_after whole w [] (e - 1) 0 → b ≡ count_after whole w [] (e - 1) 1 → c ≡ count_after whole w [] (e - 1) 2
    → d ≡ count_after whole w [] (e - 1) 3 → m ≡ count_after whole w [] (e - 1) 4
    → w₁ ≡ set w 1 (e - 1) → w₂ ≡ sets w₁ 3 (a ∷ b ∷ c ∷ d ∷ m ∷ []) → w₂ ≡ words_without whole w []
counts_cut w {e} h ha hb hc hd hm h₁ h₂ = h₂ ∙ rw (h₁, ha, hb, hc, hd, hm, h)
