-- The answer rows in the lent words, with zeros after them, and what follows a walk.
use mathlib.Core.Path.{◌≡◌, refl, sym, ap, subst, ◌∙◌}
use mathlib.Core.Bool.{Bool, true, false}
use mathlib.Core.List.{List, [], ◌∷◌, ◌++◌}
use Prim.Native.Nat.{ℕ, ◌+◌, ◌-◌, ◌*◌, ◌/◌, ◌<◌, ◌≤◌}
use native.Mathlib.Omega.{arith}
use lib.Dec.{ltb}
use lib.ListN.{length, take, replicate}
use borrow.Author.Tests.{ltb-true, ltb-false}
use Rattle.definition.specs.Sheet.{Sheet, rows}
use Rattle.definition.specs.Scope.{history}
use Rattle.definition.specs.Slots.{final_globals}
use Rattle.definition.specs.Question.{Refusal, first_no}
use Rattle.definition.specs.Answer.{answers}
use Rattle.definition.specs.Outcome.{refused_at}
use Rattle.definition.proofs.Format.Accepted.{Eights, eights_answers}
use Rattle.definition.specs.Outside.{Outside}
use Rattle.machine.specs.Machine.{Store as Stored, State}
use Rattle.walk.specs.declared.state.Walk.{Walk}
use Rattle.walk.specs.Ended.{ended}
use Rattle.machine.specs.Reads.{PastFour, Walked, StoreReads}
use Rattle.after.proofs.Ranges.{rows_whole}
use Rattle.after.specs.Inherited.{classes_refusal, calls_refusal}
use Rattle.after.specs.Rows.{answers_in}
use Rattle.after.proofs.Theorems.{follows, walk_accepted}
use Rattle.sink.specs.Sink.{sink, emit_all}
use Rattle.inherit.specs.Answered.{Marked}
use Rattle.answer_rows.proofs.ScratchLaws.{clear_zeros, zeros_long, small_sheet}
use Rattle.answer.specs.declared.Answer.{Answer}
use Rattle.answer.specs.Tells.{Tells}
use Rattle.answer.specs.Fitted.{Fitted}
use Rattle.finish.specs.Settled.{Settled, Accepted}
use Rattle.finish.proofs.BufferLaws.{flat, Fitting, rows_fit_lem, Over, rows_over}
use Rattle.finish.proofs.SettledLaws.{settled_no, settled_full, settled_yes}

-- Rows written from row 0 on: as many as counted, if the count is at most what fits; else more than fit.
module _ (rs : List (List ℕ)) (e : Eights rs) (w : List ℕ) (n : ℕ) (y : List ℕ) (h : sink n y ≡ emit_all rs (sink 0 w)) where
  choose : {A : Type 0} → (length rs ≤ length w / 8 → A) → (length w / 8 < length rs → A) → A
  choose {A} f g = go (ltb (length w / 8) (length rs)) refl
    where
      go : (t : Bool) → ltb (length w / 8) (length rs) ≡ t → A
      go true i = g (ltb-true (length w / 8) (length rs) i)
      go false i = f (ltb-false (length w / 8) (length rs) i)

  fitting : length rs ≤ length w / 8 → Fitting 0 w rs (sink n y)
  fitting l = subst (Fitting 0 w rs) (sym h) (rows_fit_lem rs 0 w e (omega arith))

  over : length w / 8 < length rs → Over w (sink n y)
  over l = subst (Over w) (sym h) (rows_over rs 0 w (omega arith) (omega arith))

  pub same_words : length y ≡ length w
  same_words = choose (λ l. (fitting l).same_length) (λ l. (over l).same_length)

  pub too_many : length w / 8 < n → length w < 8 * length rs
  too_many l = choose (λ m. absurd (omega (arith, (fitting m).counted))) (λ m. omega arith)

  module _ (l : n ≤ length w / 8) where
    few : length rs ≤ length w / 8
    few = choose (λ m. m) (λ m. absurd (omega (arith, (over m).counted)))

    pub counted : n ≡ length rs
    counted = omega (arith, (fitting few).counted)

    pub written : take (8 * n) y ≡ flat rs
    written =
        let k : n ≡ 0 + length rs = omega (arith, counted) in
        ap (λ (j : ℕ). take (8 * j) y) k ∙ (fitting few).written

-- the answer rows of an accepted sheet
pub accepted_eights : {O : Outside} {s : Sheet} {o : Stored} {g : ℕ} → Accepted O s o g → Eights (answers_in O s o)
accepted_eights {O} {s} ok = subst Eights ok.rows_are (eights_answers O s (history O s))

-- Question 22 of the answer rows.
module _ {O : Outside} (base : O.base ≡ 0) {s : Sheet} {o : Stored} {g : ℕ} (ok : Accepted O s o g) (w : List ℕ) (n : ℕ) (y : List ℕ)
    (h : sink n y ≡ emit_all (answers_in O s o) (sink 0 w)) (x : Answer) (z : List ℕ) (fit : Fitted n g y x z) where
  eights : Eights (answers_in O s o)
  eights = accepted_eights ok

  size : length y ≡ length w
  size = same_words (answers_in O s o) eights w n y h

  full : length y / 8 < n → Settled O s (length w) x z
  full l = settled_full O base s (length w) x z ok.agreed (omega (arith, long, ap length ok.rows_are)) (fit.full l).0 ((fit.full l).1 ∙ ap (λ (k : ℕ). replicate k 0) size)
    where
      long : length w < 8 * length (answers_in O s o)
      long = too_many (answers_in O s o) eights w n y h (omega (arith, size, l))

  whole : n ≤ length y / 8 → Settled O s (length w) x z
  whole m = settled_yes O base s (length w) x z ok.agreed (omega (arith, same, l)) told words
    where
      l : n ≤ length w / 8
      l = omega (arith, size, m)

      same : n ≡ length (answers O s (history O s))
      same = counted (answers_in O s o) eights w n y h l ∙ ap length (sym ok.rows_are)

      told : x ≡ record { number = 0; pos = record { 0 = 0 }; name = 0; rows = length (answers O s (history O s)); globals = final_globals s (history O s) }
      told =
          fit.told m ∙ ap (λ (k : ℕ). record { number = 0; pos = record { 0 = 0 }; name = 0; rows = k; globals = g }) same
          ∙ ap (λ (k : ℕ). record { number = 0; pos = record { 0 = 0 }; name = 0; rows = length (answers O s (history O s)); globals = k }) ok.globals_are

      left : length y - 8 * n ≡ length w - 8 * length (answers O s (history O s))
      left = omega (arith, size, same)

      words : z ≡ flat (answers O s (history O s)) ++ replicate (length w - 8 * length (answers O s (history O s))) 0
      words =
          fit.words m ∙ ap (λ (v : List ℕ). v ++ replicate (length y - 8 * n) 0) (written (answers_in O s o) eights w n y h l ∙ ap flat (sym ok.rows_are))
          ∙ ap (λ (k : ℕ). flat (answers O s (history O s)) ++ replicate k 0) left

  pub answer_settled : Settled O s (length w) x z
  answer_settled = go (ltb (length y / 8) n) refl
    where
      go : (t : Bool) → ltb (length y / 8) n ≡ t → Settled O s (length w) x z
      go true i = full (ltb-true (length y / 8) n i)
      go false i = whole (ltb-false (length y / 8) n i)

-- Questions 18 to 21 with n marks, all of them 0.
pub unmarked : {O : Outside} {s : Sheet} → PastFour O s → (n : ℕ) → rows s ≤ n
    → (length s ≤ 16384) × (length s ≤ 8 * length {A = ℕ} (replicate n 0)) × (Marked 0 (replicate n 0)) × (8 * rows s ≡ length s)
unmarked {s = s} ok n few = (small_sheet ok, omega (arith, whole, zeros_long n), record { marks = λ j. omega (arith, (clear_zeros n).zeros j) }, whole)
  where
    whole : 8 * rows s ≡ length s
    whole = rows_whole s ok.whole

-- After an accepted walk: the first no that follows it, or none.
module _ {O : Outside} (base : O.base ≡ 0) {s : Sheet} {x : State} (ok : PastFour O s) (w : Walked O s x) (z : x.refusal.number ≡ 0) (r : Refusal)
    (e : r ≡ first_no (classes_refusal O s x.store ∷ calls_refusal O s x.store ∷ [])) where
  pub later_no : (lent : ℕ) (y : Answer) (v : List ℕ) → (r.number ≡ 0 → ⊥) → Tells (refused_at r.number s r.at r.name) y → v ≡ replicate lent 0 → Settled O s lent y v
  later_no lent y v f t i = settled_no O base s lent y v r.number r.at r.name ((follows O s x ok w z).refusal_is ∙ sym e) f t i

  pub later_none : r.number ≡ 0 → Accepted O s x.store x.scopes.next_global
  later_none f =
      record {
        agreed = ap (λ (y : Refusal). y.number) ((follows O s x ok w z).refusal_is ∙ sym e) ∙ f;
        rows_are = (follows O s x ok w z).answers_are;
        globals_are = sym (follows O s x ok w z).globals_are;
      }

-- what the walk stored
pub walk_store : {O : Outside} {s : Sheet} {x : State} → Walked O s x → x.refusal.number ≡ 0 → StoreReads O s x.store
walk_store {O} {s} {x} w z = w.store (walk_accepted O s x w z)

-- what follows the walk asks nothing of the open entries
pub any_entries : {O : Outside} {s : Sheet} (w : Walk) {v : List ℕ} (t q : List ℕ) → Walked O s (ended w v t q) → (u : List ℕ) → Walked O s (ended w u t q)
any_entries w t q h u = record { refused = h.refused; accepted = h.accepted; globals = h.globals; store = h.store; later = h.later }
