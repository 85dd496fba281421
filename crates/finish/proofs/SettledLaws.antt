-- Questions 5 to 22: the answer of each, and the words that go with it.
use mathlib.Core.Path.{◌≡◌, refl, sym, ap, subst, ◌∙◌}
use mathlib.Core.Bool.{Bool, true, false}
use mathlib.Core.List.{List, [], ◌++◌}
use Prim.Native.Nat.{ℕ, ◌-◌, ◌*◌, ◌<◌, ◌≤◌}
use native.Mathlib.Omega.{arith}
use lib.Dec.{ltb, ltb→lt}
use lib.ListN.{length, replicate, get_or-eq_default}
use borrow.Author.Tests.{ne_eqb, le-leb, lt-leb, ltb-true, ltb-false}
use Rattle.definition.specs.Basics.{concat_map}
use Rattle.definition.specs.Sheet.{Sheet, file, rows}
use Rattle.definition.specs.Scope.{history}
use Rattle.definition.specs.Slots.{final_globals}
use Rattle.definition.specs.Question.{refusal}
use Rattle.definition.specs.Answer.{answers}
use Rattle.definition.specs.Outcome.{Outcome, refused, refused_at, answered, asked, buffer}
use Rattle.definition.specs.Outside.{Outside}
use Rattle.machine.specs.Reads.{PastFour}
use Rattle.after.proofs.Ranges.{past_facts, rows_whole}
use Rattle.lexer.proofs.Laws.{file_none, line_none, column_none}
use Rattle.answer.specs.declared.Answer.{Answer}
use Rattle.answer.specs.Tells.{Tells}
use Rattle.finish.specs.Settled.{Settled}
use Rattle.finish.proofs.BufferLaws.{flat}

-- a refused outcome leaves zeros
pub zeros_words : (lent : ℕ) (o : Outcome) (w : List ℕ) → o.rows ≡ [] → w ≡ replicate lent 0 → w ≡ buffer lent o
zeros_words lent o w e h =
    let z : lent - 8 * 0 ≡ lent = omega arith in
    h ∙ sym (ap (λ (rs : List (List ℕ)). concat_map (λ r. r) rs ++ replicate (lent - 8 * length rs) 0) e ∙ ap (λ (n : ℕ). replicate n 0) z)

-- files of a sheet past question 3
pub files_small : {O : Outside} (s : Sheet) (r : ℕ) → PastFour O s → file s r < 262144
files_small s r ok = go (ltb r (rows s)) refl
  where
    go : (t : Bool) → ltb r (rows s) ≡ t → file s r < 262144
    go true e = ltb→lt (file s r) 262144 ((past_facts ok).row r (ltb-true r (rows s) e)).files
    go false e =
        let z : file s r ≡ 0 = get_or-eq_default s 0 (omega (arith, ltb-false r (rows s) e, rows_whole s ok.whole)) in
        omega arith

-- Questions 5 to 22 of sheet s with O outside, numbers not raised, and a buffer of `lent` words.
module _ (O : Outside) (base : O.base ≡ 0) (s : Sheet) (lent : ℕ) (x : Answer) (w : List ℕ) where
  asked_no : (n r m : ℕ) → refusal O s (history O s) ≡ record { number = n; at = r; name = m } → (n ≡ 0 → ⊥) → asked O lent s ≡ refused_at n s r m
  asked_no n r m e f = rw (e, ne_eqb n 0 f)

  asked_yes : (refusal O s (history O s)).number ≡ 0 → asked O lent s ≡ answered lent (answers O s (history O s)) (final_globals s (history O s))
  asked_yes e = rw (e, base)

  -- a question gets a no
  pub settled_no : (n r m : ℕ) → refusal O s (history O s) ≡ record { number = n; at = r; name = m } → (n ≡ 0 → ⊥) → Tells (refused_at n s r m) x → w ≡ replicate lent 0 → Settled O s lent x w
  settled_no n r m e f h z =
      let a : asked O lent s ≡ refused_at n s r m = asked_no n r m e f in
      record { tells = subst (λ (o : Outcome). Tells o x) (sym a) h; words = zeros_words lent (asked O lent s) w (ap (λ (o : Outcome). o.rows) a) z }

  module _ (e : (refusal O s (history O s)).number ≡ 0) where
    -- the rows do not fit
    pub settled_full : lent < 8 * length (answers O s (history O s)) → Tells (refused 22) x → w ≡ replicate lent 0 → Settled O s lent x w
    settled_full l h z =
        let a : asked O lent s ≡ refused 22 = asked_yes e ∙ rw (lt-leb (8 * length (answers O s (history O s))) lent l) in
        record { tells = subst (λ (o : Outcome). Tells o x) (sym a) h; words = zeros_words lent (asked O lent s) w (ap (λ (o : Outcome). o.rows) a) z }

    -- they do
    pub settled_yes : 8 * length (answers O s (history O s)) ≤ lent
        → x ≡ record { number = 0; pos = record { 0 = 0 }; name = 0; rows = length (answers O s (history O s)); globals = final_globals s (history O s) }
        → w ≡ flat (answers O s (history O s)) ++ replicate (lent - 8 * length (answers O s (history O s))) 0 → Settled O s lent x w
    settled_yes l h z =
        let o : Outcome = record { number = 0; file = 0; line = 0; column = 0; name = 0; rows = answers O s (history O s); globals = final_globals s (history O s) } in
        let a : asked O lent s ≡ o = asked_yes e ∙ rw (le-leb (8 * length (answers O s (history O s))) lent l) in
        let t : Tells o x = subst (Tells o) (sym h) (record { number = refl; file = file_none; line = line_none; column = column_none; name = refl; rows = refl; globals = refl }) in
        record { tells = subst (λ (p : Outcome). Tells p x) (sym a) t; words = z ∙ ap (buffer lent) (sym a) }
