-- Questions 5 to 22 of an entry's sheet, its numbers raised by a base.
use mathlib.Core.Path.{◌≡◌, sym, ap, subst, ◌∙◌}
use mathlib.Core.List.{List}
use Prim.Native.Nat.{ℕ}
use lib.ListN.{replicate}
use Rattle.definition.specs.Question.{Refusal}
use Rattle.definition.specs.Sheet.{Sheet}
use Rattle.definition.specs.Outside.{Outside, based}
use Rattle.definition.specs.Outcome.{Outcome, refused_at, asked, buffer}
use Rattle.machine.specs.Machine.{State}
use Rattle.machine.specs.Reads.{Walked}
use Rattle.answer.specs.declared.Answer.{Answer}
use Rattle.answer.specs.Tells.{Tells}
use Rattle.finish.specs.Settled.{Settled}
use Rattle.finish.proofs.SettledLaws.{settled_no}
use Rattle.raise.specs.RaisedWords.{raised_words}
use Rattle.raise.proofs.BasedLaws.{raised_outcome, raised_count, asked_based, refused_based, raised_buffer}

-- what an outcome tells but its rows does not depend on the base
tells_raised : (n : ℕ) (o : Outcome) {x : Answer} → Tells o x → Tells (raised_outcome n o) x
tells_raised n o t =
    record {
      number = t.number;
      file = t.file;
      line = t.line;
      column = t.column;
      name = t.name;
      rows = t.rows ∙ sym (raised_count n o.rows);
      globals = t.globals;
    }

-- questions 5 to 22 over base 0, and the same over base n once the rows are raised
pub settled_based : (O : Outside) → O.base ≡ 0 → (n : ℕ) {s : Sheet} {lent : ℕ} {x : Answer} {v w : List ℕ}
    → Settled O s lent x v → w ≡ raised_words n x.rows v → Settled (based O n) s lent x w
settled_based O z n {s} {lent} {x} h e =
    record {
      tells = subst (λ (o : Outcome). Tells o x) (sym (asked_based O z n lent s)) (tells_raised n (asked O lent s) h.tells);
      words = e ∙ raised_buffer O z s lent h.tells.rows h.words n;
    }

-- a question of the walk gets a no: there is nothing to raise
pub walk_based : (O : Outside) → O.base ≡ 0 → (n : ℕ) {s : Sheet} {lent : ℕ} (z : State) → Walked O s z → (r : Refusal) → z.refusal ≡ r → (r.number ≡ 0 → ⊥) → {x : Answer} {w : List ℕ}
    → Tells (refused_at r.number s r.at r.name) x → w ≡ replicate lent 0 → Settled (based O n) s lent x w
walk_based O base n {s} {lent} z h r k f {x} {w} t i =
    let e = sym (refused_based O base n lent s no) in
    record { tells = subst (λ (o : Outcome). Tells o x) e plain.tells; words = plain.words ∙ ap (buffer lent) e }
  where
    plain : Settled O s lent x w
    plain =
        settled_no O base s lent x w r.number r.at r.name
        (sym (h.refused (λ e. f (sym (ap (λ (q : Refusal). q.number) k) ∙ h.accepted e))) ∙ k) f t i

    no : (asked O lent s).number ≡ 0 → ⊥
    no e = f (sym t.number ∙ plain.tells.number ∙ e)
