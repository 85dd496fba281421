-- What is proved of the definitions of this crate, for readers and for the crates above.
use mathlib.Core.Path.{◌≡◌, sym, ap, ◌∙◌}
use mathlib.Core.Logic.{◌⊎◌, inl, inr}
use mathlib.Core.List.{[], ◌∷◌}
use mathlib.Core.Bool.{not}
use lib.Dec.{eqb, T, T_not, eqb→eq}
use Rattle.definition.specs.Sheet.{Sheet}
use Rattle.definition.specs.Outside.{Outside}
use Rattle.definition.specs.Walk.{walk}
use Rattle.definition.specs.Scope.{start, history}
use Rattle.definition.specs.Slots.{final_globals}
use Rattle.definition.specs.Question.{Refusal, first_no, refusal}
use Rattle.definition.specs.Answer.{answers}
use Rattle.definition.proofs.Lists.Tests.{decide, eqb_of}
use Rattle.machine.specs.Machine.{State}
use Rattle.machine.specs.Reads.{PastFour, Walked, walk_refusal}
use Rattle.machine.proofs.Refinement.{until_all}
use Rattle.machine.proofs.AfterCalls.{refused_in_walk}
use Rattle.after.specs.Inherited.{classes_refusal, calls_refusal}
use Rattle.after.specs.Rows.{answers_in}
use Rattle.after.proofs.Climbs.{later_same}
use Rattle.after.proofs.Answers.{answers_same}

-- What the definition says of a sheet, read off the state x after its walk.
pub record Follows (O : Outside) (s : Sheet) (x : State) : Type 0 where
  pub refusal_is : refusal O s (history O s) ≡ first_no (classes_refusal O s x.store ∷ calls_refusal O s x.store ∷ [])
  pub answers_are : answers O s (history O s) ≡ answers_in O s x.store
  pub globals_are : final_globals s (history O s) ≡ x.scopes.next_global

-- where the machine refused nothing, the definition has no no in the walk
pub walk_accepted : (O : Outside) (s : Sheet) (x : State) → Walked O s x → x.refusal.number ≡ 0 → (walk_refusal O s).number ≡ 0
walk_accepted O s x w z = go (decide (eqb (walk_refusal O s).number 0))
  where
    go : T (eqb (walk_refusal O s).number 0) ⊎ T (not (eqb (walk_refusal O s).number 0)) → (walk_refusal O s).number ≡ 0
    go (inl t) = eqb→eq (walk_refusal O s).number 0 t
    go (inr t) =
        let n : (walk_refusal O s).number ≡ 0 → ⊥ = λ e. T_not (eqb (walk_refusal O s).number 0) t (eqb_of (walk_refusal O s).number 0 e) in
        ap (λ (y : Refusal). y.number) (sym (refused_in_walk O s n) ∙ sym (w.refused n)) ∙ z

-- After the accepted walk of every sheet past the first four questions, the definitions of this crate say what the definition says.
pub follows : (O : Outside) (s : Sheet) (x : State) → PastFour O s → Walked O s x → x.refusal.number ≡ 0 → Follows O s x
follows O s x ok w z =
    record {
      refusal_is = w.later e ∙ later_same ok (w.store e);
      answers_are = answers_same ok (w.store e);
      globals_are = sym (w.globals ∙ ap (final_globals s) (until_all O s (start O) (walk s) e));
    }
  where
    e : (walk_refusal O s).number ≡ 0
    e = walk_accepted O s x w z
