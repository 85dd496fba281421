-- After the walk: the first no of the definition, split into the walk's questions and those asked later, of the stored calls.
use mathlib.Core.Path.{◌≡◌, refl, sym, ap, ◌∙◌}
use mathlib.Core.List.{List, [], ◌∷◌, map}
use mathlib.Core.Bool.{Bool, true, false, not}
use Prim.Native.Nat.{suc}
use lib.Dec.{eqb}
use borrow.Author.Tests.{eq-eqb, ne_eqb}
use Rattle.definition.specs.Basics.{when◌then◌else◌, filter}
use Rattle.definition.specs.Sheet.{Sheet, rows}
use Rattle.definition.specs.Outside.{Outside}
use Rattle.definition.specs.Scope.{Moment, visited, visits, history}
use Rattle.definition.specs.Question.{Refusal, none, first_no, open_on, constructed, ask_climb, first_of_classes, ask_constructor, refusal}
use Rattle.definition.specs.Classes.{parent_of}
use Rattle.machine.specs.Machine.{Store, chain_to}
use Rattle.machine.specs.Reads.{call_node, calls_of, check_call, walk_refusal, later_refusal}

-- calls that construct nothing ask nothing
calls_asked : (O : Outside) (s : Sheet) (h ms : List Moment)
    → first_no (map (ask_constructor O s h) ms) ≡ first_no (map (check_call O s h) (map (call_node s) (filter (λ m. not (eqb (constructed s (visited m.event) (open_on s m.stack)) 0)) ms)))
calls_asked O s h [] = refl
calls_asked O s h (m ∷ ms) = go (eqb (constructed s (visited m.event) (open_on s m.stack)) 0) (calls_asked O s h ms)
  where
    rest : List Moment
    rest = filter (λ m. not (eqb (constructed s (visited m.event) (open_on s m.stack)) 0)) ms

    go : (t : Bool) → first_no (map (ask_constructor O s h) ms) ≡ first_no (map (check_call O s h) (map (call_node s) rest))
        → first_no ((when t then none else check_call O s h (call_node s m)) ∷ map (ask_constructor O s h) ms)
        ≡ first_no (map (check_call O s h) (map (call_node s) (when not t then m ∷ rest else rest)))
    go true i = i
    go false i = ap (λ (x : Refusal). when not (eqb (check_call O s h (call_node s m)).number 0) then check_call O s h (call_node s m) else x) i

pub refused_in_walk : (O : Outside) (s : Sheet) → ((walk_refusal O s).number ≡ 0 → ⊥) → refusal O s (history O s) ≡ walk_refusal O s
refused_in_walk O s e = rw (ne_eqb (walk_refusal O s).number 0 e)

pub refused_later : (O : Outside) (s : Sheet) (o : Store)
    → chain_to o.nodes o.calls ≡ map (call_node s) (calls_of s (history O s)) → (walk_refusal O s).number ≡ 0
    → refusal O s (history O s) ≡ later_refusal O s o
refused_later O s o c e =
    rw (eq-eqb (walk_refusal O s).number 0 e)
    (ap (λ (x : Refusal). first_no (first_of_classes s (ask_climb O s (parent_of s (history O s)) (suc (rows s)) []) ∷ x ∷ []))
    (calls_asked O s (history O s) (visits s (history O s) 59) ∙ ap (λ l. first_no (map (check_call O s (history O s)) l)) (sym c)))
