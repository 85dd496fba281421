-- The questions 18 to 21, asked of what is stored.
use mathlib.Core.Path.{◌≡◌, ap, fun_ext}
use mathlib.Core.List.{List, [], ◌∷◌, map}
use Prim.Native.Nat.{ℕ, suc}
use Rattle.definition.specs.Sheet.{Sheet, rows}
use Rattle.definition.specs.Outside.{Outside, Method}
use Rattle.definition.specs.Scope.{history}
use Rattle.definition.specs.Classes.{own_methods, merge_methods, inheriting, parent_of, methods}
use Rattle.definition.specs.Question.{Refusal, first_no, ask_climb, first_of_classes, ask_init}
use Rattle.machine.specs.Machine.{Store, Node, chain_to}
use Rattle.machine.specs.Reads.{StoreReads, PastFour, check_call, later_refusal}
use Rattle.after.specs.Inherited.{climb_in, classes_refusal, methods_in, calls_refusal}
use Rattle.after.proofs.Parents.{parents_are}

module _ {O : Outside} {s : Sheet} (ok : PastFour O s) {o : Store} (k : StoreReads O s o) where
  -- the climb from a class
  climbs : (n : ℕ) (met : List ℕ) (c : ℕ) → ask_climb O s (parent_of s (history O s)) n met c ≡ climb_in O s o n met c
  unfolding climb_in
  climbs n met c = ap (λ (parent : ℕ → ℕ). ask_climb O s parent n met c) (parents_are ok k)

  classes_refusal_lem : first_of_classes s (ask_climb O s (parent_of s (history O s)) (suc (rows s)) []) ≡ classes_refusal O s o
  classes_refusal_lem = ap (first_of_classes s) (fun_ext (climbs (suc (rows s)) []))

  -- methods after inheritance
  pub methods_same : (n c : ℕ) → methods O s (history O s) n c ≡ methods_in O s o n c
  unfolding methods_in
  methods_same n c = ap (λ (parent : ℕ → ℕ). inheriting merge_methods parent (own_methods O s) n c) (parents_are ok k)

  calls_refusal_lem : first_no (map (check_call O s (history O s)) (chain_to o.nodes o.calls)) ≡ calls_refusal O s o
  calls_refusal_lem =
      ap (λ (f : Node → Refusal). first_no (map f (chain_to o.nodes o.calls)))
      (fun_ext (λ y. ap (λ (ms : List Method). ask_init O s ms y.key y.one) (methods_same (rows s) y.one)))

  -- the first no after the walk
  pub later_same : later_refusal O s o ≡ first_no (classes_refusal O s o ∷ calls_refusal O s o ∷ [])
  later_same = rw (classes_refusal_lem, calls_refusal_lem)
