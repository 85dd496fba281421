use Rattle.after.specs.Inherited.{methods_in}
use Rattle.store.specs.declared.nodes.Store.{Store}
use Rattle.store.specs.Stored.{store_of}
use Rattle.outside.specs.Words.{over}
use Rattle.definition.specs.Classes.{method_of}
use Prim.Native.Nat.{ℕ}
use mathlib.Core.Path.{◌≡◌}
use mathlib.Core.List.{List}
use Rattle.inherit.proofs.find_method.Given as goal

abbrev pub invariant-loop-left : goal.invariant-loop-left
invariant-loop-left l =
    (o : Store) (q : List ℕ)
    → method_of l.n (methods_in (over l.outside) l.sheet (store_of o l.results q) l.left l.at)
    ≡ method_of l.n (methods_in (over l.outside) l.sheet (store_of o l.results q) l.initial.left l.initial.at)

abbrev pub decreases-loop-left : goal.decreases-loop-left
decreases-loop-left l = l.left
