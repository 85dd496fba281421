use mathlib.Core.Path.{◌≡◌}
use mathlib.Core.List.{List}
use Prim.Native.Nat.{ℕ, ◌≤◌}
use lib.ListN.{length}
use Rattle.definition.specs.Sheet.{rows}
use Rattle.outside.specs.Words.{over}
use Rattle.store.specs.Stored.{store_of}
use Rattle.store.specs.declared.nodes.Store.{Store}
use Rattle.inherit.proofs.ParentLaws.{Listed}
use Rattle.inherit.proofs.list_parents.Given as goal

abbrev pub invariant-loop-r : goal.invariant-loop-r
invariant-loop-r l =
    ((o : Store) (q : List ℕ) → Listed (over l.outside) l.sheet (store_of o l.results q) l.parents l.r) × (length l.parents ≡ length l.initial.parents) × (l.r ≤ rows l.sheet)
