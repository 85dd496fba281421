-- The parents of classes, as stored.
use mathlib.Core.Path.{◌≡◌, refl, sym, ◌∙◌, subst, fun_ext}
use mathlib.Core.List.{List, map}
use mathlib.Core.Bool.{Bool, true, false}
use Prim.Native.Nat.{ℕ, ◌+◌, ◌-◌}
use native.Mathlib.Omega.{arith}
use lib.Dec.{eqb, leb, T, leb→le}
use Rattle.definition.specs.Basics.{when◌then◌else◌, filter, final, largest}
use Rattle.definition.specs.Sheet.{Sheet, a, b, is}
use Rattle.definition.specs.Outside.{Outside}
use Rattle.definition.specs.Meaning.{class_number}
use Rattle.definition.specs.Scope.{Moment, lookup, visited, visits, history}
use Rattle.definition.specs.Classes.{of_sheet, parent_of}
use Rattle.definition.proofs.Lists.Tests.{if_true, and_left, and_right}
use Rattle.machine.specs.Machine.{Store, cell}
use Rattle.machine.specs.Reads.{StoreReads, PastFour}
use Rattle.after.specs.Inherited.{parent_in}
use Rattle.after.proofs.Ranges.{row_of_kind}

pick_parent : (t : Bool) (x y : ℕ) → (T t → x ≡ y) → (when t then x else 0) ≡ (when t then y else 0)
pick_parent true x y f = f tt
pick_parent false x y f = refl

module _ {O : Outside} {s : Sheet} (ok : PastFour O s) where
  module _ {o : Store} (k : StoreReads O s o) where
    pub parents : (c : ℕ) → parent_of s (history O s) c ≡ parent_in s o c
    unfolding parent_in
    parents c = pick_parent (of_sheet s c) declared (cell o.table (c - 256) 1) stored
      where
        map_of : List Moment → List ℕ
        map_of ms = map (λ m. class_number (lookup (b s (c - 256)) m.stack)) ms

        declared : ℕ
        declared = largest (final (map_of (filter (λ m. eqb (a s (visited m.event)) (c - 256)) (visits s (history O s) 30))))

        stored : T (of_sheet s c) → declared ≡ cell o.table (c - 256) 1
        stored t =
            let u : T (is s 4 (c - 256)) = and_right (leb 256 c) (is s 4 (c - 256)) t in
            let e : 256 + (c - 256) ≡ c = omega (arith, leb→le 256 c (and_left (leb 256 c) (is s 4 (c - 256)) t)) in
            sym (if_true (of_sheet s c) declared 0 t)
            ∙ subst (λ (d : ℕ). parent_of s (history O s) d ≡ cell o.table (c - 256) 1) e (k.parents (c - 256) (row_of_kind ok 3 (c - 256) u) u)

    pub parents_are : parent_of s (history O s) ≡ parent_in s o
    parents_are = fun_ext parents
